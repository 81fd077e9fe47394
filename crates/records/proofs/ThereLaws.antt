-- The sentences of question 12 and what the reader computes say the same. Assumes nothing.
use Prim.Native.Nat.{ℕ, zero, suc, ◌+◌, ◌*◌, ◌≤◌, ◌<◌}
use mathlib.Core.Path.{◌≡◌, refl, ◌∙◌, ap, subst}
use mathlib.Core.Logic.{◌⊎◌, inl, inr, ◌↔◌}
use mathlib.Core.List.{List}
use Rattle.std.specs.Prelude.{Option, Some, None}
use native.Mathlib.Omega.{arith}
use lib.ListN.{length, get_or}
use Rattle.lists.proofs.ReflectLaws.{Reflects, from_true, to_true, reflects_and, reflects_iff, eqb_reflects, leb_reflects, same?}
use Rattle.records.specs.Marks.{mark_of, size}
use Rattle.records.specs.Records.{field_at, has_record, field_of, found, record_at, found_if, entries_at}
use Rattle.records.specs.There.{There, AllThere, FirstMissing, Entries}
use Rattle.records.specs.declared.Kind.{Kind}
use Rattle.records.specs.declared.Fields.{Fields}
use Rattle.records.proofs.ReadLaws.{found_has, found_first}
use Rattle.records.proofs.EntryLaws.{length_entries, entries_more, entries_none}

-- ---- one record

module _ (k : Kind) (bytes : List ℕ) (at : ℕ) where
  pub there_reflects : Reflects (There k bytes at) (has_record k bytes at)
  unfolding has_record
  there_reflects =
      reflects_iff
      (λ h. record { all = h.0; high = h.1.0; low = h.1.1 })
      (λ w. (w.all, (w.high, w.low)))
      (reflects_and (leb_reflects (at + size k) (length bytes)) (reflects_and (eqb_reflects (get_or bytes at 0) (mark_of k).high) (eqb_reflects (get_or bytes (at + 1) 0) (mark_of k).low)))

  pub found_there : {f : Fields} → record_at k bytes at ≡ Some f → There k bytes at
  found_there e = from_true there_reflects (found_has k bytes at e)

  pub there_found : There k bytes at → record_at k bytes at ≡ found (field_of k bytes at 0) (field_of k bytes at 1)
  unfolding record_at
  there_found w = ap (λ b. found_if b (found (field_of k bytes at 0) (field_of k bytes at 1))) (to_true there_reflects w)

  pub missing_there : record_at k bytes at ≡ None → ¬ There k bytes at
  missing_there e w = let f = there_found w in cc

-- ---- records one after another

-- those that are read are there;
pub entries_there : (k : Kind) (bytes : List ℕ) (at n : ℕ) → AllThere k bytes at (length (entries_at k bytes at n))
unfolding entries_at
entries_there k bytes at zero = λ i l. absurd (omega arith)
entries_there k bytes at (suc n) = by (record_at k bytes at) refl (entries_there k bytes (at + size k) n)
  where
    by : (o : Option Fields) → record_at k bytes at ≡ o → AllThere k bytes (at + size k) (length (entries_at k bytes (at + size k) n))
        → AllThere k bytes at (length (entries_at k bytes at (suc n)))
    by None e rest i l = absurd (omega (arith, ap length (entries_none k bytes at (suc n) e)))
    by (Some f) e rest zero l = let here : at ≡ at + 0 * size k = omega arith in subst (There k bytes) here (found_there k bytes at e)
    by (Some f) e rest (suc i) l =
        let on : at + size k + i * size k ≡ at + suc i * size k = omega arith in
        subst (There k bytes) on (rest i (omega (arith, ap length (entries_more k bytes at n e))))

-- with their first fields;
entries_each : (k : Kind) (bytes : List ℕ) (at n i : ℕ) → i < length (entries_at k bytes at n) → get_or (entries_at k bytes at n) i 0 ≡ field_at bytes (at + i * size k + 2)
entries_each k bytes at zero i = λ l. absurd (omega (arith, length_entries k bytes at 0))
entries_each k bytes at (suc n) i = by (record_at k bytes at) refl i (λ j. entries_each k bytes (at + size k) n j)
  where
    by : (o : Option Fields) → record_at k bytes at ≡ o → (i : ℕ)
        → ((j : ℕ) → j < length (entries_at k bytes (at + size k) n) → get_or (entries_at k bytes (at + size k) n) j 0 ≡ field_at bytes (at + size k + j * size k + 2))
        → i < length (entries_at k bytes at (suc n)) → get_or (entries_at k bytes at (suc n)) i 0 ≡ field_at bytes (at + i * size k + 2)
    by None e i rest l = absurd (omega (arith, ap length (entries_none k bytes at (suc n) e)))
    by (Some f) e zero rest l =
        let here : at + 2 ≡ at + 0 * size k + 2 = omega arith in
        ap (λ s. get_or s 0 0) (entries_more k bytes at n e) ∙ found_first k bytes at e ∙ ap (field_at bytes) here
    by (Some f) e (suc i) rest l =
        let on : at + size k + i * size k + 2 ≡ at + suc i * size k + 2 = omega arith in
        let more = entries_more k bytes at n e in
        ap (λ s. get_or s (suc i) 0) more ∙ rest i (omega (arith, ap length more)) ∙ ap (field_at bytes) on

-- and the next is not.
pub entries_missing : (k : Kind) (bytes : List ℕ) (at n : ℕ) → length (entries_at k bytes at n) < n → ¬ There k bytes (at + length (entries_at k bytes at n) * size k)
entries_missing k bytes at zero l = absurd (omega arith)
entries_missing k bytes at (suc n) l = by (record_at k bytes at) refl (λ few. entries_missing k bytes (at + size k) n few)
  where
    by : (o : Option Fields) → record_at k bytes at ≡ o
        → (length (entries_at k bytes (at + size k) n) < n → ¬ There k bytes (at + size k + length (entries_at k bytes (at + size k) n) * size k))
        → ¬ There k bytes (at + length (entries_at k bytes at (suc n)) * size k)
    by None e rest w =
        let here : at + length (entries_at k bytes at (suc n)) * size k ≡ at = ap (λ s. at + length s * size k) (entries_none k bytes at (suc n) e) ∙ omega arith in
        missing_there k bytes at e (subst (There k bytes) here w)
    by (Some f) e rest w =
        let more = ap length (entries_more k bytes at n e) in
        let on : at + length (entries_at k bytes at (suc n)) * size k ≡ at + size k + length (entries_at k bytes (at + size k) n) * size k =
        ap (λ c. at + c * size k) more ∙ omega arith in
        rest (omega (arith, more)) (subst (There k bytes) on w)

-- Records that are all there end within the bytes.
pub all_room : (k : Kind) (bytes : List ℕ) (at n : ℕ) → at ≤ length bytes → AllThere k bytes at n → at + n * size k ≤ length bytes
all_room k bytes at zero l w = omega arith
all_room k bytes at (suc n) l w = let last = (w n (omega arith)).all in omega (arith, last)

module _ (k : Kind) (bytes : List ℕ) (at n : ℕ) where
  abbrev count : ℕ
  count = length (entries_at k bytes at n)

  pub all_there : (count ≡ n) ↔ AllThere k bytes at n
  all_there = (λ e. subst (AllThere k bytes at) e (entries_there k bytes at n), λ w. by w (same? count n))
    where
      by : AllThere k bytes at n → (count ≡ n) ⊎ (¬ (count ≡ n)) → count ≡ n
      by w (inl e) = e
      by w (inr m) = let few : count < n = omega (arith, m, length_entries k bytes at n) in absurd (entries_missing k bytes at n few (w count few))

  pub all_entries : AllThere k bytes at n → Entries k bytes at n (entries_at k bytes at n)
  all_entries w =
      let long : count ≡ n = all_there.1 w in
      record { there = w; long = long; each = λ i l. entries_each k bytes at n i (omega arith) }

  pub first_missing : count < n → FirstMissing k bytes at n count
  first_missing l = record { within = l; before = entries_there k bytes at n; missing = entries_missing k bytes at n l }

  -- no other number of records is there before one that is not
  pub missing_unique : {i : ℕ} → FirstMissing k bytes at n i → count ≡ i
  missing_unique {i} w = omega (arith, late, early)
    where
      late : ¬ (count < i)
      late l = entries_missing k bytes at n (omega (arith, w.within)) (w.before count l)

      early : ¬ (i < count)
      early l = w.missing (entries_there k bytes at n i l)

  pub missing_one : {i : ℕ} → FirstMissing k bytes at n i → ¬ AllThere k bytes at n
  missing_one {i} w h = w.missing (h i w.within)
