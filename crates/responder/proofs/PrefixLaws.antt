-- A record that ends within some bytes is read the same with more behind them, and one that they end with is read too. Assumes nothing.
use Prim.Native.Nat.{ℕ, zero, suc, ◌+◌, ◌*◌, ◌≤◌, ◌<◌, min}
use mathlib.Core.Path.{◌≡◌, refl, sym, ◌∙◌, ap, ap₂}
use mathlib.Core.Logic.{◌≢◌}
use mathlib.Core.Bool.{Bool, true, false, ◌&&◌}
use mathlib.Core.List.{List, [], ◌∷◌, ◌++◌}
use Rattle.std.specs.Prelude.{Option, Some, None}
use native.Mathlib.Omega.{arith}
use borrow.Author.Tests.{le-leb, ltb-true}
use lib.Dec.{ltb, eqb}
use lib.ListN.{length, length-append, get_or-append}
use Rattle.lists.specs.Search.{pick}
use Rattle.records.specs.Marks.{mark_of, size}
use Rattle.records.specs.Records.{field_at, has_record, field_of, found, record_at, found_if, and_then, entries_at, record_bytes}
use Rattle.records.specs.declared.Kind.{Kind}
use Rattle.records.specs.declared.Fields.{Fields}
use Rattle.records.specs.RoundTrip.{Bytes, entry_bytes}
use Rattle.records.proofs.ReadLaws.{found_room}
use Rattle.records.proofs.EntryLaws.{entries_none}
use Rattle.records.proofs.RoundTrip.{small_nil, small_append, round_trip, entries_trip}

module _ (bytes more : List ℕ) where
  abbrev all : List ℕ
  all = bytes ++ more

  same_field : (i : ℕ) → i + 1 < length bytes → field_at all i ≡ field_at bytes i
  same_field i h = ap₂ (λ a b. 256 * a + b) (get_or-append bytes more 0 i (omega arith)) (get_or-append bytes more 0 (i + 1) h)

  module _ (k : Kind) (at : ℕ) (ends : at + size k ≤ length bytes) where
    same_has : has_record k all at ≡ has_record k bytes at
    unfolding has_record
    same_has =
        ap₂
        (λ l r. l && r)
        (le-leb (at + size k) (length all) (omega (arith, length-append bytes more)) ∙ sym (le-leb (at + size k) (length bytes) ends))
        (ap₂
        (λ a b. eqb a (mark_of k).high && eqb b (mark_of k).low)
        (get_or-append bytes more 0 at (omega arith))
        (get_or-append bytes more 0 (at + 1) (omega arith)))

    same_fields : (i : ℕ) → field_of k all at i ≡ field_of k bytes at i
    unfolding field_of
    same_fields i = by (ltb i (mark_of k).fields) (λ e. same_field (at + 2 * (i + 1)) (omega (arith, ltb-true i (mark_of k).fields e)))
      where
        by : (t : Bool) → (t ≡ true → field_at all (at + 2 * (i + 1)) ≡ field_at bytes (at + 2 * (i + 1)))
            → pick t (field_at all (at + 2 * (i + 1))) ≡ pick t (field_at bytes (at + 2 * (i + 1)))
        by true e = e refl
        by false e = refl

    pub same_record : record_at k all at ≡ record_at k bytes at
    unfolding record_at
    same_record = ap₂ found_if same_has (ap₂ found (same_fields 0) (same_fields 1))

  -- Of n records, j are looked at: all of them, or those up to the first that is not there.
  pub same_entries : (k : Kind) (n j at : ℕ) → min n (suc (length (entries_at k bytes at n))) ≤ j → at + j * size k ≤ length bytes
      → entries_at k all at n ≡ entries_at k bytes at n
  unfolding entries_at
  same_entries k zero j at l h = refl
  same_entries k (suc n) zero at l h = absurd (omega arith)
  same_entries k (suc n) (suc j) at l h =
      ap (λ f. and_then f (entries_at k all (at + size k) n)) (same_record k at (omega arith))
      ∙ by (record_at k bytes at) (entries_at k bytes (at + size k) n) (λ m. same_entries k n j (at + size k) m (omega arith)) l
    where
      by : (o : Option Fields) (rest : List ℕ) → (min n (suc (length rest)) ≤ j → entries_at k all (at + size k) n ≡ rest)
          → min (suc n) (suc (length (and_then o rest))) ≤ suc j → and_then o (entries_at k all (at + size k) n) ≡ and_then o rest
      by (Some f) rest same m = ap (λ r. f.first ∷ r) (same (omega arith))
      by None rest same m = refl

-- ---- one record more

module _ (k : Kind) (bytes : List ℕ) where
  -- The records that are there have all their bytes.
  pub entries_room : (n at : ℕ) → at ≤ length bytes → at + length (entries_at k bytes at n) * size k ≤ length bytes
  unfolding entries_at
  entries_room zero at h = omega arith
  entries_room (suc n) at h = by (record_at k bytes at) refl (λ i. entries_room n (at + size k) i)
    where
      rest : List ℕ
      rest = entries_at k bytes (at + size k) n

      by : (o : Option Fields) → record_at k bytes at ≡ o → (at + size k ≤ length bytes → at + size k + length rest * size k ≤ length bytes)
          → at + length (and_then o rest) * size k ≤ length bytes
      by (Some f) e again = let r = again (found_room k bytes at e) in omega (arith, r)
      by None e again = omega arith

  -- With the record behind them there are more.
  pub entries_grow : (more : List ℕ) (n at : ℕ) → length (entries_at k bytes at n) < n
      → record_at k (bytes ++ more) (at + length (entries_at k bytes at n) * size k) ≢ None
      → length (entries_at k bytes at n) < length (entries_at k (bytes ++ more) at n)
  unfolding entries_at
  entries_grow more zero at l e = absurd (omega arith)
  entries_grow more (suc n) at l e = by (record_at k bytes at) refl (λ i j. entries_grow more n (at + size k) i j) l e
    where
      all : List ℕ
      all = bytes ++ more

      rest : List ℕ
      rest = entries_at k bytes (at + size k) n

      first : (o : Option Fields) (l : List ℕ) → o ≢ None → 0 < length (and_then o l)
      first (Some f) l e = omega arith
      first None l e = absurd (e refl)

      by : (o : Option Fields) → record_at k bytes at ≡ o
          → (length rest < n → record_at k all (at + size k + length rest * size k) ≢ None → length rest < length (entries_at k all (at + size k) n))
          → length (and_then o rest) < suc n → record_at k all (at + length (and_then o rest) * size k) ≢ None
          → length (and_then o rest) < length (and_then (record_at k all at) (entries_at k all (at + size k) n))
      by (Some f) g again l e =
          let same : record_at k all at ≡ Some f = same_record bytes more k at (found_room k bytes at g) ∙ g in
          let place : at + suc (length rest) * size k ≡ at + size k + length rest * size k = omega arith in
          let r = again (omega arith) (λ z. e (ap (record_at k all) place ∙ z)) in
          rw same (omega (arith, r))
      by None g again l e =
          let place : at + 0 * size k ≡ at = omega arith in
          first (record_at k all at) (entries_at k all (at + size k) n) (λ z. e (ap (record_at k all) place ∙ z))

-- The bytes of a record of a kind, and behind others it is there.
abbrev pub one : Kind → List ℕ
one k = entry_bytes k (0 ∷ []) ++ []

pub one_bytes : (k : Kind) → Bytes (one k)
unfolding entry_bytes
one_bytes k = small_append (entry_bytes k (0 ∷ [])) (small_append (record_bytes k (0 ∷ 0 ∷ [])) ((round_trip k 0 0 0 []).bytes (omega arith) (omega arith)) small_nil) small_nil

pub one_there : (k : Kind) (bytes : List ℕ) {at : ℕ} → length bytes ≡ at → record_at k (bytes ++ one k) at ≢ None
one_there k bytes e z =
    let none : entries_at k (bytes ++ one k) (length bytes) 1 ≡ [] = entries_none k (bytes ++ one k) (length bytes) 1 (ap (record_at k (bytes ++ one k)) e ∙ z) in
    let some : ◌≡◌ {A = ℕ} 0 1 = sym (ap length none) ∙ ap length (entries_trip k bytes (0 ∷ []) []).back in
    omega (arith, some)
