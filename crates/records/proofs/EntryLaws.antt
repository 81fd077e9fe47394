-- Reading the entries of records one after another: what the loop knows after i of them. Assumes nothing.
use Prim.Native.Nat.{ℕ, zero, suc, ◌+◌, ◌-◌, ◌≤◌, ◌<◌}
use mathlib.Core.Path.{◌≡◌, refl, sym, ◌∙◌, ap, subst}
use mathlib.Core.List.{List, [], ◌∷◌}
use Rattle.std.specs.Prelude.{Option, Some, None}
use native.Mathlib.Omega.{arith}
use native.Mathlib.Numerals.{add-one}
use lib.ListN.{length, set}
use lib.Seq.{sets}
use Rattle.lists.specs.Lists.{overwrite}
use Rattle.records.specs.Marks.{size}
use Rattle.records.specs.Records.{record_at, and_then, entries_at, ReadEntries}
use Rattle.records.specs.declared.Kind.{Kind}
use Rattle.records.specs.declared.Fields.{Fields}
use Rattle.lists.proofs.WriteLaws.{sets_front}
use Rattle.records.proofs.ReadLaws.{found_room}

pub length_entries : (k : Kind) (bytes : List ℕ) (at n : ℕ) → length (entries_at k bytes at n) ≤ n
unfolding entries_at
length_entries k bytes at zero = omega arith
length_entries k bytes at (suc n) = step (record_at k bytes at) (entries_at k bytes (at + size k) n) (length_entries k bytes (at + size k) n)
  where
    step : (o : Option Fields) (rest : List ℕ) → length rest ≤ n → length (and_then o rest) ≤ suc n
    step (Some f) rest h = omega arith
    step None rest h = omega arith

-- The entries from a place on, where a record was found there and where none was.
pub entries_more : (k : Kind) (bytes : List ℕ) (at n : ℕ) {f : Fields} → record_at k bytes at ≡ Some f → entries_at k bytes at (suc n) ≡ f.first ∷ entries_at k bytes (at + size k) n
unfolding entries_at
entries_more k bytes at n h = simp h

pub entries_none : (k : Kind) (bytes : List ℕ) (at n : ℕ) → record_at k bytes at ≡ None → entries_at k bytes at n ≡ []
unfolding entries_at
entries_none k bytes at zero h = refl
entries_none k bytes at (suc n) h = simp h

-- What is still to be read from `place` on completes what was written to the entries from the start.
pub record Entering (k : Kind) (bytes : List ℕ) (at : ℕ) (out₀ : List ℕ) (step : ℕ) (out : List ℕ) (place i : ℕ) : Type 0 where
  pub steps : step ≡ size k
  pub rest : sets out i (entries_at k bytes place (length out₀ - i)) ≡ sets out₀ 0 (entries_at k bytes at (length out₀))
  pub counted : i + length (entries_at k bytes place (length out₀ - i)) ≡ length (entries_at k bytes at (length out₀))

module _ {k : Kind} {bytes : List ℕ} {at : ℕ} {out₀ : List ℕ} {step : ℕ} {out : List ℕ} {place i : ℕ} (w : Entering k bytes at out₀ step out place i) where
  pub entering_fits : {f : Fields} → record_at k bytes place ≡ Some f → place + step ≤ length bytes
  entering_fits {f} e = omega (arith, w.steps, found_room k bytes place e)

  pub entering_next : {f : Fields} → i < length out₀ → Some f ≡ record_at k bytes place
      → Entering k bytes at out₀ step (set out i f.first) (place + step) (i + 1)
  entering_next {f} l e = record {
    steps = w.steps;
    rest = ap (λ (j : ℕ). sets (set out i f.first) j rest') (add-one i) ∙ sym (ap (sets out i) first) ∙ w.rest;
    counted = omega (arith, ap length first, w.counted);
  }
    where
      rest' : List ℕ
      rest' = entries_at k bytes (place + step) (length out₀ - (i + 1))

      one : length out₀ - i ≡ suc (length out₀ - (i + 1))
      one = omega arith

      first : entries_at k bytes place (length out₀ - i) ≡ f.first ∷ rest'
      first =
          ap (entries_at k bytes place) one
          ∙ entries_more k bytes place (length out₀ - (i + 1)) (sym e)
          ∙ ap (λ (j : ℕ). f.first ∷ entries_at k bytes (place + j) (length out₀ - (i + 1))) (sym w.steps)

  -- Nothing more is to be read.
  ended : entries_at k bytes place (length out₀ - i) ≡ [] → ReadEntries k bytes at out₀ i out
  ended none = record { counted = omega (arith, w.counted, ap length none); written = write }
    where
      write : out ≡ overwrite (entries_at k bytes at (length out₀)) out₀
      write =
          sym (ap (sets out i) none) ∙ w.rest
          ∙ sets_front (entries_at k bytes at (length out₀)) out₀ (length_entries k bytes at (length out₀))

  pub entering_missing : None ≡ record_at k bytes place → ReadEntries k bytes at out₀ i out
  entering_missing e = ended (entries_none k bytes place (length out₀ - i) (sym e))

  pub entering_end : {c : ℕ} → c ≡ i → length out₀ ≤ i → ReadEntries k bytes at out₀ c out
  unfolding entries_at
  entering_end {c} e l = subst (λ j. ReadEntries k bytes at out₀ j out) (sym e) (ended (ap (entries_at k bytes place) (none l)))
    where
      none : length out₀ ≤ i → length out₀ - i ≡ 0
      none l = omega arith
