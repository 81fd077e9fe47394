-- Writing one record: the stores of the code are the bytes of the record at its place. Assumes nothing.
use Prim.Native.Nat.{ℕ, suc, ◌+◌, ◌*◌, ◌/◌, ◌%◌, ◌≤◌, ◌<◌}
use mathlib.Core.Path.{◌≡◌, refl, sym, ◌∙◌, ap, ap₂}
use mathlib.Core.List.{List, [], ◌∷◌}
use native.Mathlib.Omega.{arith}
use native.Mathlib.Numerals.{add-one}
use borrow.Rule.Slice.PartMut.{put_mid}
use lib.ListN.{length, take, set}
use lib.Seq.{sets}
use Rattle.records.specs.Marks.{mark_of, size}
use Rattle.records.specs.Records.{field_bytes, record_bytes, PutRecord}
use Rattle.lists.specs.Lists.{overwrite_at}
use Rattle.records.specs.declared.Kind.{Kind}
use Rattle.records.specs.declared.Mark.{Mark}
use Rattle.lists.proofs.WriteLaws.{sets_at}
use Rattle.records.proofs.MarkLaws.{by_fields, fields_of, fields_one}

pub length_record : (k : Kind) (x y : ℕ) → length (record_bytes k (x ∷ y ∷ [])) ≡ size k
unfolding record_bytes
length_record k x y = by_fields (λ n. length ((mark_of k).high ∷ (mark_of k).low ∷ field_bytes (take n (x ∷ y ∷ []))) ≡ 2 + 2 * n) k refl refl

-- The space with the mark written.
abbrev pub marked : Mark → ℕ → List ℕ → List ℕ
marked m at l = set (set l at m.high) (at + 1) m.low

up_two : {at : ℕ} → at + 2 ≡ suc (suc at)
up_two = omega arith

up_four : {at : ℕ} → at + 4 ≡ suc (suc (suc (suc at)))
up_four = omega arith

module _ (k : Kind) {m : Mark} (e : m ≡ mark_of k) (at : ℕ) (l : List ℕ) (room : at + size k ≤ length l) (x y : ℕ) {n : ℕ} (whole : n ≡ size k) where
  written : {l' : List ℕ} → l' ≡ sets l at (record_bytes k (x ∷ y ∷ [])) → l' ≡ overwrite_at at (record_bytes k (x ∷ y ∷ [])) l
  written s = s ∙ sets_at at (record_bytes k (x ∷ y ∷ [])) l (omega (arith, length_record k x y))

  pub put_one : {l₁ : List ℕ} → l₁ ≡ sets (marked m at l) (at + 2) (field_bytes (x ∷ [])) → (m.fields ≡ 2 → ⊥) → PutRecord k x y at l (at + n) l₁
  unfolding record_bytes
  put_one {l₁} s f =
      record { after = ap (λ (j : ℕ). at + j) whole; written = written (s ∙ simp (e, fields_one k e f, add-one at, up_two)) }

  pub put_two : {l₁ l₂ : List ℕ} → l₁ ≡ sets (marked m at l) (at + 2) (field_bytes (x ∷ [])) → m.fields ≡ 2 → l₂ ≡ sets l₁ (at + 4) (field_bytes (y ∷ []))
      → PutRecord k x y at l (at + n) l₂
  unfolding record_bytes
  put_two {l₁} {l₂} s f t =
      record { after = ap (λ (j : ℕ). at + j) whole; written = written (t ∙ simp (s, e, sym (fields_of k e) ∙ f, add-one at, up_two, up_four)) }

-- ---- writing one field

-- The bytes of a number, written over two bytes of a list.
pub field_written : (l : List ℕ) (at v : ℕ) {k : ℕ} {bytes written : List ℕ} → at + 1 < length l → v < 65536 → k ≡ 2 → bytes ≡ v / 256 % 256 ∷ v % 256 ∷ []
    → written ≡ bytes → put_mid at k l written ≡ sets l at (field_bytes (v ∷ []))
unfolding overwrite_at
field_written l at v {k} {bytes} {written} room small two own all =
    let high : v / 256 % 256 ≡ v / 256 = omega arith in
    let same : written ≡ field_bytes (v ∷ []) = all ∙ own ∙ ap (λ i. i ∷ v % 256 ∷ []) high in
    ap₂ (λ i w. put_mid at i l w) two same ∙ sym (sets_at at (field_bytes (v ∷ [])) l (omega arith))
