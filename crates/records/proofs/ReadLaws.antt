-- Reading one record: whether it is there, and its fields. Assumes nothing.
use Prim.Native.Nat.{ℕ, ◌+◌, ◌≤◌, ◌<◌}
use mathlib.Core.Path.{◌≡◌, refl, sym, ◌∙◌, ap}
use mathlib.Core.Bool.{Bool, true, false, not, ◌&&◌}
use mathlib.Core.List.{List}
use Rattle.std.specs.Prelude.{Option, Some, None}
use native.Mathlib.Omega.{arith}
use borrow.Author.Tests.{le-leb, lt-leb, eq-eqb, ne_eqb, leb-true, eqb-true, lt-ltb, not-true, not-false}
use lib.Dec.{leb, ltb, eqb}
use lib.ListN.{length, get_or}
use Rattle.std.proofs.lemmas.Option.{same_Some}
use Rattle.lists.specs.Search.{pick}
use Rattle.records.specs.Marks.{mark_of, size}
use Rattle.records.specs.Records.{field_at, has_record, field_of, found, record_at, found_if}
use Rattle.records.specs.declared.Kind.{Kind}
use Rattle.records.specs.declared.Mark.{Mark}
use Rattle.records.specs.declared.Fields.{Fields}
use Rattle.records.proofs.MarkLaws.{both, fields_of, fields_one, fields_low}

module _ (k : Kind) (bytes : List ℕ) (at : ℕ) where
  -- ---- whether a record is there

  pub has_short : length bytes < at + size k → false ≡ has_record k bytes at
  unfolding has_record
  has_short h = simp (lt-leb (at + size k) (length bytes) h)

  pub has_other : {m : Mark} → m ≡ mark_of k → at + size k ≤ length bytes → (get_or bytes at 0 ≡ m.high → ⊥) → false ≡ has_record k bytes at
  unfolding has_record
  has_other {m} e l h =
      let n : get_or bytes at 0 ≡ (mark_of k).high → ⊥ = λ g. h (g ∙ ap (λ (q : Mark). q.high) (sym e)) in
      simp (le-leb (at + size k) (length bytes) l, ne_eqb (get_or bytes at 0) (mark_of k).high n)

  pub has_mark : {m : Mark} → m ≡ mark_of k → at + size k ≤ length bytes → get_or bytes at 0 ≡ m.high → eqb (get_or bytes (at + 1) 0) m.low ≡ has_record k bytes at
  unfolding has_record
  has_mark {m} e l h =
      let g : get_or bytes at 0 ≡ (mark_of k).high = cc in
      simp (e, le-leb (at + size k) (length bytes) l, eq-eqb (get_or bytes at 0) (mark_of k).high g)

  -- ---- what a record that is there says of the bytes

  module _ (h : has_record k bytes at ≡ true) where
    tests : (leb (at + size k) (length bytes) ≡ true) × ((eqb (get_or bytes at 0) (mark_of k).high && eqb (get_or bytes (at + 1) 0) (mark_of k).low) ≡ true)
    unfolding has_record
    tests = both (leb (at + size k) (length bytes)) (eqb (get_or bytes at 0) (mark_of k).high && eqb (get_or bytes (at + 1) 0) (mark_of k).low) h

    marks : (eqb (get_or bytes at 0) (mark_of k).high ≡ true) × (eqb (get_or bytes (at + 1) 0) (mark_of k).low ≡ true)
    marks = both (eqb (get_or bytes at 0) (mark_of k).high) (eqb (get_or bytes (at + 1) 0) (mark_of k).low) tests.1

    pub has_room : at + size k ≤ length bytes
    has_room = leb-true (at + size k) (length bytes) tests.0

    pub has_high : get_or bytes at 0 ≡ (mark_of k).high
    has_high = eqb-true (get_or bytes at 0) (mark_of k).high marks.0

    pub has_low : get_or bytes (at + 1) 0 ≡ (mark_of k).low
    has_low = eqb-true (get_or bytes (at + 1) 0) (mark_of k).low marks.1

  module _ {f : Fields} (h : record_at k bytes at ≡ Some f) where
    pub found_has : has_record k bytes at ≡ true
    unfolding record_at
    found_has = only (has_record k bytes at) (found (field_of k bytes at 0) (field_of k bytes at 1)) h
      where
        only : (b : Bool) (o : Option Fields) → found_if b o ≡ Some f → b ≡ true
        only true o q = refl
        only false o q = cc

    -- A record that was found has all its bytes.
    pub found_room : at + size k ≤ length bytes
    found_room = has_room found_has

    found_fields : found (field_of k bytes at 0) (field_of k bytes at 1) ≡ Some f
    unfolding record_at
    found_fields = ap (λ (b : Bool). found_if b (found (field_of k bytes at 0) (field_of k bytes at 1))) (sym found_has) ∙ h

    pub found_first : f.first ≡ field_at bytes (at + 2)
    unfolding field_of
    found_first = let e : field_of k bytes at 0 ≡ f.first = ap (λ (g : Fields). g.first) (same_Some _ _ found_fields) in sym e ∙ ap (λ (t : Bool). pick t (field_at bytes (at + 2))) (lt-ltb 0 (mark_of k).fields (fields_low k))

    pub found_second : (mark_of k).fields ≡ 2 → f.second ≡ field_at bytes (at + 4)
    unfolding field_of
    found_second two = let e : field_of k bytes at 1 ≡ f.second = ap (λ (g : Fields). g.second) (same_Some _ _ found_fields) in sym e ∙ ap (λ (n : ℕ). pick (ltb 1 n) (field_at bytes (at + 4))) two

  -- ---- its fields, after the test r for the record

  module _ {r : Bool} (is : r ≡ has_record k bytes at) where
    pub no_record : not r ≡ true → None ≡ record_at k bytes at
    unfolding record_at
    no_record n = simp (sym is, not-true r n)

    pub there : not r ≡ false → has_record k bytes at ≡ true
    there n = sym is ∙ not-false r n

    module _ (n : not r ≡ false) where
      -- The bytes of the first field are there, and those of a second where the kind has one.
      pub room_one : at + 4 ≤ length bytes
      room_one = omega (arith, has_room (there n), fields_low k)

      pub room_two : {m : Mark} → m ≡ mark_of k → m.fields ≡ 2 → at + 6 ≤ length bytes
      room_two e f = omega (arith, has_room (there n), fields_of k e)

      pub one_field : {m : Mark} {x : ℕ} → m ≡ mark_of k → (m.fields ≡ 2 → ⊥) → x ≡ field_at bytes (at + 2) → found x 0 ≡ record_at k bytes at
      unfolding record_at field_of
      one_field {m} {x} e f v = simp (there n, fields_one k e f, v)

      pub two_fields : {m : Mark} {x y : ℕ} → m ≡ mark_of k → m.fields ≡ 2 → x ≡ field_at bytes (at + 2) → y ≡ field_at bytes (at + 4) → found x y ≡ record_at k bytes at
      unfolding record_at field_of
      two_fields {m} {x} {y} e f v w = simp (there n, sym (fields_of k e) ∙ f, v, w)
