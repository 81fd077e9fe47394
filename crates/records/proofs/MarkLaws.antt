-- The table of marks: a test of every row holds of every kind, a record has one field or two, and marks are told apart. Assumes nothing.
use Prim.Native.Nat.{ℕ, zero, suc, ◌≤◌, ◌<◌}
use mathlib.Core.Path.{◌≡◌, refl, sym, ◌∙◌, ap, ap₂}
use mathlib.Core.Bool.{Bool, true, false, cond, ◌&&◌, false≢true}
use mathlib.Core.List.{List, [], ◌∷◌}
use native.Mathlib.Omega.{arith}
use borrow.Author.Tests.{leb-true, ltb-true}
use lib.Dec.{leb, ltb, eqb, lit<}
use lib.ListN.{length, get_or}
use Rattle.records.specs.Marks.{marks, row, mark_of}
use Rattle.records.specs.declared.Kind.{Kind}
use Rattle.records.specs.declared.Kind.TheVariants.{Hd, Nw, Gl, Pl, Lf, No, Hl, Ln}
use Rattle.records.specs.declared.Mark.{Mark}

-- Two tests passed together.
pub both : (a b : Bool) → (a && b) ≡ true → (a ≡ true) × (b ≡ true)
both true true q = (refl, refl)
both true false q = absurd (false≢true q)
both false b q = absurd (false≢true q)

-- ---- a test of every row

abbrev all : (Mark → Bool) → List Mark → Bool
all t [] = true
all t (m ∷ ms) = t m && all t ms

at_row : (t : Mark → Bool) (ms : List Mark) (i : ℕ) (d : Mark) → all t ms ≡ true → i < length ms → t (get_or ms i d) ≡ true
at_row t [] i d h l = absurd (omega arith)
at_row t (m ∷ ms) zero d h l = (both (t m) (all t ms) h).0
at_row t (m ∷ ms) (suc i) d h l = at_row t ms i d (both (t m) (all t ms) h).1 (omega arith)

pub row_small : (k : Kind) → row k < 8
row_small Hd = lit< tt
row_small Nw = lit< tt
row_small Gl = lit< tt
row_small Pl = lit< tt
row_small Lf = lit< tt
row_small No = lit< tt
row_small Hl = lit< tt
row_small Ln = lit< tt

every : (t : Mark → Bool) → all t marks ≡ true → (k : Kind) → t (mark_of k) ≡ true
unfolding mark_of marks
every t h k = at_row t marks (row k) (record { high = 0; low = 0; fields = 0 }) h (row_small k)

pub fields_low : (k : Kind) → 1 ≤ (mark_of k).fields
unfolding marks
fields_low k = leb-true 1 (mark_of k).fields (every (λ m. leb 1 m.fields) refl k)

pub fields_high : (k : Kind) → (mark_of k).fields ≤ 2
unfolding marks
fields_high k = leb-true (mark_of k).fields 2 (every (λ m. leb m.fields 2) refl k)

pub high_small : (k : Kind) → (mark_of k).high < 256
unfolding marks
high_small k = ltb-true (mark_of k).high 256 (every (λ m. ltb m.high 256) refl k)

pub low_small : (k : Kind) → (mark_of k).low < 256
unfolding marks
low_small k = ltb-true (mark_of k).low 256 (every (λ m. ltb m.low 256) refl k)

-- ---- one field or two

-- What holds of one field and of two holds of every kind.
pub by_fields : (P : ℕ → Type 0) (k : Kind) → P 1 → P 2 → P (mark_of k).fields
by_fields P k one two = either (mark_of k).fields (fields_low k) (fields_high k)
  where
    either : (n : ℕ) → 1 ≤ n → n ≤ 2 → P n
    either zero l h = absurd (omega arith)
    either (suc zero) l h = one
    either (suc (suc zero)) l h = two
    either (suc (suc (suc n))) l h = absurd (omega arith)

module _ (k : Kind) {m : Mark} (e : m ≡ mark_of k) where
  abbrev pub fields_of : m.fields ≡ (mark_of k).fields
  fields_of = ap (λ (q : Mark). q.fields) e

  pub fields_small : m.fields ≤ 2
  fields_small = omega (arith, fields_of, fields_high k)

  -- A kind that has not two fields has one.
  pub fields_one : (m.fields ≡ 2 → ⊥) → (mark_of k).fields ≡ 1
  fields_one h = omega (arith, h, fields_of, fields_low k, fields_high k)

-- ---- marks are told apart

found_kind : List Kind → ℕ → ℕ → Kind
found_kind [] h l = Hd
found_kind (k ∷ ks) h l = cond (eqb (mark_of k).high h && eqb (mark_of k).low l) k (found_kind ks h l)

abbrev kinds : List Kind
kinds = Hd ∷ Nw ∷ Gl ∷ Pl ∷ Lf ∷ No ∷ Hl ∷ Ln ∷ []

by_mark : (k : Kind) → found_kind kinds (mark_of k).high (mark_of k).low ≡ k
unfolding found_kind mark_of marks
by_mark Hd = refl
by_mark Nw = refl
by_mark Gl = refl
by_mark Pl = refl
by_mark Lf = refl
by_mark No = refl
by_mark Hl = refl
by_mark Ln = refl

pub own_mark : (j k : Kind) → (mark_of j).high ≡ (mark_of k).high → (mark_of j).low ≡ (mark_of k).low → j ≡ k
own_mark j k h l = sym (by_mark j) ∙ ap₂ (found_kind kinds) h l ∙ by_mark k
