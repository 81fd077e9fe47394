-- Loops over the blocks from 1 to n: what decides each test that a scan or a count asks. Assumes nothing.
use Prim.Native.Nat.{ℕ, suc, ◌+◌, ◌≤◌, ◌<◌}
use mathlib.Core.Path.{◌≡◌, ap, sym, ◌∙◌}
use mathlib.Core.Bool.{Bool, not}
use mathlib.Core.List.{List}
use native.Mathlib.Omega.{arith}
use native.Mathlib.Numerals.{add-one}
use borrow.Author.Tests.{eq-eqb, ne_eqb, lt-ltb, le-ltb}
use lib.Dec.{eqb}
use lib.ListN.{length, get_or}
use mir.Val.{bool_byte}
use Rattle.std.specs.Prelude.{Some, None}
use Rattle.lists.specs.Search.{lowest, nonzero, count}
use Rattle.lists.proofs.NonzeroLaws.{nonzero_none, nonzero_some}
use Rattle.lists.proofs.ReflectLaws.{reflects_same}
use Rattle.lists.proofs.SearchLaws.{count_ext}
use Rattle.lists.proofs.ScanLaws.{Scanned, scan_next, scan_found, scan_none, Counted, counted_begin, counted_next}
use Rattle.rows.specs.Rows.{Yard, stands_of}
use Rattle.blocks.specs.State.{State, most, support}
use Rattle.blocks.specs.Position.{Proper}
use Rattle.blocks.specs.Tests.{misplacedᵇ, misplaced_count}
use Rattle.blocks.specs.Question.{outsideᵇ, first_outside}
use Rattle.blocks.specs.Answer.{first_difference}
use Rattle.blocks.proofs.PositionLaws.{position_test}
use Rattle.problem.specs.Known.{Standings, right_in, misplaced_in}

-- ---- what a search answers, of a block that may be 0 for none

pub found_at : (i : ℕ) {x : ℕ} → i + 1 ≡ x → Some (i + 1) ≡ nonzero x
found_at i e = nonzero_some (i + 1) (λ z. omega arith) ∙ ap nonzero e

pub found_none : {x : ℕ} → 0 ≡ x → None ≡ nonzero x
found_none e = nonzero_none (sym e)

-- ---- question 4: the entries up to i are at most n

pub record Inside (s : State) (n i : ℕ) : Type 0 where
  pub all : n ≡ length s
  pub scanned : Scanned (outsideᵇ s) (length s) i

module _ {s : State} {n i x : ℕ} (w : Inside s n i) (h : i < n) (e : x ≡ get_or s i 0) where
  pub inside_next : x ≤ n → Inside s n (i + 1)
  unfolding outsideᵇ
  inside_next l = record { all = w.all; scanned = scan_next w.scanned (omega (arith, w.all)) (le-ltb (length s) (get_or s i 0) (omega (arith, w.all))) }

  pub inside_found : n < x → Some (i + 1) ≡ nonzero (first_outside s)
  unfolding first_outside outsideᵇ
  inside_found l = found_at i (scan_found w.scanned (omega (arith, w.all)) (lt-ltb (length s) (get_or s i 0) (omega (arith, w.all))))

pub inside_all : {s : State} {n i : ℕ} → Inside s n i → n ≤ i → None ≡ nonzero (first_outside s)
unfolding first_outside
inside_all w l = found_none (scan_none w.scanned (omega (arith, w.all)))

-- ---- the supports of the blocks up to i are the same in the goal

abbrev pub differs : State → State → ℕ → Bool
differs s g b = not (eqb (support s b) (support g b))

pub record Compared (s g : State) (n i : ℕ) : Type 0 where
  pub all : n ≡ length s
  pub same : length g ≡ length s
  pub scanned : Scanned (differs s g) (length s) i

module _ {s g : State} {n i : ℕ} (w : Compared s g n i) where
  pub compared_found : i < n → (get_or s i 0 ≡ get_or g i 0 → ⊥) → Some (i + 1) ≡ nonzero (first_difference s g)
  unfolding first_difference
  compared_found h m = found_at i (scan_found w.scanned (omega (arith, w.all)) (ap not (ne_eqb (get_or s i 0) (get_or g i 0) m)))

  pub compared_all : n ≤ i → None ≡ nonzero (first_difference s g)
  unfolding first_difference
  compared_all h = found_none (scan_none w.scanned (omega (arith, w.all)))

-- ---- the blocks up to i were reached

abbrev pub unreached : List ℕ → ℕ → Bool
unreached st b = eqb (get_or st b 0) 0

pub record Reached (st : List ℕ) (n i : ℕ) : Type 0 where
  pub room : n < length st
  pub scanned : Scanned (unreached st) n i

module _ {st : List ℕ} {n i : ℕ} (w : Reached st n i) where
  pub reached_found : i < n → get_or st (i + 1) 0 ≡ 0 → Some (i + 1) ≡ nonzero (lowest (λ b. eqb (get_or st b 0) 0) n)
  reached_found h e = found_at i (scan_found w.scanned h (eq-eqb (get_or st (suc i) 0) 0 (rw add-one at e)))

  pub reached_all : n ≤ i → None ≡ nonzero (lowest (λ b. eqb (get_or st b 0) 0) n)
  reached_all h = found_none (scan_none w.scanned h)

-- ---- c of the blocks up to i are misplaced

pub not_right : {t : Bool} (y : Yard) (b : ℕ) → t ≡ right_in (stands_of y) b → not t ≡ misplaced_in y b
not_right y b e = ap not e

pub record Misplacing (y : Yard) (n c i : ℕ) : Type 0 where
  pub sized : 2 ≤ length y
  pub small : n ≤ most
  pub counted : Counted (misplaced_in y) n c i

pub misplacing_begin : {y : Yard} {n : ℕ} → 2 ≤ length y → n ≤ most → Misplacing y n 0 0
misplacing_begin {y} h l = record { sized = h; small = l; counted = counted_begin (misplaced_in y) }

module _ {y : Yard} {n c i : ℕ} {t : Bool} (w : Misplacing y n c i) (e : t ≡ misplaced_in y (i + 1)) where
  pub misplacing_next : i < n → Misplacing y n (c + bool_byte t) (i + 1)
  misplacing_next h = record { sized = w.sized; small = w.small; counted = counted_next t w.counted h (rw (add-one i) at e) }

-- they are the misplaced blocks of the state
pub misplaced_in_lem : {s g : State} (y : Yard) → Proper s → Standings s g (stands_of y) → count (misplaced_in y) (length s) ≡ misplaced_count s g
unfolding misplaced_count misplacedᵇ
misplaced_in_lem {s} {g} y p w =
    count_ext (misplaced_in y) (misplacedᵇ s g) (length s) (λ b l h.
    ap not (reflects_same (λ q. q) (λ q. q) (w.right b l h (p.grounded b)) (position_test s g p b)))
