-- The tests of a block, as the code decides them from the rows and as the definitions say. Assumes nothing.
use Prim.Native.Nat.{ℕ, suc, ◌-◌, ◌≤◌, ◌<◌}
use mathlib.Core.Path.{◌≡◌, refl, sym, ap, ap₂, ◌∙◌}
use mathlib.Core.Logic.{◌⊎◌, inl, inr}
use mathlib.Core.Bool.{Bool, true, false, not, ◌&&◌, ◌||◌, cond, and_comm}
use native.Mathlib.Omega.{arith}
use lib.Dec.{eqb}
use lib.ListN.{length, get_or}
use borrow.Author.Tests.{eq-eqb, ne_eqb}
use Rattle.rows.specs.Rows.{Yard, loads_of, stands_of, row_size}
use Rattle.lists.proofs.ReflectLaws.{same?, to_true}
use Rattle.blocks.specs.State.{State, support}
use Rattle.blocks.specs.Tests.{load, clearᵇ, in_positionᵇ, misplacedᵇ, waitingᵇ, perchedᵇ, readyᵇ}
use Rattle.blocks.proofs.StateLaws.{support_at}
use Rattle.blocks.proofs.PositionLaws.{position_test, position_table}
use Rattle.problem.specs.Known.{right_in, misplaced_in}
use Rattle.towers.specs.Linked.{Known}
use Rattle.statuses.specs.Modes.{walksᵇ, looseᵇ}
use Rattle.statuses.specs.Reads.{Readable, waits_in, perched_in, target_in, ready_in, loose_in}
use Rattle.statuses.specs.declared.Mode.{Mode}

-- ---- the code

-- the table stands in position, so what waits is a block
waits_block : (y : Yard) (b : ℕ) → get_or (stands_of y) 0 0 ≡ 2 → waits_in y b ≡ true → 1 ≤ b
unfolding waits_in
waits_block y b table e = by (same? b 0)
  where
    by : (b ≡ 0) ⊎ (¬ (b ≡ 0)) → 1 ≤ b
    by (inr n) = omega (arith, n)
    by (inl z) =
        let on : right_in (stands_of y) b ≡ true = eq-eqb (get_or (stands_of y) b 0) 2 (ap (λ k. get_or (stands_of y) k 0) z ∙ table) in
        let clash : ◌≡◌ {A = Bool} false true = ap (λ t. not t && eqb (get_or (loads_of y) b 0) 0) (sym on) ∙ e in
        absurd (mathlib.Core.Bool.false≢true clash)

module _ {s : State} {y : Yard} {b : ℕ} (w : Readable s y b) where
  pub read_in : b < row_size
  read_in = omega (arith, w.high, w.small)

  -- r is what the test for waiting answered
  module _ {r : Bool} (e : r ≡ waits_in y b) (h : r ≡ true) where
    pub block_low : 1 ≤ b
    block_low = waits_block y b w.table (sym e ∙ h)

    pub entry_within : b - 1 < length s
    entry_within = omega (arith, block_low, w.high)
    -- x is what was read as b's support

-- a number that is not in a set in which none is wrongly, since it does not wait
pub table_ready : {g : State} {y : Yard} {b : ℕ} → Readable g y b → b ≡ 0 → ready_in g y b ≡ false
unfolding ready_in
table_ready {g} {y} {b} w e = by (waits_in y b) refl
  where
    by : (t : Bool) → waits_in y b ≡ t → (t && target_in y (get_or g (b - 1) 0)) ≡ false
    by false q = refl
    by true q = absurd (omega (arith, waits_block y b w.table q))

-- ---- the definitions

not_and : (t u : Bool) → not (not t && not u) ≡ (t || u)
not_and true u = refl
not_and false true = refl
not_and false false = refl

module _ {s g : State} {y : Yard} (k : Known s g y) (b : ℕ) (high : b ≤ length s) where
  -- the row says which blocks are in position, and which are misplaced
  right_is : right_in (stands_of y) b ≡ in_positionᵇ s g b
  right_is = ap (λ x. eqb x 2) (k.stands.at b high) ∙ by (in_positionᵇ s g b)
    where
      by : (t : Bool) → eqb (cond t 2 1) 2 ≡ t
      by true = refl
      by false = refl

  wrong_is : misplaced_in y b ≡ misplacedᵇ s g b
  unfolding misplacedᵇ
  wrong_is = ap not right_is

  -- the test for clear, by the row of loads
  clear_is : (eqb b 0 || eqb (get_or (loads_of y) b 0) 0) ≡ clearᵇ s b
  unfolding clearᵇ
  clear_is = by (same? b 0)
    where
      by : (b ≡ 0) ⊎ (¬ (b ≡ 0)) → (eqb b 0 || eqb (get_or (loads_of y) b 0) 0) ≡ (eqb b 0 || eqb (load s b) 0)
      by (inl e) = ap (λ t. t || eqb (get_or (loads_of y) b 0) 0) (eq-eqb b 0 e) ∙ ap (λ t. t || eqb (load s b) 0) (sym (eq-eqb b 0 e))
      by (inr n) = ap (λ x. eqb b 0 || eqb x 0) (k.loads.at b (omega (arith, n)) high)

  target_is : target_in y b ≡ (clearᵇ s b && in_positionᵇ s g b)
  unfolding target_in
  target_is = ap₂ (λ t u. t && u) right_is (not_and (eqb b 0) (eqb (get_or (loads_of y) b 0) 0) ∙ clear_is) ∙ and_comm (in_positionᵇ s g b) (clearᵇ s b)

module _ {s g : State} {y : Yard} (k : Known s g y) where
  pub table_stands : get_or (stands_of y) 0 0 ≡ 2
  table_stands = k.stands.at 0 (omega arith) ∙ ap (λ t. cond t 2 1) (to_true (position_test s g k.problem.initial 0) (position_table s g))

  pub readable : {b : ℕ} → b ≤ length s → Readable s y b
  readable h =
      record { sized = k.sized; small = k.small; high = h; entries = λ i. k.problem.initial.entries (suc i); table = table_stands }

  pub goal_readable : {b : ℕ} → b ≤ length s → Readable g y b
  goal_readable h =
      let same = k.problem.same in
      record {
        sized = k.sized;
        small = omega (arith, same, k.small);
        high = omega (arith, same, h);
        entries = λ i. k.problem.goal.entries (suc i);
        table = table_stands;
      }

  table_right : {b : ℕ} → b ≡ 0 → right_in (stands_of y) b ≡ true
  table_right {b} z = eq-eqb (get_or (stands_of y) b 0) 2 (ap (λ i. get_or (stands_of y) i 0) z ∙ table_stands)

  table_waits : {b : ℕ} → b ≡ 0 → waits_in y b ≡ false
  unfolding waits_in
  table_waits {b} z =
      ap (λ t. not t && eqb (get_or (loads_of y) b 0) 0) (table_right z)

  module _ (b : ℕ) (high : b ≤ length s) where
    pub waits_is : waits_in y b ≡ waitingᵇ s g b
    unfolding waits_in waitingᵇ
    waits_is = by (same? b 0)
      where
        by : (b ≡ 0) ⊎ (¬ (b ≡ 0)) → (misplaced_in y b && eqb (get_or (loads_of y) b 0) 0) ≡ (misplacedᵇ s g b && clearᵇ s b)
        by (inl z) =
            let off : misplaced_in y b ≡ false = ap not (table_right z) in
            ap (λ t. t && eqb (get_or (loads_of y) b 0) 0) off ∙ ap (λ t. t && clearᵇ s b) (sym off ∙ wrong_is k b high)
        by (inr n) = ap₂ (λ t u. t && u) (wrong_is k b high) (ap (λ t. t || eqb (get_or (loads_of y) b 0) 0) (sym (ne_eqb b 0 n)) ∙ clear_is k b high)

    -- the support of a block, and of the table, which does not wait
    perched_is : perched_in s y b ≡ perchedᵇ s g b
    unfolding perched_in perchedᵇ
    perched_is = by (same? b 0)
      where
        by : (b ≡ 0) ⊎ (¬ (b ≡ 0)) → (waits_in y b && not (eqb (get_or s (b - 1) 0) 0)) ≡ (waitingᵇ s g b && not (eqb (support s b) 0))
        by (inl z) = let e = table_waits z in ap (λ t. t && not (eqb (get_or s (b - 1) 0) 0)) e ∙ ap (λ t. t && not (eqb (support s b) 0)) (sym e ∙ waits_is)
        by (inr n) = ap₂ (λ t x. t && not (eqb x 0)) waits_is (sym (support_at s b (omega (arith, n))))

    pub loose_is : (m : Mode) → loose_in m s y b ≡ looseᵇ m s g b
    unfolding loose_in
    loose_is m = ap₂ (λ t u. cond (walksᵇ m) t u) waits_is perched_is

    pub ready_is : ready_in g y b ≡ readyᵇ s g b
    unfolding ready_in readyᵇ
    ready_is = by (same? b 0)
      where
        by : (b ≡ 0) ⊎ (¬ (b ≡ 0)) → (waits_in y b && target_in y (get_or g (b - 1) 0)) ≡ (waitingᵇ s g b && (clearᵇ s (support g b) && in_positionᵇ s g (support g b)))
        by (inl z) = let e = table_waits z in ap (λ t. t && target_in y (get_or g (b - 1) 0)) e ∙ ap (λ t. t && (clearᵇ s (support g b) && in_positionᵇ s g (support g b))) (sym e ∙ waits_is)
        by (inr n) =
            let high-goal : support g b ≤ length s = omega (arith, k.problem.goal.entries b, k.problem.same) in
            ap₂ (λ t x. t && target_in y x) waits_is (sym (support_at g b (omega (arith, n)))) ∙ ap (λ t. waitingᵇ s g b && t) (target_is k (support g b) high-goal)
