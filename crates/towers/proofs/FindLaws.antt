-- The successor of a misplaced block, from the lists: c stands at the bottom of its goal tower, d is what rests on c in the goal, and the top of the tower of
-- the one in the way stands at that tower's bottom. Assumes nothing.
use mathlib.Core.Path.{◌≡◌, refl, sym, ap, ◌∙◌}
use mathlib.Core.Logic.{◌⊎◌, inl, inr, ◌≢◌}
use mathlib.Core.Bool.{Bool, true, false, not, ◌&&◌, cond}
use Prim.Native.Nat.{ℕ, ◌≤◌, ◌<◌}
use native.Mathlib.Omega.{arith}
use borrow.Author.Tests.{eq-eqb, ne_eqb, eqb-true, eqb-false}
use lib.Dec.{eqb}
use lib.ListN.{length, get_or}
use Rattle.blocks.specs.State.{State, Block, support, Clear}
use Rattle.blocks.specs.Position.{Misplaced, in_position, misplaced_above, right, wrong, named}
use Rattle.blocks.specs.Tests.{position, nearest}
use Rattle.blocks.specs.Loop.{last_misplaced, blocker, successor}
use Rattle.lists.proofs.ReflectLaws.{Reflects, holds, fails, reflects_not, reflects_and, reflects_iff, eqb_reflects, same?}
use Rattle.blocks.proofs.ClearLaws.{load_is, clear_test, clear_table}
use Rattle.blocks.proofs.PositionLaws.{misplaced_block}
use Rattle.blocks.proofs.NearestLaws.{position_told, nearest_is}
use Rattle.blocks.proofs.StallLaws.{last_misplaced_lem, foot_reaches, foot_rests}
use Rattle.rows.specs.Rows.{Yard, loads_of, stands_of, goal_loads_of, bottoms_of, tops_of, goal_bottoms_of, highs_of, row_size}
use Rattle.problem.specs.Known.{right_in}
use Rattle.towers.specs.Towers.{bottom}
use Rattle.towers.specs.Linked.{Linked, position_of, Askable, Findable}
use Rattle.towers.specs.declared.Position.{Position}
use Rattle.towers.proofs.BottomLaws.{Base, bottom_is, bottom_block}
use Rattle.towers.proofs.FillLaws.{free_clear, taken_covered}
use Rattle.towers.proofs.HighLaws.{stands_right, right_stands}

-- ---- a misplaced block, and the bottom of its goal tower

module _ {s g : State} {yd : Yard} {b : ℕ} (w : Linked s g yd) (m : Misplaced s g b) where
  block : {x : ℕ} → Misplaced s g x → Block s x
  block n = misplaced_block w.known.problem.same n

  goal_block : {x : ℕ} → Misplaced s g x → Block g x
  goal_block n = record { low = (block n).low; high = omega (arith, (block n).high, w.known.problem.same) }

  pub asked_in : b < row_size
  asked_in = omega (arith, (block m).high, w.known.small)

  module _ {r : ℕ} (e : r ≡ get_or (goal_bottoms_of yd) b 0) where
    is_root : r ≡ bottom g b
    is_root = let k = goal_block m in e ∙ w.towers.goal_bottoms.at b k.low k.high

    root_in : r < row_size
    root_in =
        let k = bottom_block w.known.problem.goal (goal_block m) in
        omega (arith, is_root, k.high, w.known.problem.same, w.known.small)

-- ---- the position test: t is what the row says of in position

module _ {s g : State} {yd : Yard} {b : ℕ} (w : Linked s g yd) (high : b ≤ length s) {t : Bool} (is : t ≡ right_in (stands_of yd) b) where
  pub right_way : t ≡ true → in_position ≡ position s g b
  right_way e =
      let p = w.known.problem in
      let i = stands_right p w.known.stands high (eqb-true (get_or (stands_of yd) b 0) 2 (sym is ∙ e)) in
      sym ((position_told s g p b in_position).1 (right i))

  not_right : t ≡ false → Misplaced s g b
  not_right e i = eqb-false (get_or (stands_of yd) b 0) 2 (sym is ∙ e) (right_stands w.known.problem w.known.stands high i)

  pub wrong_way : {r c : ℕ} → t ≡ false → r ≡ get_or (goal_bottoms_of yd) b 0 → c ≡ get_or (highs_of yd) r 0 → misplaced_above c ≡ position s g b
  wrong_way {r} {c} e roots highs =
      let p = w.known.problem in
      let m = not_right e in
      let near : c ≡ nearest s g b = highs ∙ ap (λ i. get_or (highs_of yd) i 0) (is_root w m roots) ∙ w.towers.highs.at b m in
      ap misplaced_above near ∙ sym ((position_told s g p b (misplaced_above (nearest s g b))).1 (wrong (nearest_is p b m)))

-- what is read of a block that may be asked for
module _ {yd : Yard} {b : ℕ} (w : Askable yd b) where
  pub ask_in : b < row_size
  ask_in = omega (arith, w.high, w.linked.known.small)

  pub ask_root : {t : Bool} {r : ℕ} → t ≡ right_in (stands_of yd) b → t ≡ false → r ≡ get_or (goal_bottoms_of yd) b 0 → r < row_size
  ask_root is e roots = root_in w.linked (not_right w.linked w.high is e) roots

pub askable : {yd : Yard} {b : ℕ} → Findable yd b → Askable yd b
askable w =
    record { state = w.state; goal = w.goal; linked = w.linked; high = (misplaced_block w.linked.known.problem.same w.misplaced).high }

-- the block that the answer q names
module _ {yd : Yard} {b : ℕ} {q r : Position} (asked : (s g : State) → Linked s g yd → b ≤ length s → position_of q ≡ position s g b) (e : q ≡ r) where
  pub names : (s g : State) → Linked s g yd → b ≤ length s → named (position_of r) ≡ nearest s g b
  unfolding nearest
  names s g w h = ap (λ p. named (position_of p)) (sym e) ∙ ap named (asked s g w h)

-- c of a misplaced block
pub above_is : {s g : State} {yd : Yard} {b c : ℕ} → Linked s g yd → Misplaced s g b → ((s g : State) → Linked s g yd → b ≤ length s → c ≡ nearest s g b)
    → c ≡ nearest s g b
above_is {s} {g} w m asked = asked s g w (misplaced_block w.known.problem.same m).high

-- ---- what is in its way, and its successor

module _ {s g : State} {yd : Yard} {b : ℕ} (w : Linked s g yd) (m : Misplaced s g b) where
  abbrev d : ℕ
  d = last_misplaced s g b

  module _ {r : ℕ} (e : r ≡ get_or (goal_bottoms_of yd) b 0) where
    module _ {c : ℕ} (is-nearest : c ≡ nearest s g b) where
      rests : support g d ≡ c
      rests = foot_rests (last_misplaced_lem w.known.problem b m).0 ∙ sym is-nearest

      high_inside : c ≤ length s
      high_inside = omega (arith, rests, w.known.problem.goal.entries d, w.known.problem.same)

      pub high_in : c < row_size
      high_in = omega (arith, high_inside, w.known.small)

      -- something rests on c exactly where c is not clear
      covered : Reflects (¬ Clear s c) (not (eqb c 0) && not (eqb (get_or (loads_of yd) c 0) 0))
      covered = reflects_iff to from (reflects_and (reflects_not (eqb_reflects c 0)) (reflects_not (eqb_reflects (get_or (loads_of yd) c 0) 0)))
        where
          to : (c ≢ 0) × (get_or (loads_of yd) c 0 ≢ 0) → ¬ Clear s c
          to h k = taken_covered w.known.loads (record { low = omega (arith, h.0); high = high_inside }) h.1 k

          from : ¬ Clear s c → (c ≢ 0) × (get_or (loads_of yd) c 0 ≢ 0)
          from n =
              let some : c ≢ 0 = λ z. n (rw z (clear_table s)) in
              (some, λ z. n (free_clear w.known.loads (record { low = omega (arith, some); high = high_inside }) z))

      -- what rests on c in the goal
      is_foot : cond (eqb c 0) r (get_or (goal_loads_of yd) c 0) ≡ d
      is_foot = go (same? c 0)
        where
          go : (c ≡ 0) ⊎ (¬ (c ≡ 0)) → cond (eqb c 0) r (get_or (goal_loads_of yd) c 0) ≡ d
          go (inl z) =
              let v = last_misplaced_lem w.known.problem b m in
              let to_d = foot_reaches v.0 in
              let base : Base g b d = record { steps = to_d.0; reaches = to_d.1; block = λ q. omega (arith, (block w m v.1).low); flat = rests ∙ z } in
              rw (eq-eqb c 0 z) (is_root w m e ∙ bottom_is w.known.problem.goal (goal_block w m m) base)
          go (inr n) =
              rw (ne_eqb c 0 n)
              (w.known.goal_loads.at c (omega (arith, n)) (omega (arith, high_inside, w.known.problem.same)) ∙ load_is g w.known.problem.goal c d n rests)

      module _ {y : ℕ} (is : y ≡ cond (not (eqb c 0) && not (eqb (get_or (loads_of yd) c 0) 0)) c (cond (eqb c 0) r (get_or (goal_loads_of yd) c 0))) where
        chosen : {t u : Bool} → Reflects (Clear s c) t → Reflects (¬ Clear s c) u → cond u c d ≡ cond t d c
        chosen (holds k) (holds n) = absurd (n k)
        chosen (holds k) (fails n) = refl
        chosen (fails k) (holds n) = refl
        chosen (fails k) (fails n) = absurd (n k)

        pub way_is : y ≡ blocker s g b
        unfolding blocker
        way_is = is ∙ rw (is_foot, ← is-nearest) (chosen (clear_test s c) covered)

        way_block : Block s y
        way_block = rw (is, is_foot) (go covered)
          where
            go : {u : Bool} → Reflects (¬ Clear s c) u → Block s (cond u c d)
            go (holds n) =
                let some : c ≢ 0 = λ z. n (rw z (clear_table s)) in
                record { low = omega (arith, some); high = high_inside }
            go (fails n) = block w m (last_misplaced_lem w.known.problem b m).1

        pub way_in : y < row_size
        way_in = omega (arith, way_block.high, w.known.small)

        module _ {q : ℕ} (h : q ≡ get_or (bottoms_of yd) y 0) where
          is_bottom : q ≡ bottom s y
          is_bottom = h ∙ w.towers.bottoms.at y way_block.low way_block.high

          bottom_inside : q ≤ length s
          bottom_inside = rw is_bottom (bottom_block w.known.problem.initial way_block).high

          pub bottom_in_lem : q < row_size
          bottom_in_lem = omega (arith, bottom_inside, w.known.small)

          pub next_is : {z : ℕ} → z ≡ get_or (tops_of yd) q 0 → z ≡ successor s g b
          unfolding successor
          next_is e = e ∙ ap (λ k. get_or (tops_of yd) k 0) is_bottom ∙ w.towers.tops.at y way_block.low way_block.high ∙ rw way_is
