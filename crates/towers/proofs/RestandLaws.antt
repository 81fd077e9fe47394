-- How the blocks stand after a move of a method: the moved block alone can change, and where it comes into position it is the highest so of its goal tower.
-- Assumes nothing.
use Prim.Native.Nat.{ℕ, suc, ◌+◌, ◌-◌, ◌≤◌, ◌<◌}
use mathlib.Core.Path.{◌≡◌, refl, sym, ap, ◌∙◌, subst}
use mathlib.Core.Logic.{◌⊎◌, inl, inr, ◌≢◌, ◌↔◌}
use mathlib.Core.Bool.{Bool, cond}
use mathlib.Core.List.{List}
use native.Mathlib.Omega.{arith}
use lib.Dec.{eqb}
use lib.ListN.{length, get_or, set, length-set}
use lib.Seq.{get_or-set_same, get_or-set_other}
use Rattle.blocks.specs.State.{State, most, Block, support, put, down}
use Rattle.blocks.specs.Position.{Problem, InPosition, Misplaced, Nearest}
use Rattle.blocks.specs.Move.{Legal, Constructive}
use Rattle.blocks.specs.Stall.{Moves}
use Rattle.blocks.specs.Tests.{in_positionᵇ, nearest}
use Rattle.lists.proofs.ReflectLaws.{Reflects, holds, fails, eqb_reflects, decided, reflects_same, to_true, to_false, leb_reflects, same?}
use Rattle.blocks.proofs.StateLaws.{length-put, support_at, down_add}
use Rattle.blocks.proofs.FrameLaws.{support_moved, position_frame, position_unframe, moved_clear, moved_block, problem_moved}
use Rattle.blocks.proofs.TowerLaws.{Reaches, tower_chain, clear_beneath}
use Rattle.blocks.proofs.PositionLaws.{position_test, position_down, position_beneath, position_moved, misplaced_block}
use Rattle.blocks.proofs.NearestLaws.{nearest_is, nearest_only}
use Rattle.blocks.proofs.PositionedLaws.{nearest_alike}
use Rattle.blocks.proofs.StepLaws.{moves_legal, moves_misplaced, moves_landed}
use Rattle.rows.specs.Rows.{Yard, store, Sized, goal_bottoms_of, highs_of, Within}
use Rattle.rows.proofs.RowLaws.{stored, within_none, within_store}
use Rattle.towers.specs.Towers.{bottom, Bottoms, Stands, Highs}
use Rattle.towers.specs.Moved.{restood, Raisable, raised}
use Rattle.towers.proofs.BottomLaws.{Base, bottom_base, bottom_same, bottom_block}

module _ {s g : State} {a x : ℕ} (problem : Problem s g) (move : Moves s g a x) where
  legal : Legal s a x
  legal = moves_legal problem move

  after : Problem (put s a x) g
  after = problem_moved legal problem

  -- the test of every other block is as it was
  elsewhere : (c : ℕ) → c ≢ a → in_positionᵇ (put s a x) g c ≡ in_positionᵇ s g c
  elsewhere c h =
      reflects_same (position_unframe legal h) (position_frame legal h) (position_test (put s a x) g after.initial c) (position_test s g problem.initial c)

  -- a block misplaced afterwards was misplaced before
  was_misplaced : {b : ℕ} → Misplaced (put s a x) g b → Misplaced s g b
  was_misplaced {b} m i = by (same? b a)
    where
      by : (b ≡ a) ⊎ (¬ (b ≡ a)) → ⊥
      by (inl e) = moves_misplaced move (subst (InPosition s g) e i)
      by (inr h) = m (position_frame legal h i)

  -- c of a block beneath which a is not in the goal, or beneath which nothing has changed, is as it was
  near_same : {b : ℕ} → Misplaced (put s a x) g b → ((j : ℕ) → InPosition s g (down g (suc j) b) ↔ InPosition (put s a x) g (down g (suc j) b))
      → nearest s g b ≡ nearest (put s a x) g b
  near_same {b} m alike = nearest_only (nearest_alike m alike (nearest_is problem b (was_misplaced m))) (nearest_is after b m)

  -- ---- the block is not where the goal has it

  module _ (off : x ≢ support g a) where
    still : Misplaced (put s a x) g a
    still i = off (sym (support_moved legal) ∙ i.agrees 0)

    same_everywhere : (c : ℕ) → in_positionᵇ (put s a x) g c ≡ in_positionᵇ s g c
    same_everywhere c = by (same? c a)
      where
        by : (c ≡ a) ⊎ (¬ (c ≡ a)) → in_positionᵇ (put s a x) g c ≡ in_positionᵇ s g c
        by (inr h) = elsewhere c h
        by (inl e) =
            ap (in_positionᵇ (put s a x) g) e
            ∙ to_false (position_test (put s a x) g after.initial a) still
            ∙ sym (to_false (position_test s g problem.initial a) (moves_misplaced move))
            ∙ ap (in_positionᵇ s g) (sym e)

    position_everywhere : (c : ℕ) → InPosition s g c ↔ InPosition (put s a x) g c
    position_everywhere c = by (same? c a)
      where
        by : (c ≡ a) ⊎ (¬ (c ≡ a)) → InPosition s g c ↔ InPosition (put s a x) g c
        by (inl e) = (λ i. absurd (moves_misplaced move (subst (InPosition s g) e i)), λ i. absurd (still (subst (InPosition (put s a x) g) e i)))
        by (inr h) = (position_frame legal h, position_unframe legal h)

    stands_off : {st : List ℕ} → Stands s g st → Stands (put s a x) g st
    stands_off w =
        record {
          room = rw (length-put s a x) w.room;
          at = λ b h. w.at b (rw (length-put s a x) at h) ∙ ap (λ t. cond t 2 1) (sym (same_everywhere b));
        }

    highs_off : {hi : List ℕ} → Highs s g hi → Highs (put s a x) g hi
    highs_off w =
        record {
          room = rw (length-put s a x) w.room;
          at = λ b m.
              w.at b (was_misplaced m) ∙ near_same m (λ j. position_everywhere (down g (suc j) b));
        }

  -- ---- the block comes into position

  module _ (home : x ≡ support g a) where
    constructive : Constructive s g a x
    constructive = record { legal = legal; misplaced = moves_misplaced move; home = home; position = moves_landed move }

    right : InPosition (put s a x) g a
    right = position_moved constructive

    block_a : Block g a
    block_a =
        let k = legal.block in
        record { low = k.low; high = omega (arith, k.high, problem.same) }

    -- a is beneath b in the goal where they stand in one goal tower and b is misplaced
    beneath : {b : ℕ} → Misplaced (put s a x) g b → bottom g b ≡ bottom g a → Reaches g b a
    beneath {b} m e = by (tower_chain problem.goal b a (bottom g a) p.steps q.steps (p.reaches ∙ e) q.reaches q.block)
      where
        k : Block (put s a x) b
        k = misplaced_block after.same m

        block_b : Block g b
        block_b = record { low = k.low; high = omega (arith, k.high, after.same) }

        p : Base g b (bottom g b)
        p = bottom_base problem.goal block_b

        q : Base g a (bottom g a)
        q = bottom_base problem.goal block_a

        by : Reaches g b a ⊎ Reaches g a b → Reaches g b a
        by (inl r) = r
        by (inr r) = absurd (m (subst (InPosition (put s a x) g) (position_down (put s a x) g a right r.0 ∙ r.1) (position_beneath right r.0)))

    -- then a is the first in position on the way down
    highest : {b : ℕ} → Misplaced (put s a x) g b → bottom g b ≡ bottom g a → a ≡ nearest (put s a x) g b
    highest {b} m e = by (decided (leb_reflects r.0 f.steps))
      where
        t : State
        t = put s a x

        f : Nearest t g b (nearest t g b)
        f = nearest_is after b m

        r : Reaches g b a
        r = beneath m e

        -- a is at or above c, and nothing in position is above it
        by : (r.0 ≤ f.steps) ⊎ (¬ (r.0 ≤ f.steps)) → a ≡ nearest t g b
        by (inl l) = absurd (f.between r.0 l (subst (InPosition t g) (sym r.1) right))
        by (inr n) =
            let j = r.0 - suc f.steps in
            let split : r.0 ≡ j + suc f.steps = omega (arith, n) in
            let under : down g j (nearest t g b) ≡ a =
            ap (down g j) (sym f.beneath) ∙ sym (down_add g j (suc f.steps) b) ∙ ap (λ i. down g i b) (sym split) ∙ r.1
            in
            sym (clear_beneath t (nearest t g b) a j (moved_clear legal) (moved_block legal) (position_down t g (nearest t g b) f.right j ∙ under))

    -- in another goal tower nothing changes
    apart : {b : ℕ} → Misplaced (put s a x) g b → bottom g b ≢ bottom g a → nearest s g b ≡ nearest (put s a x) g b
    apart {b} m n =
        near_same m (λ j.
        let off : down g (suc j) b ≢ a = λ e. n (bottom_same problem.goal (suc j, e) block_a) in
        (position_frame legal off, position_unframe legal off))

    stands_home : {st : List ℕ} → Stands s g st → Stands (put s a x) g (set st a 2)
    stands_home {st} w = record { room = rw (length-put s a x, length-set st a 2) w.room; at = λ b h. stand b (rw (length-put s a x) at h) (same? b a) }
      where
        stand : (b : ℕ) → b ≤ length s → (b ≡ a) ⊎ (¬ (b ≡ a)) → get_or (set st a 2) b 0 ≡ cond (in_positionᵇ (put s a x) g b) 2 1
        stand b h (inl e) =
            ap (λ k. get_or (set st a 2) k 0) e
            ∙ get_or-set_same st a 2 0 (omega (arith, w.room, legal.block.high))
            ∙ ap (λ t. cond t 2 1) (sym (ap (in_positionᵇ (put s a x) g) e ∙ to_true (position_test (put s a x) g after.initial a) right))
        stand b h (inr n) = get_or-set_other st a b 2 0 n ∙ w.at b h ∙ ap (λ t. cond t 2 1) (sym (elsewhere b n))

    highs_home : {gb hi : List ℕ} {r : ℕ} → Bottoms g gb → Highs s g hi → r ≡ get_or gb a 0 → Highs (put s a x) g (set hi r a)
    highs_home {gb} {hi} {r} roots w er =
        record { room = rw (length-put s a x, length-set hi r a) w.room; at = λ b m. high b m (same? (bottom g b) (bottom g a)) }
      where
        root : r ≡ bottom g a
        root = er ∙ roots.at a block_a.low block_a.high

        inside : r < length hi
        inside = omega (arith, root, w.room, problem.same, (bottom_block problem.goal block_a).high)

        high : (b : ℕ) → Misplaced (put s a x) g b → (bottom g b ≡ bottom g a) ⊎ (¬ (bottom g b ≡ bottom g a))
            → get_or (set hi r a) (bottom g b) 0 ≡ nearest (put s a x) g b
        high b m (inl e) = ap (λ k. get_or (set hi r a) k 0) (e ∙ sym root) ∙ get_or-set_same hi r a 0 inside ∙ highest m e
        high b m (inr n) =
            get_or-set_other hi r (bottom g b) a 0 (λ e. n (e ∙ root))
            ∙ w.at b (was_misplaced m)
            ∙ apart m n

-- ---- what the code reads and writes

module _ {s g : State} {a x : ℕ} (problem : Problem s g) (move : Moves s g a x) where
  block : Block s a
  block = (moves_legal problem move).block

  home : support g a ≡ get_or g (a - 1) 0
  home = support_at g a block.low

  -- the two tests of a condition
  either : {A : Type 0} (P : A → Type 0) (v w : A) → (x ≡ support g a → P v) → (x ≢ support g a → P w) → P (cond (eqb x (get_or g (a - 1) 0)) v w)
  either P v w yes_way no_way = go (eqb_reflects x (get_or g (a - 1) 0))
    where
      go : {t : Bool} → Reflects (x ≡ get_or g (a - 1) 0) t → P (cond t v w)
      go (holds e) = yes_way (e ∙ sym home)
      go (fails n) = no_way (λ e. n (e ∙ home))

  pub restands : {st : List ℕ} → Stands s g st → Stands (put s a x) g (restood g a x st)
  restands {st} w = either (Stands (put s a x) g) (set st a 2) st (λ e. stands_home problem move e w) (λ n. stands_off problem move n w)

  pub move_low : 1 ≤ a
  move_low = block.low

  pub move_within : a - 1 < length g
  move_within = omega (arith, block.low, block.high, problem.same)

  -- the rows after the move: the highest blocks in position, and nothing else
  module _ {y : Yard} (sized : Sized y) (small : length s ≤ most) (roots : Bottoms g (goal_bottoms_of y)) where
    block_g : Block g a
    block_g = record { low = block.low; high = omega (arith, block.high, problem.same) }

    pub raisable : Raisable g y a
    raisable =
        let is = roots.at a block_g.low block_g.high in
        record {
          sized = sized;
          low = move_low;
          within = move_within;
          small = omega (arith, block.high, small);
          bottom = omega (arith, is, (bottom_block problem.goal block_g).high, problem.same, small);
        }

    pub raised_within : Within 6 7 y (raised g a x y)
    raised_within = either (Within 6 7 y) (store y 6 (get_or (goal_bottoms_of y) a 0) a) y (λ e. within_store 6 _ a within_none (omega arith) (omega arith)) (λ n. within_none)

    pub raises : Highs s g (highs_of y) → Highs (put s a x) g (highs_of (raised g a x y))
    raises w =
        either (λ z. Highs (put s a x) g (highs_of z)) (store y 6 (get_or (goal_bottoms_of y) a 0) a) y
        (λ e. rw (stored y 6 (get_or (goal_bottoms_of y) a 0) a (omega (arith, sized.rows))) (highs_home problem move e roots w refl))
        (λ n. highs_off problem move n w)
