-- What a move leaves of a walk: a block keeps its successor until that one is moved. Assumes nothing.
-- Idea: the successor stands in the way. What it stands on is not moved, and no block comes home where it is in the way.
use mathlib.Core.Path.{◌≡◌, sym, ap, ◌∙◌, subst}
use mathlib.Core.Logic.{◌⊎◌, inl, inr, ◌≢◌}
use Prim.Native.Nat.{ℕ, suc, ◌≤◌}
use native.Mathlib.Omega.{arith}
use Rattle.lists.proofs.ReflectLaws.{same?}
use Rattle.blocks.specs.State.{State, support, put, down, Above, Clear}
use Rattle.blocks.specs.Position.{Problem, InPosition, Misplaced}
use Rattle.blocks.specs.Move.{Legal}
use Rattle.blocks.specs.Stall.{Moves, builds, clears}
use Rattle.blocks.specs.Steps.{Foot, InTheWay, onto, under, Successor}
use Rattle.blocks.proofs.StateLaws.{down_suc}
use Rattle.blocks.proofs.FrameLaws.{moved_avoided, position_frame, position_unframe, above_frame, clear_frame}
use Rattle.blocks.proofs.ClearLaws.{clear_table}
use Rattle.blocks.proofs.MisplacedLaws.{constructive_if}
use Rattle.blocks.proofs.StallLaws.{foot_rests}
use Rattle.blocks.proofs.StepLaws.{moves_legal, moves_misplaced, moves_landed}

-- what stands above a block leaves it not clear
covered : {s : State} {y c : ℕ} → Above s y c → ¬ Clear s c
covered {s} {y} u w = u.block (w.free (down s u.steps y) (sym (down_suc s u.steps y) ∙ u.reaches))

-- a block that has a successor is misplaced
pub successor_misplaced : {s g : State} {b y : ℕ} → Successor s g b y → Misplaced s g b
successor_misplaced {s} {g} {b} v = by v.way
  where
    by : {t : ℕ} → InTheWay s g b t → Misplaced s g b
    by (onto c f w) = f.nearest.between 0 (omega arith)
    by (under d f n) = f.nearest.between 0 (omega arith)

module _ {s g : State} {a z : ℕ} (p : Problem s g) (m : Moves s g a z) where
  legal : Legal s a z
  legal = moves_legal p m

  away : Misplaced s g a
  away = moves_misplaced m

  -- a method moves nothing onto a misplaced block
  clear_kept : {b : ℕ} → Misplaced s g b → Clear s b → Clear (put s a z) b
  clear_kept n w = clear_frame legal (λ e. n (subst (InPosition s g) (sym e) (moves_landed m))) w

  -- c and d stay, unless the move brings d home
  foot_kept : {b c d : ℕ} → Foot s g b c d → (InPosition (put s a z) g a → d ≢ a) → Foot (put s a z) g b c d
  foot_kept {b} {c} {d} f not_home =
      record {
        nearest =
            record {
              steps = k;
              beneath = f.nearest.beneath;
              right = position_frame legal (λ e. away (subst (InPosition s g) e f.nearest.right)) f.nearest.right;
              between = λ i h q. by i h q (same? (down g i b) a) (same? i k);
            };
        last = f.last;
      }
    where
      k : ℕ
      k = f.nearest.steps

      by : (i : ℕ) → i ≤ k → InPosition (put s a z) g (down g i b) → (down g i b ≡ a) ⊎ (¬ (down g i b ≡ a)) → (i ≡ k) ⊎ (¬ (i ≡ k)) → ⊥
      by i h q (inr n) _ = f.nearest.between i h (position_unframe legal n q)
      by i h q (inl e) (inl l) = not_home (subst (InPosition (put s a z) g) e q) (sym f.last ∙ ap (λ j. down g j b) (sym l) ∙ e)
      by i h q (inl e) (inr n) =
          let home = constructive_if p legal away (subst (InPosition (put s a z) g) e q) in
          let beneath : z ≡ down g (suc i) b = home.home ∙ ap (support g) (sym e) ∙ sym (down_suc g i b) in
          f.nearest.between (suc i) (omega (arith, h, n)) (subst (InPosition s g) beneath home.position)

  module _ {y : ℕ} (other : y ≢ a) where
    -- y stands on nothing that is moved
    not_beneath : {d : ℕ} → Above s y d → d ≢ a
    not_beneath u e = moved_avoided legal y other (suc u.steps) (u.reaches ∙ e)

    -- what is in the way stays there
    way_kept : {b t : ℕ} → InTheWay s g b t → Above s y t → InTheWay (put s a z) g b t
    way_kept {t} (onto c f w) u = onto c (foot_kept f (λ _. not_beneath u)) (by (same? c z) (same? c 0) m)
      where
        free : c ≡ 0 → Clear (put s a z) c
        free o = subst (Clear (put s a z)) (sym o) (clear_table (put s a z))

        by : (c ≡ z) ⊎ (¬ (c ≡ z)) → (c ≡ 0) ⊎ (¬ (c ≡ 0)) → Moves s g a z → Clear (put s a z) c
        by (inr n) _ _ = clear_frame legal n w
        by (inl e) (inl o) _ = free o
        by (inl e) (inr n) (clears v q) = free (e ∙ q)
        by (inl e) (inr n) (builds q) =
            absurd (not_beneath u (p.goal.carries t a (foot_rests f ∙ e ∙ q.home) (λ o. n (sym (foot_rests f) ∙ o))))
    way_kept {t} (under d f n) u = under d (foot_kept f not_home) (covered (above_frame legal other u))
      where
        not_home : InPosition (put s a z) g a → d ≢ a
        not_home i e =
            let home = constructive_if p legal away i in
            n (subst (Clear s) (home.home ∙ ap (support g) (sym e) ∙ foot_rests f) home.legal.free)

    pub successor_kept : {b : ℕ} → Misplaced s g y → Successor s g b y → Successor (put s a z) g b y
    successor_kept w v =
        record { through = v.through; way = way_kept v.way v.above; clear = clear_kept w v.clear; above = above_frame legal other v.above }
