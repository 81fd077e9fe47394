-- Deadlocks under moves (docs/WHY.md, steps 4 and 5): a move of a block outside a deadlock leaves it as it is, a constructive move lifts no
-- deadlocked block, and makes no deadlock. Source: Gupta and Nau (document 000), section 3; document 001, sections 3.1 and 3.2. Assumes nothing.
use mathlib.Core.Path.{◌≡◌, sym, ap, ◌∙◌, subst}
use mathlib.Core.Logic.{◌⊎◌, inl, inr, ◌≢◌}
use mathlib.Core.Bool.{Bool}
use Prim.Native.Nat.{ℕ, suc, ◌<◌}
use native.Mathlib.Omega.{arith}
use Rattle.blocks.specs.State.{State, put, down, Above}
use Rattle.blocks.specs.Position.{Problem, InPosition}
use Rattle.blocks.specs.Move.{Legal, Constructive}
use Rattle.blocks.specs.Deadlock.{wrap, next, Deadlock}
use Rattle.lists.proofs.ReflectLaws.{Reflects, holds, fails, ltb_reflects, same?}
use Rattle.blocks.proofs.FrameLaws.{moved_block, moved_clear, support_moved, down_frame, position_frame, position_unframe, above_frame, above_unframe, proper_moved}
use Rattle.blocks.proofs.TowerLaws.{Reaches, tower_chain, clear_beneath, clear_unique}
use Rattle.blocks.proofs.PositionLaws.{position_down, position_beneath, position_moved}

-- the next index is an index
pub next_lt : (p i : ℕ) → i < p → next p i < p
next_lt p i l = by (ltb_reflects (suc i) p)
  where
    by : {t : Bool} → Reflects (suc i < p) t → wrap t (suc i) < p
    by (holds h) = h
    by (fails n) = omega arith

module _ {s g : State} {p : ℕ} {b d : ℕ → ℕ} {a x : ℕ} (l : Legal s a x) (outside : (i : ℕ) → i < p → b i ≢ a) where
  -- forwards and backwards
  pub deadlock_survives : Deadlock s g p b d → Deadlock (put s a x) g p b d
  deadlock_survives k =
      record {
        some = k.some;
        misplaced = λ i h m. k.misplaced i h (position_unframe l (outside i h) m);
        now = λ i h. above_frame l (outside i h) (k.now i h);
        goal = k.goal;
      }

  pub deadlock_was : Deadlock (put s a x) g p b d → Deadlock s g p b d
  deadlock_was k =
      record {
        some = k.some;
        misplaced = λ i h m. k.misplaced i h (position_frame l (outside i h) m);
        now = λ i h. above_unframe l (outside i h) (k.now i h);
        goal = k.goal;
      }

-- Idea: after the move a tops the tower that holds the next d, so the next block, which is above that d, would lie beneath a and be in position.
-- Where the next block is a itself, a and its destination are two clear blocks above that d.
module _ {s g : State} {p : ℕ} {b d : ℕ → ℕ} {a x : ℕ} (q : Problem s g) (k : Deadlock s g p b d) (c : Constructive s g a x) where
  spared : (i : ℕ) → i < p → b i ≡ a → ⊥
  spared i h same = by (same? b' a)
    where
      j : ℕ
      j = next p i

      b' : ℕ
      b' = b j

      legal : Legal s a x
      legal = c.legal

      -- the next block, now; and a, in the goal
      there : Above s b' (d j)
      there = k.now j (next_lt p i h)

      home : Above g a (d j)
      home = subst (λ y. Above g y (d j)) same (k.goal i h)

      -- the destination is at or above d, now
      under : down s home.steps x ≡ d j
      under = position_down s g x c.position home.steps ∙ ap (down g home.steps) c.home ∙ home.reaches

      t : State
      t = put s a x

      by : (b' ≡ a) ⊎ (¬ (b' ≡ a)) → ⊥
      by (inl e) =
          legal.apart (clear_unique q.initial x a (d j) home.steps (suc there.steps) legal.free legal.clear under
          (ap (down s (suc there.steps)) (sym e) ∙ there.reaches) there.block)
      by (inr n) = which (tower_chain (proper_moved legal q.initial) a b' (d j) (suc home.steps) (suc there.steps) on
          (down_frame legal b' n (suc there.steps) ∙ there.reaches) there.block)
        where
          on : down t (suc home.steps) a ≡ d j
          on = ap (down t home.steps) (support_moved legal) ∙ down_frame legal x legal.apart home.steps ∙ under

          which : Reaches t a b' ⊎ Reaches t b' a → ⊥
          which (inl r) =
              k.misplaced j (next_lt p i h) (position_unframe legal n (subst (InPosition t g) r.1 (position_beneath (position_moved c) r.0)))
          which (inr r) = n (clear_beneath t b' a r.0 (moved_clear legal) (moved_block legal) r.1)

  -- a constructive move lifts no deadlocked block, so the deadlock stands
  pub deadlock_stands : Deadlock (put s a x) g p b d
  deadlock_stands = deadlock_survives c.legal spared k

-- a deadlock after a constructive move was there before: the moved block is in position, hence in no deadlock
pub deadlock_old : {s g : State} {p : ℕ} {b d : ℕ → ℕ} {a x : ℕ} → Constructive s g a x → Deadlock (put s a x) g p b d → Deadlock s g p b d
deadlock_old {s} {g} {a = a} {x} c k =
    deadlock_was c.legal (λ i h same. k.misplaced i h (subst (InPosition (put s a x) g) (sym same) (position_moved c))) k
