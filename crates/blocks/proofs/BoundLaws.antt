-- Lower bounds on every legal plan that arrives: it has at least as many moves as there are misplaced blocks (docs/WHY.md, step 2), and more where a deadlock
-- stands at the start (step 4 there). By induction on the plan, a move at a time. Assumes nothing.
use mathlib.Core.Path.{sym, ap, ◌∙◌, subst}
use mathlib.Core.List.{[], ◌∷◌}
use Prim.Native.Nat.{ℕ, suc, ◌≤◌, ◌<◌}
use native.Mathlib.Omega.{arith}
use lib.ListN.{length}
use Rattle.blocks.specs.State.{State, put}
use Rattle.blocks.specs.Position.{Problem, InPosition}
use Rattle.blocks.specs.Move.{◌⟶◌, Plan, Solves}
use Rattle.blocks.specs.Tests.{misplaced_count}
use Rattle.blocks.specs.Deadlock.{Deadlock}
use Rattle.blocks.proofs.FrameLaws.{problem_moved}
use Rattle.blocks.proofs.PositionLaws.{position_goal}
use Rattle.blocks.proofs.DeadlockLaws.{deadlock_stands}
use Rattle.blocks.proofs.MisplacedLaws.{none_misplaced_goal, Effect, better, other, effect}

-- the rest of a plan that arrives, arrives
pub solves_rest : {s g : State} {a x : ℕ} {p : Plan} → Solves s g ((a ⟶ x) ∷ p) → Solves (put s a x) g p
solves_rest w = record { legal = w.legal.1; arrives = w.arrives }

pub lower_bound : (p : Plan) {s g : State} → Problem s g → Solves s g p → misplaced_count s g ≤ length p
lower_bound [] {s} {g} q w = omega (arith, ap (λ u. misplaced_count u g) w.arrives ∙ none_misplaced_goal g q.goal)
lower_bound ((a ⟶ x) ∷ p) {s} {g} q w = by (effect q w.legal.0) (lower_bound p (problem_moved w.legal.0 q) (solves_rest w))
  where
    by : Effect s g a x → misplaced_count (put s a x) g ≤ length p → misplaced_count s g ≤ suc (length p)
    by (better c e) h = omega (arith, e)
    by (other e) h = omega (arith, e)

pub deadlock_costs : (p : Plan) {s g : State} {k : ℕ} {b d : ℕ → ℕ} → Problem s g → Solves s g p → Deadlock s g k b d → misplaced_count s g < length p
deadlock_costs [] {s} {g} {b = b} q w h = absurd (h.misplaced 0 h.some (subst (λ u. InPosition u g (b 0)) (sym w.arrives) (position_goal g (b 0))))
deadlock_costs ((a ⟶ x) ∷ p) {s} {g} {k} {b} {d} q w h =
    by (effect q w.legal.0) (λ r. deadlock_costs p (problem_moved w.legal.0 q) (solves_rest w) r)
  where
    by : Effect s g a x → (Deadlock (put s a x) g k b d → misplaced_count (put s a x) g < length p) → misplaced_count s g < suc (length p)
    by (better c e) rest = omega (arith, e, rest (deadlock_stands q h c))
    by (other e) rest = omega (arith, e, lower_bound p (problem_moved w.legal.0 q) (solves_rest w))
