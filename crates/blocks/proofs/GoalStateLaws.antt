-- The goal state of a sheet: what the methods and the bounds rely on. Of all proofs only these and the tables look inside `completed`. Assumes nothing.
use mathlib.Core.Path.{◌≡◌, refl}
use Prim.Native.Nat.{◌≤◌}
use native.Mathlib.Omega.{arith}
use lib.ListN.{length}
use Rattle.blocks.specs.State.{State}
use Rattle.blocks.specs.Position.{Bounded}
use Rattle.blocks.specs.Move.{Plan, Solves}
use Rattle.blocks.specs.Length.{FittingPlan, Level}
use Rattle.blocks.specs.Sheet.{Sheet, completed, goal_state, Arrives, Accepted}
use Rattle.blocks.proofs.LengthLaws.{goal_level}

-- every entry of a goal list is stated, so it is the list
pub completed_same : (s g : State) → completed s g ≡ g
unfolding completed
completed_same s g = refl

module _ {h : Sheet} (a : Accepted h) where
  -- what the work on an accepted sheet relies on
  pub bounded : Bounded h.initial (goal_state h)
  unfolding completed
  bounded = record { small = a.small; problem = a.problem }

  pub goal_state_level : Level h.lengths (goal_state h)
  unfolding completed
  goal_state_level = goal_level h.lengths h.initial (goal_state h) a.measured

  -- a plan that ends in the goal state, and fits, arrives
  pub solves_arrives : {p : Plan} → Solves h.initial (goal_state h) p → FittingPlan h.lengths p → Arrives h p
  unfolding completed
  solves_arrives w f = record { solves = w; fits = f }

  -- and a plan that arrives is no shorter than one that ends there
  pub arrives_solves : (q : Plan) → Arrives h q → (r : Plan) × Solves h.initial (goal_state h) r × (length r ≤ length q)
  unfolding completed
  arrives_solves q w = (q, w.solves, omega arith)
