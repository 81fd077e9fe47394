-- The next move of a run. Assumes nothing.
use Rattle.std.specs.Prelude.{◌≡◌, Option, Some, None, IfSome}
use Rattle.rows.specs.Rows.{Yard, Within}
use Rattle.blocks.specs.State.{State, put}
use Rattle.blocks.specs.Stall.{Moves}
use Rattle.blocks.specs.Method.{Step, stop, go}
use Rattle.statuses.specs.Modes.{step_of}
use Rattle.statuses.specs.Kept.{Kept}
use Rattle.statuses.specs.declared.Mode.{Mode}
use Rattle.choices.specs.Walks.{KeptWalk}
use Rattle.statuses.specs.declared.Sets.{Sets}
use Rattle.choices.specs.declared.Move.{Move}

-- A move, or none, as a step.
abbrev pub as_step : Option Move → Step
as_step None = stop
as_step (Some r) = go r.block r.destination

-- The state after it.
abbrev pub after : Option Move → State → State
after None s = s
after (Some r) s = put s r.block r.destination

-- The next move of a run can be chosen: the rows are of some state.
pub record Pickable (m : Mode) (g : State) (y : Yard) (z : Sets) : Type 0 where
  pub state : State
  pub kept : Kept m state g y z
  pub visits : KeptWalk m state g y

-- The step of the run, and a move of a method.
pub record Chooses (m : Mode) (s g : State) (r : Option Move) : Type 0 where
  pub step : step_of m g s ≡ as_step r
  pub move : IfSome r (λ v. Moves s g v.block v.destination)

-- The next move, of whatever state the rows are, and what is kept of the walk is already true of the state after it; only the rows of the walk have changed.
pub record Picks (m : Mode) (g : State) (z : Sets) (r : Option Move) (y y' : Yard) : Type 0 where
  pub chooses : (s : State) → Kept m s g y z → KeptWalk m s g y → Chooses m s g r
  pub visits : (s : State) → Kept m s g y z → KeptWalk m s g y → KeptWalk m (after r s) g y'
  pub within : Within 7 9 y y'
