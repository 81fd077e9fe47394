-- What the rows say of a problem: loads, standings and towers, and so the successor of every misplaced block. Assumes nothing.
use Rattle.std.specs.Prelude.{ℕ, ◌≤◌, ◌≡◌, length}
use Rattle.rows.specs.Rows.{Yard, Sized, loads_of, stands_of, goal_loads_of, bottoms_of, tops_of, goal_bottoms_of, highs_of}
use Rattle.blocks.specs.State.{State, most}
use Rattle.blocks.specs.Position.{Problem, Misplaced}
use Rattle.blocks.specs.Position as blocks
use Rattle.blocks.specs.Tests.{nearest}
use Rattle.blocks.specs.Loop.{blocker, successor}
use Rattle.problem.specs.Known.{Loads}
use Rattle.towers.specs.Towers.{Stands, Bottoms, Tops, Highs}
use Rattle.towers.specs.declared.Blocked.{Blocked}
use Rattle.towers.specs.declared.Position.{Position}
use Rattle.towers.specs.declared.Position.TheVariants.{InPosition, MisplacedAbove}

-- The rows have the loads of both states, and how the blocks stand.
pub record Known (s g : State) (y : Yard) : Type 0 where
  pub small : length s ≤ most
  pub problem : Problem s g
  pub sized : Sized y
  pub loads : Loads s (loads_of y)
  pub stands : Stands s g (stands_of y)
  pub goal_loads : Loads g (goal_loads_of y)

-- They have the towers of the state and of the goal.
pub record Towered (s g : State) (y : Yard) : Type 0 where
  pub bottoms : Bottoms s (bottoms_of y)
  pub tops : Tops s (tops_of y)
  pub goal_bottoms : Bottoms g (goal_bottoms_of y)
  pub highs : Highs s g (highs_of y)

-- Both: the successor of any misplaced block can be found.
pub record Linked (s g : State) (y : Yard) : Type 0 where
  pub known : Known s g y
  pub towers : Towered s g y

-- What the code's answer says, in the definition's two cases.
abbrev pub position_of : Position → blocks.Position
position_of InPosition = blocks.in_position
position_of (MisplacedAbove c) = blocks.misplaced_above c

-- The rows are of some problem that has the block b.
pub record Askable (y : Yard) (b : ℕ) : Type 0 where
  pub state : State
  pub goal : State
  pub linked : Linked state goal y
  pub high : b ≤ length state

-- The rows are of some problem in which block b is misplaced.
pub record Findable (y : Yard) (b : ℕ) : Type 0 where
  pub state : State
  pub goal : State
  pub linked : Linked state goal y
  pub misplaced : Misplaced state goal b

-- c, what is in a block's way, and its successor.
pub record Found (s g : State) (b : ℕ) (r : Blocked) : Type 0 where
  pub above : r.above ≡ nearest s g b
  pub by : r.by ≡ blocker s g b
  pub next : r.next ≡ successor s g b
