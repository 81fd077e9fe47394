-- The walk of the loop, in the rows, and what is kept of it from walk to walk. Assumes nothing.
use Rattle.std.specs.Prelude.{ℕ, suc, ◌≤◌, ◌<◌, ◌≡◌, false, List, length, get_or}
use Rattle.rows.specs.Rows.{Yard, seen_of, places_of, Within}
use Rattle.lists.specs.Search.{lowest}
use Rattle.blocks.specs.State.{State, Block, put}
use Rattle.blocks.specs.Position.{Misplaced}
use Rattle.blocks.specs.Stall.{Waiting, NoneReady}
use Rattle.blocks.specs.Tests.{waitingᵇ}
use Rattle.blocks.specs.Loop.{loop}
use Rattle.blocks.specs.Method.{lowest_on_loop}
use Rattle.blocks.specs.Steps.{Successor}
use Rattle.towers.specs.Linked.{Linked}
use Rattle.statuses.specs.Modes.{walksᵇ}
use Rattle.statuses.specs.declared.Mode.{Mode}
use Rattle.choices.specs.Visits.{part, kept_of}
use Rattle.std.specs.declared.ops.Range.{Range}

-- The first k blocks seen, each at its place. One that is still misplaced is the successor of the one before it; one that is not has been brought home since
-- it was seen.
pub record Trail (s g : State) (seen places : List ℕ) (k : ℕ) : Type 0 where
  pub blocks : (i : ℕ) → i < k → Block s (get_or seen i 0)
  pub placed : (i : ℕ) → i < k → get_or places (get_or seen i 0) 0 ≡ i
  pub follows : (i : ℕ) → suc i < k → Misplaced s g (get_or seen (suc i) 0) → Successor s g (get_or seen i 0) (get_or seen (suc i) 0)

-- What is kept of the last walk.
abbrev pub KeptTrail : State → State → Yard → Type 0
KeptTrail s g y = Trail s g (seen_of y) (places_of y) (kept_of y)

-- It is true of the state; and a run that does not walk keeps nothing.
pub record KeptWalk (m : Mode) (s g : State) (y : Yard) : Type 0 where
  pub trail : KeptTrail s g y
  pub none : walksᵇ m ≡ false → kept_of y ≡ 0

-- Nothing is kept.
pub record Unvisited (y : Yard) : Type 0 where
  pub none : kept_of y ≡ 0

-- The walk can begin: the state is stalled, the start is the lowest misplaced clear block, and what is kept of the last walk is true.
pub record Starts (s g : State) (y : Yard) (start : ℕ) : Type 0 where
  pub linked : Linked s g y
  pub stalled : NoneReady s g
  pub waiting : Waiting s g start
  pub first : start ≡ lowest (waitingᵇ s g) (length s)
  pub trail : KeptTrail s g y

-- The rows are of some problem whose loop can be walked.
pub record Walkable (y : Yard) (start : ℕ) : Type 0 where
  pub state : State
  pub goal : State
  pub starts : Starts state goal y start

-- The loop of a problem stands in the row of the blocks seen.
pub record LoopAt (s g : State) (seen : List ℕ) (r : Range ℕ) : Type 0 where
  pub ordered : r.start < r.end
  pub within : r.end ≤ length s
  pub found : part seen r ≡ loop s g

-- It has been walked, of whatever problem the rows are, and the blocks seen are a trail; only the rows of the walk have changed.
pub record Walked (start : ℕ) (r : Range ℕ) (y y' : Yard) : Type 0 where
  pub loops : (s g : State) → Starts s g y start → LoopAt s g (seen_of y') r
  pub trail : (s g : State) → Starts s g y start → Trail s g (seen_of y') (places_of y') r.end
  pub within : Within 7 9 y y'

-- The lowest block on the loop is found, of whatever problem the rows are. All that was seen before it is kept, and is true of the state in which it has been
-- put down.
pub record Unlocked (start r : ℕ) (y y' : Yard) : Type 0 where
  pub lowest : (s g : State) → Starts s g y start → r ≡ lowest_on_loop s g
  pub kept : get_or (seen_of y') (kept_of y') 0 ≡ r
  pub trail : (s g : State) → Starts s g y start → KeptTrail (put s r 0) g y'
  pub within : Within 7 9 y y'
