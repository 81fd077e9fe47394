-- The loop of a stalled state, written as rows of three numbers; and what is lent to the test. What a run keeps are the rows of the yard. Assumes nothing.
use Rattle.std.specs.Prelude.{ℕ, ◌+◌, ◌*◌, ◌≤◌, ◌≡◌, cond, Option, List, [], eqb, length, set}
use Rattle.lists.specs.Lists.{overwrite}
use Rattle.lists.specs.Search.{nonzero}
use Rattle.rows.specs.Rows.{Yard, Sized}
use Rattle.blocks.specs.State.{State}
use Rattle.blocks.specs.Position.{Bounded}
use Rattle.blocks.specs.Stall.{NoneReady, IsLoop}
use Rattle.blocks.specs.Tests.{misplaced_count}
use Rattle.blocks.specs.Loop.{loop, lowest_of, onward, blocked_rows, shown_width}
use Rattle.blocks.specs.Method.{deadlock_loop, deadlock_rows}
use Rattle.problem.specs.Known.{AtStart}
use Rattle.towers.specs.Linked.{Linked}
use Rattle.statuses.specs.Kept.{Kept}
use Rattle.statuses.specs.declared.Mode.TheVariants.{Gn2}
use Rattle.statuses.specs.declared.Sets.{Sets}
use Rattle.choices.specs.Walks.{KeptTrail, Unvisited}

-- A list after the k-th row of three numbers was written.
abbrev pub row_at : List ℕ → ℕ → ℕ → ℕ → ℕ → List ℕ
row_at out k b x y = set (set (set out (shown_width * k) b) (shown_width * k + 1) x) (shown_width * k + 2) y

-- The yard is of a stalled state with a loop: low is its lowest block, and count how many there are.
pub record Shows (s g : State) (y : Yard) (low count : ℕ) : Type 0 where
  pub linked : Linked s g y
  pub stalled : NoneReady s g
  pub closed : IsLoop s g (loop s g)
  pub first : low ≡ lowest_of s (loop s g)
  pub size : count ≡ length (loop s g)

-- It is of some such state, and there is space for a row of each block of the loop.
pub record Showable (y : Yard) (out : List ℕ) (low count : ℕ) : Type 0 where
  pub state : State
  pub goal : State
  pub shows : Shows state goal y low count
  pub room : shown_width * count ≤ length out

-- The loop of a state in which no block is ready, from its lowest block onward; empty where nothing is misplaced.
abbrev pub loop_of : State → State → List ℕ
loop_of s g = cond (eqb (misplaced_count s g) 0) [] (onward s (loop s g))

-- The yard is of a state in which no block is ready, and what is kept of a walk is true of it.
pub record Looks (s g : State) (y : Yard) (z : Sets) : Type 0 where
  pub kept : Kept Gn2 s g y z
  pub stalled : NoneReady s g
  pub trail : KeptTrail s g y

-- It is of some such state, and there is space for a row of each block.
pub record Lookable (y : Yard) (z : Sets) (out : List ℕ) : Type 0 where
  pub state : State
  pub goal : State
  pub looks : Looks state goal y z
  pub room : shown_width * length state ≤ length out

-- Its loop is written from the front, and its length is answered; none where it is empty.
pub record Looked (s g : State) (out : List ℕ) (r : Option ℕ) (out' : List ℕ) : Type 0 where
  pub count : r ≡ nonzero (length (loop_of s g))
  pub written : out' ≡ overwrite (blocked_rows s g (loop_of s g)) out

-- A problem that has been checked, with the yard as the check left it, and space for a row of each block.
pub record Seekable (s g : State) (y : Yard) (out : List ℕ) : Type 0 where
  pub problem : Bounded s g
  pub sized : Sized y
  pub start : AtStart s g y
  pub visits : Unvisited y
  pub room : shown_width * length s ≤ length out

-- The deadlock of the start is written from the front, and its length is answered; none where nothing is deadlocked.
pub record Sought (s g : State) (out : List ℕ) (r : Option ℕ) (out' : List ℕ) : Type 0 where
  pub count : r ≡ nonzero (length (deadlock_loop s g))
  pub written : out' ≡ overwrite (deadlock_rows s g) out
