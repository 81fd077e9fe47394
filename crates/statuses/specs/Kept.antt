-- What a run keeps beside the current state, in terms of that state. Assumes nothing.
use Rattle.std.specs.Prelude.{ℕ, ◌≤◌, ◌<◌, ◌≡◌, ◌≢◌, Bool, true, List, length}
use Rattle.rows.specs.Rows.{Yard, Sized, Within}
use Rattle.blocks.specs.State.{State, support, put}
use Rattle.blocks.specs.Position.{Bounded}
use Rattle.blocks.specs.Stall.{Moves}
use Rattle.blocks.specs.Tests.{readyᵇ}
use Rattle.numberset.specs.Members.{member, Assigned, limit}
use Rattle.problem.specs.Known.{AtStart}
use Rattle.towers.specs.Linked.{Known, Towered}
use Rattle.statuses.specs.Modes.{walksᵇ, looseᵇ}
use Rattle.statuses.specs.Reads.{Readable, ready_in}
use Rattle.statuses.specs.declared.Mode.{Mode}
use Rattle.statuses.specs.declared.Sets.{Sets}

-- A set of numbers below 4,096 whose members are those that pass the test.
pub record Holds (l : List ℕ) (test : ℕ → Bool) : Type 0 where
  pub same : (b : ℕ) → b < limit → member l b ≡ test b

-- The two sets that a run chooses from hold the blocks that are ready, and those that are loose.
pub record SetsHold (m : Mode) (s g : State) (z : Sets) : Type 0 where
  pub ready : Holds z.ready (readyᵇ s g)
  pub loose : Holds z.loose (looseᵇ m s g)

-- All that a run keeps beside the state s on the way to the goal g. The towers are kept where the loop is walked.
pub record Kept (m : Mode) (s g : State) (y : Yard) (z : Sets) : Type 0 where
  pub known : Known s g y
  pub sets : SetsHold m s g z
  pub towers : walksᵇ m ≡ true → Towered s g y

-- ---- one block

-- Block b can be looked up, and is in the set of ready blocks only if it is ready.
pub record Offerable (g : State) (y : Yard) (rd : List ℕ) (b : ℕ) : Type 0 where
  pub readable : Readable g y b
  pub sound : member rd b ≡ true → ready_in g y b ≡ true

-- Both tests of block b can be decided, and it is in no set in which it must not stay.
pub record Admissible (m : Mode) (s g : State) (y : Yard) (z : Sets) (b : ℕ) : Type 0 where
  pub known : Known s g y
  pub high : b ≤ length s
  pub ready_sound : member z.ready b ≡ true → readyᵇ s g b ≡ true
  pub loose_sound : member z.loose b ≡ true → looseᵇ m s g b ≡ true

-- The same, whether b is in a set or not.
pub record Refreshable (s g : State) (y : Yard) (b : ℕ) : Type 0 where
  pub known : Known s g y
  pub high : b ≤ length s

-- Both tests of block b have been decided anew.
pub record Refreshed (m : Mode) (s g : State) (b : ℕ) (z z' : Sets) : Type 0 where
  pub ready : Assigned z.ready b (readyᵇ s g b) z'.ready
  pub loose : Assigned z.loose b (looseᵇ m s g b) z'.loose

-- ---- the start

-- The towers are filled where the loop is walked.
pub record Fitted (m : Mode) (s g : State) (y y' : Yard) : Type 0 where
  pub towers : walksᵇ m ≡ true → Towered s g y'
  pub within : Within 3 7 y y'

-- An accepted problem as the check leaves it, and room for the state.
pub record Beginnable (s g : State) (cur : List ℕ) (y : Yard) : Type 0 where
  pub problem : Bounded s g
  pub state_size : length cur ≡ length s
  pub sized : Sized y
  pub start : AtStart s g y

-- All is kept of a state t that is s.
pub record Begun (m : Mode) (s g t : State) (y y' : Yard) (z : Sets) : Type 0 where
  pub state : t ≡ s
  pub kept : Kept m s g y' z
  pub within : Within 3 7 y y'

-- ---- a move of a from u to x

-- A set of ready blocks that is right but for the four whose test the move can change: a, u unless it is the table, and the blocks that go onto these in the
-- goal.
pub record NearlyReady (l : List ℕ) (test : ℕ → Bool) (g : State) (a u : ℕ) : Type 0 where
  pub same : (b : ℕ) → b < limit → b ≢ a → (b ≡ u → u ≡ 0) → support g b ≢ a → (support g b ≡ u → u ≡ 0) → member l b ≡ test b

-- A set of loose blocks that is right but for a, and for u unless it is the table.
pub record NearlyLoose (l : List ℕ) (test : ℕ → Bool) (a u : ℕ) : Type 0 where
  pub same : (b : ℕ) → b < limit → b ≢ a → (b ≡ u → u ≡ 0) → member l b ≡ test b

-- The sets after the move, before the four blocks are decided anew. A block other than a stays ready, and stays loose.
pub record Moving (m : Mode) (s g : State) (y : Yard) (z : Sets) (a u : ℕ) : Type 0 where
  pub known : Known s g y
  pub moved : 1 ≤ a
  pub moved_high : a ≤ length s
  pub old_high : u ≤ length s
  pub ready : NearlyReady z.ready (readyᵇ s g) g a u
  pub loose : NearlyLoose z.loose (looseᵇ m s g) a u
  pub ready_sound : (b : ℕ) → b < limit → b ≢ a → member z.ready b ≡ true → readyᵇ s g b ≡ true
  pub loose_sound : (b : ℕ) → b < limit → b ≢ a → member z.loose b ≡ true → looseᵇ m s g b ≡ true

-- The towers can follow the move.
pub record Traceable (m : Mode) (s g : State) (y : Yard) (a x : ℕ) : Type 0 where
  pub known : Known s g y
  pub move : Moves s g a x
  pub towers : walksᵇ m ≡ true → Towered s g y

pub record Traced (m : Mode) (s g : State) (a x : ℕ) (y y' : Yard) : Type 0 where
  pub towers : walksᵇ m ≡ true → Towered (put s a x) g y'
  pub within : Within 3 7 y y'

-- The move can be made.
pub record Turnable (m : Mode) (s g : State) (y : Yard) (z : Sets) (a x : ℕ) : Type 0 where
  pub kept : Kept m s g y z
  pub move : Moves s g a x

-- It has been made; the rows of the walk have not changed.
pub record Turned (m : Mode) (s g : State) (a x : ℕ) (t : State) (y y' : Yard) (z : Sets) : Type 0 where
  pub state : t ≡ put s a x
  pub kept : Kept m t g y' z
  pub within : Within 0 7 y y'
