-- What the methods look for, and the loop of a stalled state, in plain words (document 01, "The three methods", "The loop"). Assumes nothing.
-- A state is stalled when some block is misplaced and none is ready.
use Rattle.std.specs.Prelude.{ℕ, ◌≤◌, ◌<◌, ◌≡◌, ◌≢◌, List, length, get_or}
use Rattle.blocks.specs.State.{State, support, Clear}
use Rattle.blocks.specs.Position.{Misplaced}
use Rattle.blocks.specs.Move.{Constructive}
use Rattle.blocks.specs.Deadlock.{next}
use Rattle.blocks.specs.Loop.{successor}

-- document 01: "misplaced clear slab". Document 001's Δ sequence starts from one (section 3.2: "b be misplaced and clear").
abbrev pub Waiting : State → State → ℕ → Type 0
Waiting s g b = Misplaced s g b × Clear s b

-- document 01: "misplaced clear slab off the ground". Document 001, section 3.4: off the table and READY or STUCK, that is "misplaced, clear and not on the table,
-- but unable to move constructively".
abbrev pub Perched : State → State → ℕ → Type 0
Perched s g b = Waiting s g b × (support s b ≢ 0)

-- document 02, Job 4: "those misplaced slabs that are off the ground both now and in the goal". Where such a block is put down first it costs a second move.
abbrev pub Twice : State → State → ℕ → Type 0
Twice s g b = Misplaced s g b × ((support s b ≢ 0) × (support g b ≢ 0))

-- A block that has a constructive move. Document 001, section 3.4, READY: "it is misplaced but clear and its target is in position and clear".
abbrev pub Ready : State → State → ℕ → Type 0
Ready s g b = Constructive s g b (support g b)

-- "when there is none".
abbrev pub NoneReady : State → State → Type 0
NoneReady s g = (b : ℕ) → ¬ Ready s g b

-- A move that a method makes: constructive, or of a misplaced clear block off the table to the table.
pub data Moves (s g : State) (a x : ℕ) : Type 0 where
  builds : Constructive s g a x → Moves s g a x
  clears : Perched s g a → x ≡ 0 → Moves s g a x

-- A list of misplaced clear blocks, each followed by its successor, the last by the first.
pub record IsLoop (s g : State) (l : List ℕ) : Type 0 where
  pub some : 1 ≤ length l
  pub waiting : (i : ℕ) → i < length l → Waiting s g (get_or l i 0)
  pub follows : (i : ℕ) → i < length l → successor s g (get_or l i 0) ≡ get_or l (next (length l) i) 0
