-- Problems, and the blocks that stand right (document 01, "The yard"; document 001, sections 2.1 and 3.1).
-- Document 01's sheet without options is a problem; it says now for the initial state. Assumes nothing.
use Rattle.std.specs.Prelude.{ℕ, suc, ◌≤◌, ◌≡◌, ◌≢◌, length}
use Rattle.blocks.specs.State.{State, most, support, down, Grounded}

-- A list that is a state of blocks: the plain properties behind questions 4 to 6 (and 7 to 9 for the goal).
pub record Proper (s : State) : Type 0 where
  -- question 4: "Is every now entry at most n?"
  pub entries : (b : ℕ) → support s b ≤ length s
  -- question 5: "Does each slab carry at most one slab now?"
  pub carries : (b c : ℕ) → support s b ≡ support s c → support s b ≢ 0 → b ≡ c
  -- question 6: "Does every slab come down to the ground now?"
  pub grounded : (b : ℕ) → Grounded s b

-- Two states of the same blocks. The theorems need no bound on their number.
pub record Problem (s g : State) : Type 0 where
  pub initial : Proper s
  pub goal : Proper g
  pub same : length g ≡ length s

-- A problem of a size that the operations take: what the work on a sheet that is accepted may rely on.
pub record Bounded (s g : State) : Type 0 where
  pub small : length s ≤ most
  pub problem : Problem s g

-- document 01: "A slab is in position when it and every slab beneath it, down to the ground, rest now on what they rest on in the goal."
-- The table is in position.
pub record InPosition (s g : State) (b : ℕ) : Type 0 where
  pub agrees : (k : ℕ) → support s (down s k b) ≡ support g (down s k b)

-- document 01: "Otherwise it is misplaced."
abbrev pub Misplaced : State → State → ℕ → Type 0
Misplaced s g b = ¬ InPosition s g b

-- document 02, Job 6, "for a misplaced slab, the nearest slab beneath it in the goal pile that is in position, or 0 for the ground". Document 01's c.
-- Block b and every block between it and c are misplaced.
pub record Nearest (s g : State) (b c : ℕ) : Type 0 where
  pub steps : ℕ
  pub beneath : down g (suc steps) b ≡ c
  pub right : InPosition s g c
  pub between : (i : ℕ) → i ≤ steps → Misplaced s g (down g i b)

-- What the position test answers of a block: in position, or misplaced above c.
pub data Position : Type 0 where
  in_position : Position
  misplaced_above : ℕ → Position

-- When that answer is true of block b.
pub data Positioned (s g : State) (b : ℕ) : Position → Type 0 where
  right : InPosition s g b → Positioned s g b in_position
  wrong : {c : ℕ} → Nearest s g b c → Positioned s g b (misplaced_above c)

-- The block that the answer names. In position it names none: in numbers 0, which is not looked at.
abbrev pub named : Position → ℕ
named in_position = 0
named (misplaced_above c) = c
