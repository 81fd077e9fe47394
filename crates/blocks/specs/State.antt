-- States of the blocks world (document 01, "The yard"): supports, towers, clear, above, the table reached.
-- Document 01 says slab for block, ground for table, arrangement for state, pile for tower.
-- Assumes nothing.
use Rattle.std.specs.Prelude.{ℕ, zero, suc, ◌≤◌, ◌≡◌, ◌≢◌, List, length, get_or, set}

-- document 01: "An arrangement is a list of n 16-bit numbers; entry i says what slab i rests on: 0 for the ground, else a slab."
abbrev pub State : Type 0
State = List ℕ

-- document 01: "Slabs have numbers 1 to n, n at most 4,000."
abbrev pub most : ℕ
most = 4000

-- A block's number; the number 0 is the table.
pub record Block (s : State) (b : ℕ) : Type 0 where
  pub low : 1 ≤ b
  pub high : b ≤ length s

-- What b rests on. The table, and a number that is no block, rest on the table.
abbrev pub support : State → ℕ → ℕ
support s zero = 0
support s (suc i) = get_or s i 0

-- document 01: "That slab's entry becomes the destination, and no other entry changes."
abbrev pub put : State → ℕ → ℕ → State
put s zero x = s
put s (suc i) x = set s i x

-- Where k steps down from b lead.
abbrev pub down : State → ℕ → ℕ → ℕ
down s zero b = b
down s (suc k) b = down s k (support s b)

-- document 01: "One slab is above another when following what it rests on, one step or more, comes to the other."
-- The table is no block, so nothing is above it.
pub record Above (s : State) (a b : ℕ) : Type 0 where
  pub steps : ℕ
  pub reaches : down s (suc steps) a ≡ b
  pub block : b ≢ 0

-- document 01: "A slab is clear when no slab rests on it. The ground is always clear."
-- Whatever rests on b, b is then the table.
pub record Clear (s : State) (b : ℕ) : Type 0 where
  pub free : (c : ℕ) → support s c ≡ b → b ≡ 0

-- document 01, question 6: "Does every slab come down to the ground now?", of one slab.
pub record Grounded (s : State) (b : ℕ) : Type 0 where
  pub steps : ℕ
  pub reaches : down s steps b ≡ 0
