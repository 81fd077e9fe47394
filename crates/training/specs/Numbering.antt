-- What Job 1 says of the numbers: the statement alone, for every n. proofs/Theorems proves it. Assumes nothing.
use Rattle.std.specs.Prelude.{ℕ, ◌<◌, ◌≡◌, length}
use Rattle.blocks.specs.State.{State, support}
use Rattle.blocks.specs.Question.{all_yes, first_no, state_questions}
use Rattle.counts.specs.Ways.{ways}
use Rattle.training.specs.Arrangement.{arrangement}

-- An arrangement of n slabs "that 4 to 6 accept".
pub record IsState (n : ℕ) (s : State) : Type 0 where
  pub sized : length s ≡ n
  pub accepted : first_no (state_questions 4 5 6 s) ≡ all_yes

-- s comes before t in the order of a dictionary: at the first block where they differ its support is the lower.
pub record Before (s t : State) : Type 0 where
  pub first : ℕ
  pub same : (c : ℕ) → c < first → support s c ≡ support t c
  pub less : support s first < support t first

-- "Numbers below the count for (n, 0) give every arrangement that 4 to 6 accept, each from a single number."
pub record Numbering (n : ℕ) : Type 0 where
  pub is_state : (r : ℕ) → r < ways n 0 → IsState n (arrangement n r)
  pub every : (s : State) → IsState n s → (r : ℕ) × (r < ways n 0) × (arrangement n r ≡ s)
  -- a higher number gives a later state: the table comes first, and then the tops by ascending block
  pub ordered : (r q : ℕ) → r < q → q < ways n 0 → Before (arrangement n r) (arrangement n q)
  pub single : (r q : ℕ) → r < ways n 0 → q < ways n 0 → arrangement n r ≡ arrangement n q → r ≡ q
