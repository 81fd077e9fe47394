-- What the functions of this crate hold and answer between two blocks. Assumes nothing.
use Rattle.std.specs.Prelude.{ℕ, ◌+◌, ◌-◌, ◌≤◌, ◌<◌, ◌≡◌, Bool, not, ◌&&◌, List, eqb, length, get_or}
use Rattle.lists.specs.Search.{count}
use Rattle.blocks.specs.State.{State, Block, support}
use Rattle.blocks.specs.Position.{Proper}
use Rattle.blocks.specs.Tests.{clearᵇ}
use Rattle.problem.specs.Known.{Loads}
use Rattle.counts.specs.Ways.{ways, held}
use Rattle.training.specs.Arrangement.{PartState, next}
use Rattle.training.specs.declared.Progress.{Progress}

-- A state that is not finished: m blocks are left, and m + k towers stand, k grounded and m loose.
pub record Open (m k : ℕ) (s : State) : Type 0 where
  pub proper : Proper s
  pub left : m ≤ length s
  pub loose : (c : ℕ) → length s - m < c → support s c ≡ 0
  pub tops : count (clearᵇ s) (length s) ≡ m + k

-- Such a state with its loads and a number below its count.
pub record Placing (m k r : ℕ) (s : State) (l : List ℕ) : Type 0 where
  pub small : length s ≤ held
  pub part : Open m k s
  pub number : r < ways m k
  pub loads : Loads s l

-- The part-state that the code holds.
abbrev pub part_of : Progress → State → PartState
part_of p s = record { grounded = p.grounded; rest = p.rest; state = s }

-- After one block: the definition's next part-state, with its loads.
pub record Placed (m : ℕ) (p : Progress) (s : State) (q : Progress) (t : State) (l : List ℕ) : Type 0 where
  pub same : length t ≡ length s
  pub is : part_of q t ≡ next m (part_of p s)
  pub placing : Placing m q.grounded q.rest t l

-- A block of a state whose loads are known.
pub record Known (s : State) (l : List ℕ) (b : ℕ) : Type 0 where
  pub small : length s ≤ held
  pub loads : Loads s l
  pub block : Block s b

-- By the loads: t is not the block given, and nothing rests on it.
abbrev pub freeᵇ : List ℕ → ℕ → ℕ → Bool
freeᵇ l own t = not (eqb t own) && eqb (get_or l t 0) 0

-- A number of a state of n blocks, and room for the state.
pub record Numbered (n r : ℕ) (out : List ℕ) : Type 0 where
  pub small : n ≤ held
  pub number : r < ways n 0
  pub room : n ≤ length out
