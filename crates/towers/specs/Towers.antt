-- What is kept at the bottom of each tower (document 001, section 3.5, the concierge): its top, and for towers of the goal the highest block in position.
-- Assumes nothing.
use Rattle.std.specs.Prelude.{ℕ, zero, suc, ◌+◌, ◌≤◌, ◌<◌, ◌≡◌, cond, List, eqb, length, get_or}
use Rattle.rows.specs.Rows.{Yard, row, Sized, stands_of, goal_loads_of, goal_bottoms_of, highs_of, Within}
use Rattle.blocks.specs.State.{State, most, support}
use Rattle.blocks.specs.Position.{Proper, Problem, Misplaced}
use Rattle.blocks.specs.Tests.{in_positionᵇ, nearest}
use Rattle.blocks.specs.Loop.{top}
use Rattle.problem.specs.Known.{Loads}

-- The block on the table at the bottom of b's tower.
unfoldable pub bottom_in : State → ℕ → ℕ → ℕ
bottom_in s zero b = b
bottom_in s (suc k) b = cond (eqb (support s b) 0) b (bottom_in s k (support s b))

unfoldable pub bottom : State → ℕ → ℕ
bottom s b = bottom_in s (length s) b

-- Entry b is the bottom of b's tower.
pub record Bottoms (s : State) (l : List ℕ) : Type 0 where
  pub room : length s < length l
  pub at : (b : ℕ) → 1 ≤ b → b ≤ length s → get_or l b 0 ≡ bottom s b

-- The entry of a tower's bottom is the clear block at its top.
pub record Tops (s : State) (l : List ℕ) : Type 0 where
  pub room : length s < length l
  pub at : (b : ℕ) → 1 ≤ b → b ≤ length s → get_or l (bottom s b) 0 ≡ top s (length s) b

-- How every block stands: 2 in position, 1 misplaced; the table is in position.
pub record Stands (s g : State) (l : List ℕ) : Type 0 where
  pub room : length s < length l
  pub at : (b : ℕ) → b ≤ length s → get_or l b 0 ≡ cond (in_positionᵇ s g b) 2 1

-- The entry of a goal tower's bottom is its highest block in position, or the table: document 01's c for every misplaced block of that tower.
pub record Highs (s g : State) (l : List ℕ) : Type 0 where
  pub room : length s < length l
  pub at : (b : ℕ) → Misplaced s g b → get_or l (bottom g b) 0 ≡ nearest s g b

-- A state whose loads a row has, and two rows for its towers.
pub record Fillable (s : State) (y : Yard) (loads bottoms : ℕ) : Type 0 where
  pub small : length s ≤ most
  pub proper : Proper s
  pub known : Loads s (row y loads)
  pub before : loads < bottoms
  pub inside : bottoms + 1 < 9
  pub sized : Sized y

-- The towers are in their rows; no other row has changed.
pub record Filled (s : State) (bottoms : ℕ) (y y' : Yard) : Type 0 where
  pub bottom : Bottoms s (row y' bottoms)
  pub top : Tops s (row y' (bottoms + 1))
  pub within : Within bottoms (bottoms + 2) y y'

-- A goal whose loads and bottoms the rows have, and standings in which the table is in position.
pub record Climbable (g : State) (y : Yard) : Type 0 where
  pub small : length g ≤ most
  pub proper : Proper g
  pub sized : Sized y
  pub goal_loads : Loads g (goal_loads_of y)
  pub goal_bottoms : Bottoms g (goal_bottoms_of y)
  pub room : length g < length (stands_of y)
  pub table : get_or (stands_of y) 0 0 ≡ 2

-- The row says which block in position is the highest of each goal tower, in whatever state the blocks stand so; no other row has changed.
pub record Climbed (g : State) (y y' : Yard) : Type 0 where
  pub highs : (s : State) → Problem s g → Stands s g (stands_of y) → Highs s g (highs_of y')
  pub within : Within 6 7 y y'
