-- The rows before and after a move of block a to x. Assumes nothing.
use Rattle.std.specs.Prelude.{ℕ, ◌-◌, ◌≤◌, ◌<◌, cond, List, eqb, length, get_or, set}
use Rattle.rows.specs.Rows.{Yard, store, Sized, bottoms_of, tops_of, goal_bottoms_of, Within}
use Rattle.blocks.specs.State.{State, most, put}
use Rattle.blocks.specs.Position.{Proper}
use Rattle.blocks.specs.Move.{Legal}
use Rattle.towers.specs.Towers.{Bottoms, Tops}

-- A legal move in a state whose towers are known.
pub record Shifting (s : State) (y : Yard) (a x : ℕ) : Type 0 where
  pub small : length s ≤ most
  pub proper : Proper s
  pub legal : Legal s a x
  pub sized : Sized y
  pub bottoms : Bottoms s (bottoms_of y)
  pub tops : Tops s (tops_of y)

-- The towers are those after the move; no other row has changed.
pub record Shifted (s : State) (a x : ℕ) (y y' : Yard) : Type 0 where
  pub bottoms : Bottoms (put s a x) (bottoms_of y')
  pub tops : Tops (put s a x) (tops_of y')
  pub within : Within 3 5 y y'

-- How the blocks stand: a comes into position where x is its goal support.
abbrev pub restood : State → ℕ → ℕ → List ℕ → List ℕ
restood g a x st = cond (eqb x (get_or g (a - 1) 0)) (set st a 2) st

-- The highest block in position of a's goal tower can be written.
pub record Raisable (g : State) (y : Yard) (a : ℕ) : Type 0 where
  pub sized : Sized y
  pub low : 1 ≤ a
  pub within : a - 1 < length g
  pub small : a ≤ most
  pub bottom : get_or (goal_bottoms_of y) a 0 ≤ most

-- It is a where a comes into position.
abbrev pub raised : State → ℕ → ℕ → Yard → Yard
raised g a x y = cond (eqb x (get_or g (a - 1) 0)) (store y 6 (get_or (goal_bottoms_of y) a 0) a) y
