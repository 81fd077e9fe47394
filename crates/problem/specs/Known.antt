-- What lists of numbers beside a state say of it: loads, and how each block stands at the start. Assumes nothing.
use Rattle.std.specs.Prelude.{ℕ, ◌+◌, ◌≤◌, ◌<◌, ◌≡◌, Bool, not, ◌&&◌, cond, Option, None, List, eqb, length, get_or}
use Rattle.rows.specs.Rows.{Yard, row, Blank, loads_of, stands_of, goal_loads_of, Within}
use Rattle.blocks.specs.State.{State, most, put, Grounded}
use Rattle.blocks.specs.Position.{Proper, InPosition}
use Rattle.blocks.specs.Move.{Legal}
use Rattle.blocks.specs.Tests.{load}
use Rattle.blocks.specs.Question.{first_outside, first_shared}
use Rattle.lists.specs.Reflect.{Reflects}
use Rattle.lists.specs.Search.{nonzero}

-- Entry b is the block that rests on b, 0 for none. Entry 0 says nothing.
pub record Loads (s : State) (l : List ℕ) : Type 0 where
  pub room : length s < length l
  pub at : (b : ℕ) → 1 ≤ b → b ≤ length s → get_or l b 0 ≡ load s b

-- A state whose loads can be filled into a blank row: questions 2 and 4 are answered yes.
pub record Fillable (s : State) (l : List ℕ) : Type 0 where
  pub small : length s ≤ most
  pub entries : first_outside s ≡ 0
  pub blank : Blank l

-- The answer to question 5, and the loads where it is yes.
pub record Filled (s : State) (place : Option ℕ) (l : List ℕ) : Type 0 where
  pub place_is : place ≡ nonzero (first_shared s)
  pub loads : place ≡ None → Loads s l

-- How a block that comes down to the table stands, from its supports now and in the goal and from how its support stands: 2 in position, 1 misplaced.
abbrev pub stands_as : ℕ → ℕ → ℕ → ℕ
stands_as x y below = cond (eqb x y && eqb below 2) 2 1

-- Block b can be looked up in the lists.
pub record Standable (s g : State) (b : ℕ) : Type 0 where
  pub low : 1 ≤ b
  pub high : b ≤ length s
  pub same : length g ≡ length s

-- A state that can be climbed: questions 2, 4 and 5 are answered yes, the goal is as long, and a row has the loads, with a blank one behind it.
pub record Climbable (s g : State) (y : Yard) (loads : ℕ) : Type 0 where
  pub small : length s ≤ most
  pub entries : first_outside s ≡ 0
  pub carries : first_shared s ≡ 0
  pub same : length g ≡ length s
  pub known : Loads s (row y loads)
  pub sized : loads + 1 < length y
  pub blank : Blank (row y (loads + 1))

-- Whether block b is in position, by the list that says how the blocks stand.
abbrev pub right_in : List ℕ → ℕ → Bool
right_in st b = eqb (get_or st b 0) 2

-- How the blocks stand. Entry b is 0 where block b does not come down to the table, else 2 in position and 1 misplaced. The table is in position.
pub record Standings (s g : State) (st : List ℕ) : Type 0 where
  pub room : length s < length st
  pub table : get_or st 0 0 ≡ 2
  pub reached : (b : ℕ) → 1 ≤ b → b ≤ length s → Reflects (Grounded s b) (not (eqb (get_or st b 0) 0))
  pub right : (b : ℕ) → 1 ≤ b → b ≤ length s → Grounded s b → Reflects (InPosition s g b) (right_in st b)
  pub small : (b : ℕ) → 1 ≤ b → b ≤ length s → get_or st b 0 ≤ 2

-- The row behind that of the loads says how the blocks stand; no other row has changed.
pub record Climbed (s g : State) (loads : ℕ) (y y' : Yard) : Type 0 where
  pub stands : Standings s g (row y' (loads + 1))
  pub within : Within (loads + 1) (loads + 2) y y'

-- Whether block b is misplaced, by that row.
abbrev pub misplaced_in : Yard → ℕ → Bool
misplaced_in y b = not (right_in (stands_of y) b)

-- The loads of both states, and how the blocks stand.
pub record AtStart (s g : State) (y : Yard) : Type 0 where
  pub loads : Loads s (loads_of y)
  pub stands : Standings s g (stands_of y)
  pub goal_loads : Loads g (goal_loads_of y)

-- A legal move in a state whose loads are known.
pub record Movable (s : State) (l : List ℕ) (a x : ℕ) : Type 0 where
  pub small : length s ≤ most
  pub proper : Proper s
  pub legal : Legal s a x
  pub loads : Loads s l

-- The state after the move, with its loads.
pub record MovedTo (s : State) (a x : ℕ) (t : State) (l : List ℕ) : Type 0 where
  pub state : t ≡ put s a x
  pub loads : Loads t l
