-- The working lists of a run are the rows of one lent array. Assumes nothing.
use Rattle.std.specs.Prelude.{ℕ, ◌+◌, ◌≤◌, ◌<◌, ◌≡◌, List, [], length, get_or, set}
use Rattle.lists.specs.Lists.{Zeros}
use Rattle.blocks.specs.State.{most}

abbrev pub Yard : Type 0
Yard = List (List ℕ)

-- How long a row is: an entry for the table, and one for every block.
abbrev pub row_size : ℕ
row_size = most + 1

abbrev pub row : Yard → ℕ → List ℕ
row y k = get_or y k []

-- The rows after v was stored at i of row k.
abbrev pub store : Yard → ℕ → ℕ → ℕ → Yard
store y k i v = set y k (set (row y k) i v)

-- The rows of a run, by number. What rests on each block, and how each stands; what rests on each block in the goal;
abbrev pub loads_of : Yard → List ℕ
loads_of y = row y 0

abbrev pub stands_of : Yard → List ℕ
stands_of y = row y 1

abbrev pub goal_loads_of : Yard → List ℕ
goal_loads_of y = row y 2

-- the towers of the state, and of the goal;
abbrev pub bottoms_of : Yard → List ℕ
bottoms_of y = row y 3

abbrev pub tops_of : Yard → List ℕ
tops_of y = row y 4

abbrev pub goal_bottoms_of : Yard → List ℕ
goal_bottoms_of y = row y 5

abbrev pub highs_of : Yard → List ℕ
highs_of y = row y 6

-- the walk of the loop: the blocks seen, in order, and the place of each among them. The table, which is not seen, has how many are kept.
abbrev pub seen_of : Yard → List ℕ
seen_of y = row y 7

abbrev pub places_of : Yard → List ℕ
places_of y = row y 8

-- How many rows there are.
abbrev pub row_count : ℕ
row_count = 9

-- A row on which nothing is written.
pub record Blank (l : List ℕ) : Type 0 where
  pub room : most < length l
  pub zeros : Zeros l

-- The first n rows are there, and blank.
pub record Fresh (n : ℕ) (y : Yard) : Type 0 where
  pub sized : n ≤ length y
  pub blank : (k : ℕ) → k < n → Blank (row y k)

-- An array of a run: each row has an entry for the table and for every block.
pub record Sized (y : Yard) : Type 0 where
  pub rows : length y ≡ row_count
  pub rooms : (k : ℕ) → k < row_count → most < length (row y k)

-- No row has changed but those from lo up to hi, and each is as long as it was.
pub record Within (lo hi : ℕ) (y y' : Yard) : Type 0 where
  pub size : length y' ≡ length y
  pub long : (k : ℕ) → length (row y' k) ≡ length (row y k)
  pub below : (k : ℕ) → k < lo → row y' k ≡ row y k
  pub above : (k : ℕ) → hi ≤ k → row y' k ≡ row y k
