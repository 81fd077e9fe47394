-- The tests of a block as the rows decide them: how it and its goal support stand, and what rests on them. Assumes nothing.
use Rattle.std.specs.Prelude.{ℕ, ◌-◌, ◌≤◌, ◌≡◌, Bool, not, ◌&&◌, cond, eqb, length, get_or}
use Rattle.rows.specs.Rows.{Yard, Sized, loads_of, stands_of, goal_loads_of}
use Rattle.blocks.specs.State.{State, most}
use Rattle.problem.specs.Known.{right_in, misplaced_in}
use Rattle.statuses.specs.Modes.{walksᵇ}
use Rattle.statuses.specs.declared.Mode.{Mode}

-- Misplaced and clear.
unfoldable pub waits_in : Yard → ℕ → Bool
waits_in y b = misplaced_in y b && eqb (get_or (loads_of y) b 0) 0

-- And off the table.
unfoldable pub perched_in : State → Yard → ℕ → Bool
perched_in s y b = waits_in y b && not (eqb (get_or s (b - 1) 0) 0)

-- In position and clear; the table is clear.
unfoldable pub target_in : Yard → ℕ → Bool
target_in y x = right_in (stands_of y) x && not (not (eqb x 0) && not (eqb (get_or (loads_of y) x 0) 0))

-- Misplaced and clear, with a goal support that is in position and clear.
unfoldable pub ready_in : State → Yard → ℕ → Bool
ready_in g y b = waits_in y b && target_in y (get_or g (b - 1) 0)

unfoldable pub loose_in : Mode → State → Yard → ℕ → Bool
loose_in m s y b = cond (walksᵇ m) (waits_in y b) (perched_in s y b)

-- The block that goes onto u in the goal; 0 where none does. Onto the table none does.
abbrev pub onto : Yard → ℕ → ℕ
onto y u = cond (eqb u 0) 0 (get_or (goal_loads_of y) u 0)

-- Block b of a state, or the table, can be looked up in the rows. The table stands in position, so it does not wait.
pub record Readable (s : State) (y : Yard) (b : ℕ) : Type 0 where
  pub sized : Sized y
  pub small : length s ≤ most
  pub high : b ≤ length s
  pub entries : (i : ℕ) → get_or s i 0 ≤ length s
  pub table : get_or (stands_of y) 0 0 ≡ 2
