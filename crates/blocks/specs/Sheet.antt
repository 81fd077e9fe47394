-- The sheet, and what is asked of it (documents 01 and 02): one record of what a sheet says, one of how planning is asked, and what each operation asks, in
-- order. An option that is not given asks nothing. Assumes nothing.
use Rattle.std.specs.Prelude.{ℕ, ◌*◌, ◌≤◌, List, [], ◌∷◌, ◌++◌, length}
use Rattle.std.proofs.Math.Option.{Option, none, some}
use Rattle.blocks.specs.State.{State, most}
use Rattle.blocks.specs.Position.{Problem}
use Rattle.blocks.specs.Move.{Plan, Solves}
use Rattle.blocks.specs.Loop.{shown_width}
use Rattle.blocks.specs.Method.{plan_outcome}
use Rattle.blocks.specs.Question.{Question, FirstNo, asks_method, asks_size, limit_questions, list_questions, asks_room, asks_even, asks_plan}
use Rattle.blocks.specs.Length.{Lengths, FittingPlan, MeasuredIf, length_questions}

-- ---- a sheet

-- document 01: "A sheet is two arrangements, now and goal." Document 02, Job 3: "Each slab gains a length".
pub record Sheet : Type 0 where
  pub initial : State
  pub goal : State
  pub lengths : Lengths

-- A sheet with lengths or without; and document 01's sheet.
abbrev pub measured_by : Lengths → State → State → Sheet
measured_by ls s g = record { initial = s; goal = g; lengths = ls }

abbrev pub plain : State → State → Sheet
plain s g = measured_by none s g

-- The completely specified goal state (document 000, "a completely specified goal state") of a goal list: the list, whose every entry is stated.
-- Kept shut: beside the tables, only its laws (proofs/GoalStateLaws) look inside.
unfoldable pub completed : State → State → State
completed s g = g

-- The goal state of a sheet, which the methods go for: by it blocks are misplaced and deadlocked.
abbrev pub goal_state : Sheet → State
goal_state h = completed h.initial h.goal

-- A legal plan that arrives: "with lengths a lift onto a shorter slab is not legal".
pub record Arrives (h : Sheet) (p : Plan) : Type 0 where
  pub solves : Solves h.initial h.goal p
  pub fits : FittingPlan h.lengths p

-- document 01: "In demand 3 a sheet is accepted when questions 2 to 9 below all get a yes." Of 16 to 18: "Accepted asks these too."
pub record Accepted (h : Sheet) : Type 0 where
  pub small : length h.initial ≤ most
  pub problem : Problem h.initial h.goal
  pub measured : MeasuredIf h.lengths h.initial h.goal

-- ---- how planning is asked

-- A call of planning: the method by its number, and the most blocks that the entry takes, where it has a limit of its own.
pub record Call : Type 0 where
  pub method : ℕ
  pub limit : Option ℕ

-- document 02, Job 5: "The panel in the crane cabin calls the planner too and takes at most 600 slabs; the yard office still takes 4,000." The office asks what
-- document 01 asks, of which 2 says 4,000.
abbrev pub office : ℕ → Call
office m = record { method = m; limit = none }

abbrev pub panel_most : ℕ
panel_most = 600

abbrev pub panel : ℕ → Call
panel m = record { method = m; limit = some panel_most }

-- The entry takes n blocks.
abbrev pub Takes : Option ℕ → ℕ → Type 0
Takes none n = Unit {0}
Takes (some limit) n = n ≤ limit

-- ---- what is asked, in order

-- 2 to 9; of an entry with a limit 19 "directly after 2"; of lengths 16 to 18 "after 9".
unfoldable pub sheet_questions : Option ℕ → Sheet → List Question
sheet_questions limit h =
    asks_size (length h.initial)
    ∷ (limit_questions limit (length h.initial) ++ (list_questions h.initial h.goal ++ length_questions h.lengths h.initial h.goal))

-- "Planning needs 4 × n numbers of lent space, the deadlock test 2 × n"; of the latter document 02, Job 6: "its space is now 3 × n".
unfoldable pub plan_questions : Call → Sheet → List ℕ → List Question
plan_questions c h space =
    asks_method c.method
    ∷ (sheet_questions c.limit h ++ (asks_room (4 * length h.initial) space ∷ asks_plan (plan_outcome c.method h.initial (goal_state h)) ∷ []))

unfoldable pub deadlock_questions : Sheet → List ℕ → List Question
deadlock_questions h space = sheet_questions none h ++ (asks_room (shown_width * length h.initial) space ∷ [])

unfoldable pub replay_questions : Sheet → List ℕ → List Question
replay_questions h lifts = sheet_questions none h ++ (asks_even lifts ∷ [])

-- ---- the refusals: the first "no" has number k and place p

abbrev pub Refused : Sheet → ℕ → ℕ → Type 0
Refused h k p = FirstNo (sheet_questions none h) k p

abbrev pub PlanRefused : Call → Sheet → List ℕ → ℕ → ℕ → Type 0
PlanRefused c h space k p = FirstNo (plan_questions c h space) k p

abbrev pub DeadlockRefused : Sheet → List ℕ → ℕ → ℕ → Type 0
DeadlockRefused h space k p = FirstNo (deadlock_questions h space) k p

abbrev pub ReplayRefused : Sheet → List ℕ → ℕ → ℕ → Type 0
ReplayRefused h lifts k p = FirstNo (replay_questions h lifts) k p
