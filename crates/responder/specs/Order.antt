-- The order of the questions in one list, as document 01 gives it: "then 1 and 2 are asked; then 12 of the other records in order; then 4 on.",
-- with 17 and 18 "after 9" (document 02, Job 3). A statement alone; `proofs/Order.antt` proves it. Assumes nothing.
use Rattle.std.specs.Prelude.{ℕ, ◌≡◌, Bool, List, [], ◌∷◌, ◌++◌}
use Rattle.blocks.specs.Question.{Question, first_no, asks_method, asks_size, state_questions, asks_plan}
use Rattle.blocks.specs.Method.{plan_outcome}
use Rattle.blocks.specs.Length.{overhang_questions}
use Rattle.blocks.specs.Sheet.{Sheet, goal_state}
use Rattle.responder.specs.Responses.{record_questions, sheet_in, program_questions}

-- 4, 5 and 6 of the now list, 7, 8 and 9 of the goal list, with lengths 17 and 18, and 13. The lists are as long as each other, there are n lengths where
-- there are some, and the space is large enough: 3, 16 and 10 are not asked.
abbrev pub four_on : ℕ → Sheet → List Question
four_on m h =
    state_questions 4 5 6 h.initial
    ++ (state_questions 7 8 9 h.goal ++ (overhang_questions h.lengths h.initial h.goal ++ (asks_plan (plan_outcome m h.initial (goal_state h)) ∷ [])))

abbrev pub ordered_questions : Bool → ℕ → ℕ → List ℕ → List Question
ordered_questions measured n m bytes =
    asks_method m ∷ asks_size n ∷ (record_questions measured n bytes ++ four_on m (sheet_in measured n bytes))

-- The questions of the definition come to the same.
abbrev pub InOrder : Type 0
InOrder =
    (measured : Bool) (n m : ℕ) (bytes : List ℕ) → first_no (program_questions measured n m bytes) ≡ first_no (ordered_questions measured n m bytes)
