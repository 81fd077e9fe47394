-- What the answers of the deadlock test say, in document 01's numbers, and what the public functions promise. Assumes nothing.
use Rattle.std.specs.Prelude.{ℕ, ◌*◌, ◌≡◌, Option, Some, None, Result, Ok, Err, List, length, take}
use Rattle.blocks.specs.Loop.{shown_width}
use Rattle.blocks.specs.Question.{first_no}
use Rattle.blocks.specs.Sheet.{Sheet, goal_state, deadlock_questions}
use Rattle.blocks.specs.Answer.{DeadlockAnswer, deadlock_answer, deadlock_space}
use Rattle.blocks.specs.Demands.{NoDeadlock, Shown}
use Rattle.refusals.specs.Refusals.{number_of, asked_of}
use Rattle.refusals.specs.declared.Refusal.{Refusal}

-- What the deadlock test answers: that nothing is deadlocked at the start, or how many blocks the rows show; or the number and place of the first "no".
abbrev pub Answer : Type 0
Answer = Result (Option ℕ) Refusal

-- document 01's number, place and count: "No misplaced slab left: the answer is none, count 0."
abbrev pub answer_of : Answer → DeadlockAnswer
answer_of (Ok None) = record { number = 0; place = 0; count = 0 }
answer_of (Ok (Some c)) = record { number = 0; place = 0; count = c }
answer_of (Err r) = record { number = number_of r.question; place = r.place; count = 0 }

-- The deadlock test: the case, document 01's numbers, the lent space whole; and that it agrees with the definition of deadlocked at the start, no and yes alike:
-- none says that no blocks are deadlocked, and the rows of another answer, read back from the space, show blocks that are.
pub record TestsDeadlock (h : Sheet) (space : List ℕ) (r : Answer) (space' : List ℕ) : Type 0 where
  pub asked : asked_of r ≡ first_no (deadlock_questions h space)
  pub answer : answer_of r ≡ deadlock_answer h space
  pub lent : space' ≡ deadlock_space h space
  pub none : r ≡ Ok None → NoDeadlock h.initial (goal_state h)
  pub some : (c : ℕ) → r ≡ Ok (Some c)
      → (blocks : List ℕ) × (length blocks ≡ c) × Shown h.initial (goal_state h) blocks (take (shown_width * c) space')
