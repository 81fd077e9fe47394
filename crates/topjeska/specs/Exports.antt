-- What the exported answers say, in document 01's numbers: `refusal` 0 means answered. Assumes nothing.
use Rattle.std.specs.Prelude.{ℕ, ◌*◌, ◌≡◌, ◌≢◌, ◌↔◌, List, length, take}
use Rattle.std.proofs.Math.Option.{some}
use Rattle.blocks.specs.Answer as answer
use Rattle.blocks.specs.Answer.{moves, plan_answer, plan_space, deadlock_answer, deadlock_space, replay_answer}
use Rattle.blocks.specs.Loop.{shown_width}
use Rattle.blocks.specs.Method.{method_of, Method}
use Rattle.blocks.specs.Steps.{By}
use Rattle.blocks.specs.Sheet.{Sheet, goal_state, Arrives, Call}
use Rattle.blocks.specs.Demands.{HeadCount, Promise, NoDeadlock, Shown}
use Rattle.blocks.specs.SheetDemands.{Replayable}
use Rattle.topjeska.specs.declared.CheckAnswer.{CheckAnswer}
use Rattle.topjeska.specs.declared.PlanAnswer.{PlanAnswer}
use Rattle.topjeska.specs.declared.DeadlockAnswer.{DeadlockAnswer}
use Rattle.training.specs.Numbering.{IsState}
use Rattle.training.specs.Training.{train_answer, train_space, draw_answer, draw_space, draw_seed}
use Rattle.topjeska.specs.declared.ReplayAnswer.{ReplayAnswer}
use Rattle.topjeska.specs.declared.TrainingAnswer.{TrainingAnswer}

abbrev pub as_check : CheckAnswer → answer.CheckAnswer
as_check r = record { number = r.refusal; place = r.place }

abbrev pub as_plan : PlanAnswer → answer.PlanAnswer
as_plan r = record { number = r.refusal; place = r.place; count = r.count; misplaced = r.misplaced }

abbrev pub as_deadlock : DeadlockAnswer → answer.DeadlockAnswer
as_deadlock r = record { number = r.refusal; place = r.place; count = r.count }

abbrev pub as_replay : ReplayAnswer → answer.ReplayAnswer
as_replay r = record { number = r.refusal; verdict = r.verdict; place = r.place }

abbrev pub as_training : TrainingAnswer → answer.CheckAnswer
as_training r = record { number = r.refusal; place = r.place }

-- Planning: the answer that the definition gives, the lent space whole; of the list that is written that the method's words give it, and demand 3; and what
-- the count of misplaced blocks promises.
pub record ExportsPlan (call : Call) (h : Sheet) (space : List ℕ) (r : PlanAnswer) (space' : List ℕ) : Type 0 where
  pub answer : as_plan r ≡ plan_answer call h space
  pub lent : space' ≡ plan_space call h space
  pub told : r.refusal ≡ 0 → (method : Method) → method_of call.method ≡ some method
      → By method h.initial (goal_state h) (moves (take (2 * r.count) space'))
  pub promise : r.refusal ≡ 0 → (method : Method) → method_of call.method ≡ some method
      → Promise (Arrives h) method h.initial (goal_state h) (moves (take (2 * r.count) space'))
  pub head_count : r.refusal ≡ 0 → HeadCount (Arrives h) h.initial (goal_state h) r.misplaced

-- The deadlock test: the answer that the definition gives, the lent space whole; count 0 says that no blocks are deadlocked at the start, another count
-- that the rows show blocks that are.
pub record ExportsDeadlock (h : Sheet) (space : List ℕ) (r : DeadlockAnswer) (space' : List ℕ) : Type 0 where
  pub answer : as_deadlock r ≡ deadlock_answer h space
  pub lent : space' ≡ deadlock_space h space
  pub free : r.refusal ≡ 0 → r.count ≡ 0 → NoDeadlock h.initial (goal_state h)
  pub shown : r.refusal ≡ 0 → r.count ≢ 0
      → (blocks : List ℕ) × (length blocks ≡ r.count) × Shown h.initial (goal_state h) blocks (take (shown_width * r.count) space')

-- Replay: the answer that the definition gives; verdict 0 says that the lists are a sheet, and that every lift of the list is legal and its end is the goal.
pub record ExportsReplay (h : Sheet) (lifts : List ℕ) (r : ReplayAnswer) : Type 0 where
  pub answer : as_replay r ≡ replay_answer h lifts
  pub arrives : (r.verdict ≡ 0) ↔ (Replayable h lifts × Arrives h (moves lifts))

-- Training from a number: the answer that the definition gives, the lent list whole; and that questions 4 to 6 accept what is written.
pub record ExportsTraining (n r : ℕ) (space : List ℕ) (a : TrainingAnswer) (space' : List ℕ) : Type 0 where
  pub answer : as_training a ≡ train_answer n r space
  pub lent : space' ≡ train_space n r space
  pub state : a.refusal ≡ 0 → IsState n (take n space')

-- Training from a generator: the same, and its new seed, which is not zero where a state was drawn.
pub record ExportsDraw (n seed : ℕ) (space : List ℕ) (a : TrainingAnswer) (seed' : ℕ) (space' : List ℕ) : Type 0 where
  pub answer : as_training a ≡ draw_answer n seed space
  pub lent : space' ≡ draw_space n seed space
  pub advanced : seed' ≡ draw_seed n seed space
  pub state : a.refusal ≡ 0 → IsState n (take n space')
  pub lasts : a.refusal ≡ 0 → seed' ≢ 0
