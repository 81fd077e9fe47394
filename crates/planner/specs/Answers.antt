-- What the answers of planning say, in document 01's numbers, and what the public functions promise. Assumes nothing.
use Rattle.std.specs.Prelude.{ℕ, ◌*◌, ◌≤◌, ◌≡◌, Result, Ok, Err, Bool, true, false, ◌&&◌, cond, List, leb, ltb, length, take}
use Rattle.std.proofs.Math.Option.{Option, none, some}
use Rattle.lists.specs.Lists.{overwrite}
use Rattle.rows.specs.Rows.{Yard, Sized}
use Rattle.blocks.specs.State.{State, most}
use Rattle.blocks.specs.Position.{Bounded}
use Rattle.blocks.specs.Move.{Plan}
use Rattle.blocks.specs.Tests.{misplaced_count}
use Rattle.blocks.specs.Method as method
use Rattle.blocks.specs.Method.{plan, outcome, method_of}
use Rattle.blocks.specs.Steps as words
use Rattle.blocks.specs.Question.{first_no}
use Rattle.blocks.specs.Sheet.{Sheet, goal_state, Arrives, Call, panel_most, plan_questions}
use Rattle.blocks.specs.Answer.{PlanAnswer, flat, moves, plan_answer, plan_space}
use Rattle.blocks.specs.Demands.{HeadCount, Promise}
use Rattle.problem.specs.Known.{AtStart}
use Rattle.choices.specs.Walks.{Unvisited}
use Rattle.statuses.specs.declared.Mode.{Mode}
use Rattle.statuses.specs.declared.Mode.TheVariants.{Clearing, Gn1, Gn2}
use Rattle.refusals.specs.Refusals.{number_of, asked_of}
use Rattle.refusals.specs.declared.Refusal.{Refusal}
use Rattle.refusals.specs.declared.Question as questions
use Rattle.planner.specs.declared.Planned.{Planned}
use Rattle.planner.specs.declared.Method as declared
use Rattle.planner.specs.declared.Call as declared-call

-- The methods of the code are those of the definitions.
abbrev pub as_method : declared.Method → method.Method
as_method declared.TheVariants.Us = method.Us
as_method declared.TheVariants.Gn1 = method.Gn1
as_method declared.TheVariants.Gn2 = method.Gn2

-- The method of a number, or the "no" to question 1.
abbrev pub named_as : Result declared.Method Refusal → Option method.Method
named_as (Ok m) = some (as_method m)
named_as (Err r) = none

pub record Names (number : ℕ) (r : Result declared.Method Refusal) : Type 0 where
  pub method : named_as r ≡ method_of number
  pub refused : (q : Refusal) → r ≡ Err q → q ≡ record { question = questions.TheVariants.Method; place = 0 }

-- The first run of a method, and whether another follows.
abbrev pub mode_of : method.Method → Mode
mode_of method.Us = Clearing
mode_of method.Gn1 = Gn1
mode_of method.Gn2 = Gn2

abbrev pub is_us : method.Method → Bool
is_us method.Us = true
is_us method.Gn1 = false
is_us method.Gn2 = false

-- What planning answers: the counts of a plan, or the number and place of the first "no".
abbrev pub Answer : Type 0
Answer = Result Planned Refusal

-- document 01's number, place and lift count, and the misplaced: on a refusal both counts are 0.
abbrev pub answer_of : Answer → PlanAnswer
answer_of (Ok p) = record { number = 0; place = 0; count = p.count; misplaced = p.misplaced }
answer_of (Err r) = record { number = number_of r.question; place = r.place; count = 0; misplaced = 0 }

-- Planning: the case, the numbers that are answered, the lent space whole; of the list that is written that the method's words give it, and demand 3; and what the
-- count of misplaced blocks promises.
pub record Plans (call : Call) (h : Sheet) (space : List ℕ) (r : Answer) (space' : List ℕ) : Type 0 where
  pub asked : asked_of r ≡ first_no (plan_questions call h space)
  pub answer : answer_of r ≡ plan_answer call h space
  pub lent : space' ≡ plan_space call h space
  pub told : (p : Planned) → r ≡ Ok p → (by : method.Method) → method_of call.method ≡ some by
      → words.By by h.initial (goal_state h) (moves (take (2 * p.count) space'))
  pub promise : (p : Planned) → r ≡ Ok p → (by : method.Method) → method_of call.method ≡ some by
      → Promise (Arrives h) by h.initial (goal_state h) (moves (take (2 * p.count) space'))
  pub head_count : (p : Planned) → r ≡ Ok p → HeadCount (Arrives h) h.initial (goal_state h) p.misplaced

-- The call of the code as one of the definitions: by the panel's entry, or by the office's.
abbrev pub call_of : declared-call.Call → Call
call_of call = record { method = call.method; limit = cond call.panel (some panel_most) none }

-- Question 19 as the code puts it, the panel's alone and where 2 is answered yes: n is beyond its limit.
abbrev pub beyondᵇ : Bool → ℕ → Bool
beyondᵇ panel n = panel && (leb n most && ltb panel_most n)

-- A problem that has been checked, with its rows as the check left them, and room for the plan.
pub record Solvable (s g : State) (y : Yard) (out : List ℕ) : Type 0 where
  pub problem : Bounded s g
  pub sized : Sized y
  pub start : AtStart s g y
  pub visits : Unvisited y
  pub room : 4 * length s ≤ length out

-- The plan of the method is written from the front, and its length is answered.
pub record Ran (m : method.Method) (s g : State) (out : List ℕ) (r : ℕ) (out' : List ℕ) : Type 0 where
  pub moves : Plan
  pub outcome : outcome m s g ≡ plan moves
  pub count : r ≡ length moves
  pub written : out' ≡ overwrite (flat moves) out

-- And how many blocks are misplaced at the start.
pub record Solved (m : method.Method) (s g : State) (out : List ℕ) (r : Planned) (out' : List ℕ) : Type 0 where
  pub ran : Ran m s g out r.count out'
  pub misplaced : r.misplaced ≡ misplaced_count s g
