-- What every public operation answers, and what the lent space then holds (document 01, "What is lent and written"). Assumes nothing.
use Rattle.std.specs.Prelude.{ℕ, zero, suc, ◌*◌, not, List, [], ◌∷◌, eqb, length, take}
use Rattle.std.proofs.Math.Option.{none}
use Rattle.lists.specs.Lists.{overwrite}
use Rattle.lists.specs.Search.{lowest}
use Rattle.blocks.specs.State.{State, support, put}
use Rattle.blocks.specs.Move.{◌⟶◌, Plan}
use Rattle.blocks.specs.Tests.{misplaced_count}
use Rattle.blocks.specs.Method.{plan_of, plan_outcome, deadlock_rows, deadlock_loop}
use Rattle.blocks.specs.Question.{Asked, all_yes, no', first_no}
use Rattle.blocks.specs.Sheet.{Sheet, goal_state, Call, sheet_questions, plan_questions, deadlock_questions, replay_questions}
use Rattle.blocks.specs.Replay.{lift_questions}

-- ---- lists of numbers as lists of moves

-- "A list of lifts is pairs of 16-bit numbers: slab, destination."
abbrev pub flat : Plan → List ℕ
flat [] = []
flat ((a ⟶ x) ∷ p) = a ∷ x ∷ flat p

abbrev pub moves : List ℕ → Plan
moves [] = []
moves (a ∷ []) = []
moves (a ∷ x ∷ l) = (a ⟶ x) ∷ moves l

-- ---- checking a sheet: questions 2 to 9, and 16 to 18

-- The number of a refusal, 0 where the problem is accepted, and its place.
pub record CheckAnswer : Type 0 where
  pub number : ℕ
  pub place : ℕ

abbrev pub checked : Asked → CheckAnswer
checked all_yes = record { number = 0; place = 0 }
checked (no' k p) = record { number = k; place = p }

unfoldable pub check_answer : Sheet → CheckAnswer
check_answer h = checked (first_no (sheet_questions none h))

-- ---- planning

-- "Planning also answers the lift count"; document 02, Job 2: "the planner's answer" carries "the number of misplaced slabs", at the start.
pub record PlanAnswer : Type 0 where
  pub number : ℕ
  pub place : ℕ
  pub count : ℕ
  pub misplaced : ℕ

abbrev pub planned : Asked → State → State → Plan → PlanAnswer
planned all_yes s g p = record { number = 0; place = 0; count = length p; misplaced = misplaced_count s g }
planned (no' k q) s g p = record { number = k; place = q; count = 0; misplaced = 0 }

-- What the method gives for the sheet.
abbrev pub plan_for : Call → Sheet → Plan
plan_for c h = plan_of (plan_outcome c.method h.initial (goal_state h))

unfoldable pub plan_answer : Call → Sheet → List ℕ → PlanAnswer
plan_answer c h space = planned (first_no (plan_questions c h space)) h.initial (goal_state h) (plan_for c h)

-- What the lent space holds: "no lent list is altered" on a refusal.
abbrev pub written : Asked → List ℕ → List ℕ → List ℕ
written all_yes l space = overwrite l space
written (no' k q) l space = space

unfoldable pub plan_space : Call → Sheet → List ℕ → List ℕ
plan_space c h space = written (first_no (plan_questions c h space)) (flat (plan_for c h)) space

-- The list that planning writes: "the pairs at the front of the lent space, as many as the lift count answered".
abbrev pub written_plan : PlanAnswer → List ℕ → Plan
written_plan answer space = moves (take (2 * answer.count) space)

-- ---- the deadlock test

pub record DeadlockAnswer : Type 0 where
  pub number : ℕ
  pub place : ℕ
  pub count : ℕ

abbrev pub tested : Asked → List ℕ → DeadlockAnswer
tested all_yes l = record { number = 0; place = 0; count = length l }
tested (no' k q) l = record { number = k; place = q; count = 0 }

unfoldable pub deadlock_answer : Sheet → List ℕ → DeadlockAnswer
deadlock_answer h space = tested (first_no (deadlock_questions h space)) (deadlock_loop h.initial (goal_state h))

unfoldable pub deadlock_space : Sheet → List ℕ → List ℕ
deadlock_space h space = written (first_no (deadlock_questions h space)) (deadlock_rows h.initial (goal_state h)) space

-- ---- replay

-- "a refused replay gives no verdict": the filler in its place, a number that is no verdict.
abbrev pub no_verdict : ℕ
no_verdict = 65535

-- "a verdict and a place". Where `number` is not 0, `verdict` is `no_verdict` and the place is the refusal's.
pub record ReplayAnswer : Type 0 where
  pub number : ℕ
  pub verdict : ℕ
  pub place : ℕ

-- "5: all lifts are legal and the end differs from the goal; the place is the lowest slab whose support differs." Otherwise "0: arrives, place 0."
unfoldable pub first_difference : State → State → ℕ
first_difference s g = lowest (λ b. not (eqb (support s b) (support g b))) (length s)

abbrev pub arrival : ℕ → ReplayAnswer
arrival zero = record { number = 0; verdict = 0; place = 0 }
arrival (suc i) = record { number = 0; verdict = 5; place = suc i }

abbrev pub or_bad : Asked → ℕ → ReplayAnswer → ReplayAnswer
or_bad all_yes k rest = rest
or_bad (no' v q) k rest = record { number = 0; verdict = v; place = k }

-- The plan is followed from a state and the move counted k.
unfoldable pub replay_from : Sheet → ℕ → State → Plan → ReplayAnswer
replay_from h k s [] = arrival (first_difference s h.goal)
replay_from h k s ((a ⟶ x) ∷ p) = or_bad (first_no (lift_questions h.lengths s a x)) k (replay_from h (suc k) (put s a x) p)

abbrev pub replayed : Asked → ReplayAnswer → ReplayAnswer
replayed all_yes answer = answer
replayed (no' k q) answer = record { number = k; verdict = no_verdict; place = q }

unfoldable pub replay_answer : Sheet → List ℕ → ReplayAnswer
replay_answer h lifts = replayed (first_no (replay_questions h lifts)) (replay_from h 1 h.initial (moves lifts))
