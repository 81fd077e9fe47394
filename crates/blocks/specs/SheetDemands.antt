-- The theorems on sheets, statements alone: the three demands (docs/SPECIFICATION.md), once for every sheet and every entry. Quotations are of the demands, or of
-- the document that is named. proofs/SheetTheorems proves the whole record. Assumes nothing.
use Rattle.std.specs.Prelude.{ℕ, ◌*◌, ◌%◌, ◌≤◌, ◌<◌, ◌≡◌, ◌≢◌, ◌↔◌, true, List, [], ◌∷◌, ◌++◌, length, take, drop}
use Rattle.std.proofs.Math.Option.{Option, none, some}
use Rattle.blocks.specs.State.{State, most}
use Rattle.blocks.specs.Position.{Bounded, Problem}
use Rattle.blocks.specs.Move.{Plan, Legal, LegalPlan, Constructive, Solves}
use Rattle.blocks.specs.Tests.{misplaced_count, measure}
use Rattle.blocks.specs.Loop.{shown_width}
use Rattle.blocks.specs.Steps.{By, ByTest}
use Rattle.blocks.specs.Method.{Method, plan, outcome, method_of, number_of, plan_outcome, deadlock_loop, deadlock_rows}
use Rattle.blocks.specs.Question.{all_yes, no', first_no, numbers, IsMethod, asks_method, asks_room, asks_even, asks_plan, problem_questions}
use Rattle.blocks.specs.Length.{Lengths, Fits, fitsᵇ, LegalUnder, MeasuredIf}
use Rattle.blocks.specs.Sheet.{Sheet, plain, goal_state, Arrives, Accepted, Call, office, panel, panel_most, Takes}
use Rattle.blocks.specs.Sheet.{sheet_questions, plan_questions, deadlock_questions, replay_questions, Refused, PlanRefused, DeadlockRefused, ReplayRefused}
use Rattle.blocks.specs.Replay.{move_questions, lift_questions, Replayed}
use Rattle.blocks.specs.Answer.{PlanAnswer, flat, moves, written_plan, no_verdict}
use Rattle.blocks.specs.Answer.{check_answer, plan_answer, plan_space, deadlock_answer, deadlock_space, replay_from, replay_answer}
use Rattle.blocks.specs.Demands.{NoDeadlock, Promise, HeadCount, Shown}

-- ---- beside method 1

-- Document 02, Job 4, of one sheet planned by method 1 and by any method: what each answers, and the space as it leaves it.
pub record BesideUs (h : Sheet) (us : PlanAnswer) (us-space : List ℕ) (any : PlanAnswer) (any-space : List ℕ) : Type 0 where
  -- "method 1 writes the misplaced slabs plus those misplaced slabs that are off the ground both now and in the goal";
  pub exact : length (written_plan us us-space) ≡ measure h.initial (goal_state h)
  pub exact_count : us.count ≡ measure h.initial (goal_state h)
  -- "methods 2 and 3 write no more lifts than method 1".
  pub no_more : length (written_plan any any-space) ≤ length (written_plan us us-space)
  pub no_more_count : any.count ≤ us.count

-- ---- where no question is answered no

pub record Plannable (c : Call) (h : Sheet) (space : List ℕ) : Type 0 where
  pub method : IsMethod c.method
  pub takes : Takes c.limit (length h.initial)
  pub accepted : Accepted h
  pub room : 4 * length h.initial ≤ length space

pub record Testable (h : Sheet) (space : List ℕ) : Type 0 where
  pub accepted : Accepted h
  pub room : shown_width * length h.initial ≤ length space

pub record Replayable (h : Sheet) (lifts : List ℕ) : Type 0 where
  pub accepted : Accepted h
  pub even : length lifts % 2 ≡ 0

-- ---- what options leave as it is

-- Document 02, Job 3: "Sheets without lengths are answered as before": document 01's sheet, by the office's entry, is asked document 01's questions, is accepted
-- where they all get a yes, and its goal state is the goal list, so that planning and the deadlock test answer as before. For replay a lift has document 01's
-- questions, and a plan is legal and arrives just where document 01 says so.
pub record AsBefore (s g : State) : Type 1 where
  pub check : sheet_questions none (plain s g) ≡ problem_questions s g
  pub plan : (m : ℕ) (space : List ℕ) → plan_questions (office m) (plain s g) space
      ≡ asks_method m ∷ (problem_questions s g ++ (asks_room (4 * length s) space ∷ asks_plan (plan_outcome m s g) ∷ []))
  pub deadlock : (space : List ℕ) → deadlock_questions (plain s g) space ≡ problem_questions s g ++ (asks_room (3 * length s) space ∷ [])
  pub replay : (lifts : List ℕ) → replay_questions (plain s g) lifts ≡ problem_questions s g ++ (asks_even lifts ∷ [])
  pub lift : (a x : ℕ) → lift_questions none s a x ≡ move_questions s a x
  pub accepted : Accepted (plain s g) ↔ Bounded s g
  pub goal : goal_state (plain s g) ≡ g
  pub legal : (p : Plan) → LegalUnder none s p ↔ LegalPlan s p
  pub arrives : (p : Plan) → Arrives (plain s g) p ↔ Solves s g p

-- With lengths that are accepted, the same numbers and the same lists as without: for every entry, method and space.
pub record SameLists (h : Sheet) : Type 0 where
  pub check : check_answer h ≡ check_answer (plain h.initial h.goal)
  pub plan : (c : Call) (space : List ℕ) → plan_answer c h space ≡ plan_answer c (plain h.initial h.goal) space
  pub plan_space_lem : (c : Call) (space : List ℕ) → plan_space c h space ≡ plan_space c (plain h.initial h.goal) space
  pub deadlock : (space : List ℕ) → deadlock_answer h space ≡ deadlock_answer (plain h.initial h.goal) space
  pub deadlock_space_lem : (space : List ℕ) → deadlock_space h space ≡ deadlock_space (plain h.initial h.goal) space

-- Two entries give equal answers, and leave equal space.
pub record SameAnswers (c d : Call) (h : Sheet) (space : List ℕ) : Type 0 where
  pub answer : plan_answer c h space ≡ plan_answer d h space
  pub lent : plan_space c h space ≡ plan_space d h space

-- A refusal by question k: its number, place 0, counts 0, and the lent space as it was.
pub record RefusedBy (k : ℕ) (c : Call) (h : Sheet) (space : List ℕ) : Type 0 where
  pub answered : plan_answer c h space ≡ record { number = k; place = 0; count = 0; misplaced = 0 }
  pub kept : plan_space c h space ≡ space

-- ---- the theorems

-- The numbers of what an option asks: none where it is not given.
abbrev pub when : {A : Type 0} → Option A → List ℕ → List ℕ
when none l = []
when (some x) l = l

-- The numbers of the questions that are put to a sheet, in order.
abbrev pub sheet_numbers : Option ℕ → Lengths → List ℕ
sheet_numbers limit ls = 2 ∷ (when limit (19 ∷ []) ++ (3 ∷ 4 ∷ 5 ∷ 6 ∷ 7 ∷ 8 ∷ 9 ∷ when ls (16 ∷ 17 ∷ 18 ∷ [])))

pub record SheetTheorems : Type 1 where
  -- ---- demand 1: refusals
  -- the order asked; of a lift, the verdicts
  pub sheet_order : (limit : Option ℕ) (h : Sheet) → numbers (sheet_questions limit h) ≡ sheet_numbers limit h.lengths
  pub plan_order : (c : Call) (h : Sheet) (space : List ℕ) → numbers (plan_questions c h space) ≡ 1 ∷ (sheet_numbers c.limit h.lengths ++ (10 ∷ 13 ∷ []))
  pub deadlock_order : (h : Sheet) (space : List ℕ) → numbers (deadlock_questions h space) ≡ sheet_numbers none h.lengths ++ (10 ∷ [])
  pub replay_order : (h : Sheet) (lifts : List ℕ) → numbers (replay_questions h lifts) ≡ sheet_numbers none h.lengths ++ (11 ∷ [])
  pub lift_order : (ls : Lengths) (s : State) (a x : ℕ) → numbers (lift_questions ls s a x) ≡ 1 ∷ 2 ∷ 3 ∷ 4 ∷ when ls (6 ∷ [])
  -- all is answered yes exactly where it should be, and the first "no" is what the sentences say
  pub accepts : (h : Sheet) → (first_no (sheet_questions none h) ≡ all_yes) ↔ Accepted h
  -- and then the methods go from a state to a state of the same blocks
  pub goal_bounded : (h : Sheet) → Accepted h → Bounded h.initial (goal_state h)
  pub refuses : (h : Sheet) (k p : ℕ) → (first_no (sheet_questions none h) ≡ no' k p) ↔ Refused h k p
  pub plan_accepts : (c : Call) (h : Sheet) (space : List ℕ) → (first_no (plan_questions c h space) ≡ all_yes) ↔ Plannable c h space
  pub plan_refuses : (c : Call) (h : Sheet) (space : List ℕ) (k p : ℕ) → (first_no (plan_questions c h space) ≡ no' k p) ↔ PlanRefused c h space k p
  pub deadlock_accepts : (h : Sheet) (space : List ℕ) → (first_no (deadlock_questions h space) ≡ all_yes) ↔ Testable h space
  pub deadlock_refuses : (h : Sheet) (space : List ℕ) (k p : ℕ) → (first_no (deadlock_questions h space) ≡ no' k p) ↔ DeadlockRefused h space k p
  pub replay_accepts : (h : Sheet) (lifts : List ℕ) → (first_no (replay_questions h lifts) ≡ all_yes) ↔ Replayable h lifts
  pub replay_refuses : (h : Sheet) (lifts : List ℕ) (k p : ℕ) → (first_no (replay_questions h lifts) ≡ no' k p) ↔ ReplayRefused h lifts k p
  -- a check answers 0 and 0 exactly on accepted sheets, and otherwise the first "no"
  pub check_accepts : (h : Sheet) → (check_answer h ≡ record { number = 0; place = 0 }) ↔ Accepted h
  pub check_refuses : (h : Sheet) (k p : ℕ) → Refused h k p → check_answer h ≡ record { number = k; place = p }
  -- a refusal answers its number and place, counts 0, and leaves the lent space as it was
  pub plan_refusal : (c : Call) (h : Sheet) (space : List ℕ) (k p : ℕ) → PlanRefused c h space k p
      → (plan_answer c h space ≡ record { number = k; place = p; count = 0; misplaced = 0 }) × (plan_space c h space ≡ space)
  pub deadlock_refusal : (h : Sheet) (space : List ℕ) (k p : ℕ) → DeadlockRefused h space k p
      → (deadlock_answer h space ≡ record { number = k; place = p; count = 0 }) × (deadlock_space h space ≡ space)
  pub replay_refusal : (h : Sheet) (lifts : List ℕ) (k p : ℕ) → ReplayRefused h lifts k p
      → replay_answer h lifts ≡ record { number = k; verdict = no_verdict; place = p }
  -- and otherwise the answer is given, with what the lent space then holds
  pub plan_answers : (c : Call) (h : Sheet) (space : List ℕ) → Plannable c h space → (p : Plan) → plan_outcome c.method h.initial (goal_state h) ≡ plan p
      → (plan_answer c h space ≡ record { number = 0; place = 0; count = length p; misplaced = misplaced_count h.initial (goal_state h) })
      × (plan_space c h space ≡ flat p ++ drop (2 * length p) space)
  pub deadlock_answers : (h : Sheet) (space : List ℕ) → Testable h space
      → (deadlock_answer h space ≡ record { number = 0; place = 0; count = length (deadlock_loop h.initial (goal_state h)) })
      × (deadlock_space h space ≡ deadlock_rows h.initial (goal_state h) ++ drop (shown_width * length (deadlock_loop h.initial (goal_state h))) space)
  pub replay_answers : (h : Sheet) (lifts : List ℕ) → Replayable h lifts → (v k : ℕ)
      → (replay_answer h lifts ≡ record { number = 0; verdict = v; place = k }) ↔ Replayed h (moves lifts) v k
  -- question 13 is never answered no
  pub never_13 : (c : Call) (h : Sheet) (space : List ℕ) (p : ℕ) → ¬ PlanRefused c h space 13 p
  -- ---- demand 2: the lists that are written are those of the words
  pub written_told : (c : Call) (h : Sheet) (space : List ℕ) → Plannable c h space → (m : Method) → method_of c.method ≡ some m
      → By m h.initial (goal_state h) (written_plan (plan_answer c h space) (plan_space c h space))
  pub deadlock_written : (h : Sheet) (space : List ℕ) → Testable h space
      → (l : List ℕ) × (length l ≡ (deadlock_answer h space).count)
      × ByTest h.initial (goal_state h) l (take (shown_width * (deadlock_answer h space).count) (deadlock_space h space))
  -- the deadlock test says none exactly when nothing is deadlocked at the start; the rows that it writes otherwise show what is
  pub deadlock_none : (h : Sheet) (space : List ℕ) → Testable h space → ((deadlock_answer h space).count ≡ 0) ↔ NoDeadlock h.initial (goal_state h)
  pub deadlock_shown : (h : Sheet) (space : List ℕ) → Testable h space → (deadlock_answer h space).count ≢ 0
      → (blocks : List ℕ) × (length blocks ≡ (deadlock_answer h space).count)
      × Shown h.initial (goal_state h) blocks (take (shown_width * (deadlock_answer h space).count) (deadlock_space h space))
  -- replay: each verdict and place exactly where its sentence holds; verdict 0 exactly when the plan is legal and arrives
  pub lift_legal : (ls : Lengths) (s : State) (a x : ℕ) → (first_no (lift_questions ls s a x) ≡ all_yes) ↔ (Legal s a x × Fits ls a x)
  pub replay_verdict : (h : Sheet) → length h.goal ≡ length h.initial → (p : Plan) (v k : ℕ)
      → (replay_from h 1 h.initial p ≡ record { number = 0; verdict = v; place = k }) ↔ Replayed h p v k
  pub replay_arrives : (h : Sheet) → length h.goal ≡ length h.initial → (p : Plan) → ((replay_from h 1 h.initial p).verdict ≡ 0) ↔ Arrives h p
  pub replay_says : (h : Sheet) (lifts : List ℕ)
      → (replay_answer h lifts ≡ record { number = 0; verdict = 0; place = 0 }) ↔ (Replayable h lifts × Arrives h (moves lifts))
  -- verdict 0 alone says it: what a refused replay has in place of a verdict is the verdict of no plan
  pub replay_zero : (h : Sheet) (lifts : List ℕ) → ((replay_answer h lifts).verdict ≡ 0) ↔ (Replayable h lifts × Arrives h (moves lifts))
  pub no_verdict_lem : (h : Sheet) (p : Plan) (k : ℕ) → ¬ Replayed h p no_verdict k
  -- ---- demand 3: every method gives a plan, and keeps the promise; so does the list in the lent space
  pub demand : (m : Method) (h : Sheet) → Accepted h
      → (p : Plan) × (outcome m h.initial (goal_state h) ≡ plan p) × Promise (Arrives h) m h.initial (goal_state h) p
  pub written_promise : (c : Call) (h : Sheet) (space : List ℕ) → Plannable c h space → (m : Method) → method_of c.method ≡ some m
      → Promise (Arrives h) m h.initial (goal_state h) (written_plan (plan_answer c h space) (plan_space c h space))
  pub head_count : (h : Sheet) → Accepted h → HeadCount (Arrives h) h.initial (goal_state h) (misplaced_count h.initial (goal_state h))
  -- document 02, Job 4, of the lists that planning writes and of the counts that it answers, whatever space each call is lent, if it is enough
  pub beside_us : (h : Sheet) (us any : Call) (one space : List ℕ) → us.method ≡ 1 → Plannable us h one → Plannable any h space
      → BesideUs h (plan_answer us h one) (plan_space us h one) (plan_answer any h space) (plan_space any h space)
  -- ---- document 02, Job 3: lengths
  pub fits_test : (l : List ℕ) (a x : ℕ) → (fitsᵇ l a x ≡ true) ↔ Fits (some l) a x
  pub as_before : (s g : State) → AsBefore s g
  pub same_lists : (h : Sheet) → Accepted h → SameLists h
  -- with lengths no constructive move is lost: on the way from an accepted sheet each of them fits, so the methods' words say the same with lengths
  pub constructive_fits : (h : Sheet) → Accepted h → (t : State) (a x : ℕ) → Constructive t (goal_state h) a x → Fits h.lengths a x
  -- ---- document 02, Job 5: "On 600 slabs or fewer the two give equal answers", and so for every limit that is kept
  pub panel_same : (m : ℕ) (h : Sheet) (space : List ℕ) → length h.initial ≤ panel_most → SameAnswers (panel m) (office m) h space
  pub entry_same : (c : Call) (h : Sheet) (space : List ℕ) → Takes c.limit (length h.initial) → SameAnswers c (office c.method) h space
  -- "19 for more than 600 by the panel's entry, directly after 2": whatever the lists hold. Question 1 comes before both.
  pub no_method : (c : Call) (h : Sheet) (space : List ℕ) → ¬ IsMethod c.method → RefusedBy 1 c h space
  pub beyond_most : (c : Call) (h : Sheet) (space : List ℕ) → IsMethod c.method → most < length h.initial → RefusedBy 2 c h space
  pub beyond_limit : (c : Call) (h : Sheet) (space : List ℕ) → IsMethod c.method → length h.initial ≤ most → ¬ Takes c.limit (length h.initial)
      → RefusedBy 19 c h space

-- The panel's limits: every good sheet of 600 slabs is planned; every list of 601 and of 4,000 is refused by 19, of 4,001 by 2.
pub record PanelLimits : Type 0 where
  pub most_passes : (m : Method) (h : Sheet) (space : List ℕ) → length h.initial ≡ 600 → Problem h.initial h.goal
      → MeasuredIf h.lengths h.initial h.goal → 4 * length h.initial ≤ length space → (plan_answer (panel (number_of m)) h space).number ≡ 0
  pub more_refused : (m : Method) (h : Sheet) (space : List ℕ) → length h.initial ≡ 601 → RefusedBy 19 (panel (number_of m)) h space
  pub office_most_refused : (m : Method) (h : Sheet) (space : List ℕ) → length h.initial ≡ 4000 → RefusedBy 19 (panel (number_of m)) h space
  pub too_many_refused : (m : Method) (h : Sheet) (space : List ℕ) → length h.initial ≡ 4001 → RefusedBy 2 (panel (number_of m)) h space
