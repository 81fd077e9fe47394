-- What the answers of replay say, in document 01's numbers. Assumes nothing.
use Rattle.std.specs.Prelude.{ℕ, ◌%◌, ◌≤◌, ◌≡◌, ◌↔◌, Result, Ok, Err, List, length}
use Rattle.blocks.specs.State.{State, most}
use Rattle.blocks.specs.Position.{Proper}
use Rattle.blocks.specs.Question.{Asked, all_yes, no', first_no}
use Rattle.blocks.specs.Length.{Counted}
use Rattle.blocks.specs.Sheet.{Sheet, Arrives, replay_questions}
use Rattle.blocks.specs.Answer.{ReplayAnswer, no_verdict, moves, replay_from, replay_answer}
use Rattle.blocks.specs.SheetDemands.{Replayable}
use Rattle.problem.specs.Known.{Loads}
use Rattle.refusals.specs.Refusals as refusals
use Rattle.refusals.specs.Refusals.{asked_of}
use Rattle.refusals.specs.declared.Refusal.{Refusal}
use Rattle.validator.specs.declared.Fault.{Fault}
use Rattle.validator.specs.declared.Fault.TheVariants.{Unknown, Covered, Idle, Taken, TooLong}
use Rattle.validator.specs.declared.Verdict.{Verdict}
use Rattle.validator.specs.declared.Verdict.TheVariants.{Arrives as arrived, Bad, Elsewhere}

-- The verdicts of document 01 and document 02, Job 3, by number.
abbrev pub verdict_of : Fault → ℕ
verdict_of Unknown = 1
verdict_of Covered = 2
verdict_of Idle = 3
verdict_of Taken = 4
verdict_of TooLong = 6

abbrev pub number_of : Verdict → ℕ
number_of arrived = 0
number_of (Bad f k) = verdict_of f
number_of (Elsewhere b) = 5

abbrev pub place_of : Verdict → ℕ
place_of arrived = 0
place_of (Bad f k) = k
place_of (Elsewhere b) = b

-- What a replay answers: a verdict, or the number and place of the first "no".
abbrev pub Answer : Type 0
Answer = Result Verdict Refusal

-- document 01's number, verdict and place; a refusal has no verdict.
abbrev pub answer_of : Answer → ReplayAnswer
answer_of (Ok v) = record { number = 0; verdict = number_of v; place = place_of v }
answer_of (Err r) = record { number = refusals.number_of r.question; verdict = no_verdict; place = r.place }

-- The replay of a list: the case, the documents' numbers, and the promise: verdict 0 exactly when the sheet is accepted, the list is of pairs, every move is
-- legal and the end is the goal.
pub record Replays (h : Sheet) (list : List ℕ) (r : Answer) : Type 0 where
  pub asked : asked_of r ≡ first_no (replay_questions h list)
  pub answer : answer_of r ≡ replay_answer h list
  pub arrives : (r ≡ Ok arrived) ↔ (Replayable h list × Arrives h (moves list))

-- A state from which a list of pairs can be followed: that of a sheet already checked, or of moves from there, with its loads.
pub record Followable (h : Sheet) (s : State) (list l : List ℕ) : Type 0 where
  pub small : length s ≤ most
  pub proper : Proper s
  pub same : length h.goal ≡ length s
  pub counted : Counted h.lengths s
  pub even : length list % 2 ≡ 0
  pub loads : Loads s l

-- A verdict, from the move counted 1 on.
pub record Follows (h : Sheet) (list : List ℕ) (v : Verdict) : Type 0 where
  pub answer : answer_of (Ok v) ≡ replay_from h 1 h.initial (moves list)

-- The fault of one move, or none.
abbrev pub fault_of : Result (Unit {0}) Fault → Asked
fault_of (Ok _) = all_yes
fault_of (Err f) = no' (verdict_of f) 0
