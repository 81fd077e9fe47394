-- What the answers of this crate say, in document 01's numbers. Assumes nothing.
use Rattle.std.specs.Prelude.{ℕ, ◌+◌, ◌≤◌, ◌<◌, ◌≡◌, Result, Ok, Err, length}
use Rattle.rows.specs.Rows.{Yard, row, Blank, Within}
use Rattle.blocks.specs.State.{State, most}
use Rattle.blocks.specs.Question.{Asked, all_yes, no', first_no, state_questions, problem_questions}
use Rattle.blocks.specs.Answer.{CheckAnswer}
use Rattle.problem.specs.Known.{Loads, Standings, AtStart}
use Rattle.refusals.specs.Refusals.{asked_of, number_of}
use Rattle.refusals.specs.declared.Refusal.{Refusal}
use Rattle.problem.specs.declared.Fault.{Fault}
use Rattle.problem.specs.declared.Fault.TheVariants.{Outside, Shared, Floating}

-- What a check answers: accepted, or the number and place of the first "no".
abbrev pub Checked : Type 0
Checked = Result (Unit {0}) Refusal

-- document 01's number and place of the answer to a check; 0 and 0 where the problem is accepted.
abbrev pub answer_of : Checked → CheckAnswer
answer_of (Ok _) = record { number = 0; place = 0 }
answer_of (Err r) = record { number = number_of r.question; place = r.place }

-- The first "no" to the three questions of one state, numbered as the state's place in the problem asks.
abbrev pub no_by : ℕ → ℕ → ℕ → Fault → Asked
no_by k₁ k₂ k₃ (Outside p) = no' k₁ p
no_by k₁ k₂ k₃ (Shared p) = no' k₂ p
no_by k₁ k₂ k₃ (Floating p) = no' k₃ p

abbrev pub fault_of : ℕ → ℕ → ℕ → Result (Unit {0}) Fault → Asked
fault_of k₁ k₂ k₃ (Ok _) = all_yes
fault_of k₁ k₂ k₃ (Err f) = no_by k₁ k₂ k₃ f

-- A state on the way to a goal that is as long, and two blank rows for what is found of it.
pub record Surveyable (s g : State) (y : Yard) (loads : ℕ) : Type 0 where
  pub small : length s ≤ most
  pub same : length g ≡ length s
  pub sized : loads + 1 < length y
  pub blank_loads : Blank (row y loads)
  pub blank_stands : Blank (row y (loads + 1))

-- The survey of a state: the first fault; where there is none, the loads and how the blocks stand. No other row has changed.
pub record Surveyed (s g : State) (r : Result (Unit {0}) Fault) (loads : ℕ) (y y' : Yard) : Type 0 where
  pub answer : (k₁ k₂ k₃ : ℕ) → fault_of k₁ k₂ k₃ r ≡ first_no (state_questions k₁ k₂ k₃ s)
  pub known : r ≡ Ok tt → Loads s (row y' loads) × Standings s g (row y' (loads + 1))
  pub within : Within loads (loads + 2) y y'

-- The check of a problem over lent rows: the case, and what is known of it where it is accepted. Only the first four rows have changed.
pub record Examines (s g : State) (r : Checked) (y y' : Yard) : Type 0 where
  pub asked : asked_of r ≡ first_no (problem_questions s g)
  pub known : r ≡ Ok tt → AtStart s g y'
  pub within : Within 0 4 y y'
