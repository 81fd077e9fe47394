-- What the check of a sheet says, and what is known when it asks of the lengths. Assumes nothing.
use Rattle.std.specs.Prelude.{ℕ, ◌≤◌, ◌≡◌, Option, Some, None, Ok, List, length}
use Rattle.std.specs.Borrow.{Bor}
use Rattle.std.proofs.Math.Option.{none, some}
use Rattle.rows.specs.Rows.{Yard, Within}
use Rattle.blocks.specs.State.{most, support, State}
use Rattle.blocks.specs.Question.{first_no}
use Rattle.blocks.specs.Length.{Lengths}
use Rattle.blocks.specs.Sheet.{Sheet, measured_by, sheet_questions}
use Rattle.blocks.specs.Answer.{check_answer}
use Rattle.problem.specs.Known.{AtStart}
use Rattle.refusals.specs.Refusals.{asked_of}
use Rattle.problem.specs.Checked.{Checked, answer_of}
use Rattle.lengths.specs.declared.Sheet as lent

-- The lengths of a sheet that is lent, where they are given.
abbrev pub given_in : Option (Bor (List ℕ)) → Lengths
given_in (Some l) = some l.now
given_in None = none

abbrev pub lengths_of : lent.Sheet → Lengths
lengths_of h = given_in h.lengths

-- The sheet of the lists.
abbrev pub sheet_of : lent.Sheet → Sheet
sheet_of h = measured_by (lengths_of h) h.initial.now h.goal.now

-- The check of a sheet: the case, and the documents' numbers.
pub record Checks (h : Sheet) (r : Checked) : Type 0 where
  pub asked : asked_of r ≡ first_no (sheet_questions none h)
  pub answer : answer_of r ≡ check_answer h

-- The same over lent rows: what is known of the sheet where it is accepted. Only the first four rows have changed.
pub record Examines (h : Sheet) (r : Checked) (y y' : Yard) : Type 0 where
  pub checks : Checks h r
  pub known : r ≡ Ok tt → AtStart h.initial h.goal y'
  pub within : Within 0 4 y y'

-- Every block and every support of the state has a length: questions 2, 4 and 16 are answered yes.
pub record Measurable (s : State) (l : List ℕ) : Type 0 where
  pub small : length s ≤ most
  pub entries : (b : ℕ) → support s b ≤ length s
  pub count : length l ≡ length s
