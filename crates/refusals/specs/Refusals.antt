-- The numbers of the questions (document 01, "Questions put to a sheet, in order"; document 02, Jobs 1, 3 and 5), and what a refusal says of what was asked.
-- Assumes nothing.
use Rattle.std.specs.Prelude.{ℕ, Result, Ok, Err}
use Rattle.blocks.specs.Question.{Asked, all_yes, no'}
use Rattle.refusals.specs.declared.Question.{Question}
use Rattle.refusals.specs.declared.Question.TheVariants.{Method, TooMany, Unequal, NowEntry, NowShared, NowFloating, GoalEntry, GoalShared, GoalFloating, Space, Odd, Record, Stall, TrainingSize, TrainingNumber, LengthsCount, NowOverhang, GoalOverhang, Panel}
use Rattle.refusals.specs.declared.Refusal.{Refusal}

abbrev pub number_of : Question → ℕ
number_of Method = 1
number_of TooMany = 2
number_of Unequal = 3
number_of NowEntry = 4
number_of NowShared = 5
number_of NowFloating = 6
number_of GoalEntry = 7
number_of GoalShared = 8
number_of GoalFloating = 9
number_of Space = 10
number_of Odd = 11
number_of Record = 12
number_of Stall = 13
number_of TrainingSize = 14
number_of TrainingNumber = 15
number_of LengthsCount = 16
number_of NowOverhang = 17
number_of GoalOverhang = 18
number_of Panel = 19

-- The first "no", with its number and place.
abbrev pub no_of : Refusal → Asked
no_of r = no' (number_of r.question) r.place

-- What the questions came to, by a result: all yes, or the first "no".
abbrev pub asked_of : {A : Type 0} → Result A Refusal → Asked
asked_of (Ok _) = all_yes
asked_of (Err r) = no_of r
