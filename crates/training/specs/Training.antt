-- The two operations of Job 1: what they ask in order, what they answer, what the lent list then holds, and the seed. Assumes nothing.
use Rattle.std.specs.Prelude.{ℕ, ◌%◌, ◌≤◌, ◌<◌, ◌≢◌, not, List, [], ◌∷◌, eqb, leb, ltb}
use Rattle.blocks.specs.State.{State}
use Rattle.blocks.specs.Question.{Question, asks, asks_room, Asked, all_yes, no', first_no, FirstNo}
use Rattle.blocks.specs.Answer.{CheckAnswer, checked, written}
use Rattle.counts.specs.Ways.{ways, held}
use Rattle.generator.specs.Shifts.{next_seed}
use Rattle.training.specs.Arrangement.{arrangement}

-- ---- what is asked: a "no" has the place 0

-- "14 when n is above 16".
unfoldable pub asks_few : ℕ → Question
asks_few n = asks 14 (n ≤ held) (leb n held)

-- "then 15 when a given r is not below the count".
unfoldable pub asks_number : ℕ → ℕ → Question
asks_number n r = asks 15 (r < ways n 0) (ltb r (ways n 0))

-- "or a given seed is zero".
unfoldable pub asks_seed : ℕ → Question
asks_seed seed = asks 15 (seed ≢ 0) (not (eqb seed 0))

-- "then 10 when the list lent for the arrangement is shorter than n". Question 15 is that of the operation.
unfoldable pub questions : ℕ → Question → List ℕ → List Question
questions n given space = asks_few n ∷ given ∷ asks_room n space ∷ []

abbrev pub train_questions : ℕ → ℕ → List ℕ → List Question
train_questions n r space = questions n (asks_number n r) space

abbrev pub draw_questions : ℕ → ℕ → List ℕ → List Question
draw_questions n seed space = questions n (asks_seed seed) space

-- The first "no" has number k and place p.
abbrev pub TrainRefused : ℕ → ℕ → List ℕ → ℕ → ℕ → Type 0
TrainRefused n r space k p = FirstNo (train_questions n r space) k p

abbrev pub DrawRefused : ℕ → ℕ → List ℕ → ℕ → ℕ → Type 0
DrawRefused n seed space k p = FirstNo (draw_questions n seed space) k p

-- ---- a state from a number that is given: "only the first n entries are written"

unfoldable pub train_answer : ℕ → ℕ → List ℕ → CheckAnswer
train_answer n r space = checked (first_no (train_questions n r space))

unfoldable pub train_space : ℕ → ℕ → List ℕ → List ℕ
train_space n r space = written (first_no (train_questions n r space)) (arrangement n r) space

-- ---- a state from a number that is drawn

-- "that is the next seed, and its remainder by the count is r".
unfoldable pub drawn_number : ℕ → ℕ → ℕ
drawn_number n seed = next_seed seed % ways n 0

abbrev pub drawn_state : ℕ → ℕ → State
drawn_state n seed = arrangement n (drawn_number n seed)

unfoldable pub draw_answer : ℕ → ℕ → List ℕ → CheckAnswer
draw_answer n seed space = checked (first_no (draw_questions n seed space))

unfoldable pub draw_space : ℕ → ℕ → List ℕ → List ℕ
draw_space n seed space = written (first_no (draw_questions n seed space)) (drawn_state n seed) space

-- "a refusal keeps the seed".
abbrev pub moved : Asked → ℕ → ℕ
moved all_yes seed = next_seed seed
moved (no' k p) seed = seed

unfoldable pub draw_seed : ℕ → ℕ → List ℕ → ℕ
draw_seed n seed space = moved (first_no (draw_questions n seed space)) seed
