-- What the answers of this crate say, in document 01's numbers, and what its public functions promise. Assumes nothing.
use Rattle.std.specs.Prelude.{ℕ, ◌≡◌, ◌≢◌, List, take, Result, OnOk, ⊤}
use Rattle.blocks.specs.Question.{first_no}
use Rattle.blocks.specs.Answer.{CheckAnswer, checked}
use Rattle.refusals.specs.declared.Refusal.{Refusal}
use Rattle.refusals.specs.Refusals.{asked_of}
use Rattle.training.specs.Numbering.{IsState}
use Rattle.training.specs.Training.{train_questions, train_answer, train_space, draw_questions, draw_answer, draw_space, draw_seed}
use Rattle.training.specs.declared.Drawn.{Drawn}

-- The result in document 01's numbers: a refusal has its number and place, else both are 0.
abbrev pub answer_of : {A : Type 0} → Result A Refusal → CheckAnswer
answer_of a = checked (asked_of a)

-- A state from a number: the case, document 01's numbers, the lent list whole; and that a state is written.
pub record Trains (n r : ℕ) (space : List ℕ) (a : Result ⊤ Refusal) (space' : List ℕ) : Type 0 where
  pub asked : asked_of a ≡ first_no (train_questions n r space)
  pub answer : answer_of a ≡ train_answer n r space
  pub lent : space' ≡ train_space n r space
  pub state : OnOk a (IsState n (take n space'))

-- A state from a seed: the same, and the generator's new seed, which is not zero once a state was drawn.
pub record Draws (n seed : ℕ) (space : List ℕ) (a : Drawn) (space' : List ℕ) : Type 0 where
  pub asked : asked_of a.answer ≡ first_no (draw_questions n seed space)
  pub answer : answer_of a.answer ≡ draw_answer n seed space
  pub lent : space' ≡ draw_space n seed space
  pub advanced : a.generator.seed ≡ draw_seed n seed space
  pub state : OnOk a.answer (IsState n (take n space'))
  pub lasts : OnOk a.answer (a.generator.seed ≢ 0)
