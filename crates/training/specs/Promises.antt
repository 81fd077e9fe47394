-- What holds of the two operations, statements alone. proofs/Theorems proves the whole record. Assumes nothing.
use Rattle.std.specs.Prelude.{ℕ, ◌≤◌, ◌<◌, ◌≡◌, ◌≢◌, ◌↔◌, List, [], ◌∷◌, ◌++◌, length, take, drop}
use Rattle.blocks.specs.State.{State}
use Rattle.blocks.specs.Sheet.{plain, Accepted}
use Rattle.blocks.specs.Question.{all_yes, no', first_no, numbers}
use Rattle.counts.specs.Ways.{ways, held}
use Rattle.generator.specs.Shifts.{next_seed}
use Rattle.training.specs.Arrangement.{arrangement}
use Rattle.training.specs.Numbering.{IsState, Numbering}
use Rattle.training.specs.Training.{train_questions, TrainRefused, train_answer, train_space}
use Rattle.training.specs.Training.{draw_questions, DrawRefused, drawn_state, draw_answer, draw_space, draw_seed}

pub record Promises : Type 0 where
  -- the numbers and the states of n blocks correspond, whatever n is
  pub numbering : (n : ℕ) → Numbering n
  -- the order asked; all are answered yes exactly where each is; the first "no" is what the sentences say
  pub train_order : (n r : ℕ) (space : List ℕ) → numbers (train_questions n r space) ≡ 14 ∷ 15 ∷ 10 ∷ []
  pub draw_order : (n seed : ℕ) (space : List ℕ) → numbers (draw_questions n seed space) ≡ 14 ∷ 15 ∷ 10 ∷ []
  pub train_accepts : (n r : ℕ) (space : List ℕ)
      → (first_no (train_questions n r space) ≡ all_yes) ↔ ((n ≤ held) × (r < ways n 0) × (n ≤ length space))
  pub draw_accepts : (n seed : ℕ) (space : List ℕ)
      → (first_no (draw_questions n seed space) ≡ all_yes) ↔ ((n ≤ held) × (seed ≢ 0) × (n ≤ length space))
  pub train_refuses : (n r : ℕ) (space : List ℕ) (k p : ℕ) → (first_no (train_questions n r space) ≡ no' k p) ↔ TrainRefused n r space k p
  pub draw_refuses : (n seed : ℕ) (space : List ℕ) (k p : ℕ) → (first_no (draw_questions n seed space) ≡ no' k p) ↔ DrawRefused n seed space k p
  -- a refusal answers its number and place, and keeps list and seed
  pub train_refusal : (n r : ℕ) (space : List ℕ) (k p : ℕ) → TrainRefused n r space k p
      → (train_answer n r space ≡ record { number = k; place = p }) × (train_space n r space ≡ space)
  pub draw_refusal : (n seed : ℕ) (space : List ℕ) (k p : ℕ) → DrawRefused n seed space k p
      → (draw_answer n seed space ≡ record { number = k; place = p }) × (draw_space n seed space ≡ space) × (draw_seed n seed space ≡ seed)
  -- otherwise the state is written over the first n entries, and the seed moves on
  pub train_answers : (n r : ℕ) (space : List ℕ) → n ≤ held → r < ways n 0 → n ≤ length space
      → (train_answer n r space ≡ record { number = 0; place = 0 }) × (train_space n r space ≡ arrangement n r ++ drop n space)
  pub draw_answers : (n seed : ℕ) (space : List ℕ) → n ≤ held → seed ≢ 0 → n ≤ length space
      → (draw_answer n seed space ≡ record { number = 0; place = 0 }) × (draw_space n seed space ≡ drawn_state n seed ++ drop n space)
      × (draw_seed n seed space ≡ next_seed seed)
  -- what is written is a state, and a seed that drew one can be drawn from again
  pub train_writes : (n r : ℕ) (space : List ℕ) → (train_answer n r space).number ≡ 0 → IsState n (take n (train_space n r space))
  pub draw_writes : (n seed : ℕ) (space : List ℕ) → (draw_answer n seed space).number ≡ 0
      → IsState n (take n (draw_space n seed space)) × (draw_seed n seed space ≢ 0)
  -- two such states are a sheet that is accepted
  pub sheet : (n : ℕ) (s g : State) → n ≤ held → IsState n s → IsState n g → Accepted (plain s g)
