-- Small states by their numbers, and answers at the edges, worked out apart from the definitions (with towers as lists of blocks): that a tower is
-- grounded first, and that the others are picked by ascending top block, can be seen here. proofs/Numbers proves them by computation. Assumes nothing.
use Rattle.std.specs.Prelude.{ℕ, zero, suc, ◌≡◌, List, [], ◌∷◌, replicate}
use Rattle.blocks.specs.State.{State}
use Rattle.counts.specs.Ways.{ways}
use Rattle.training.specs.Arrangement.{arrangement}
use Rattle.training.specs.Training.{train_answer, train_space, draw_answer, draw_space, draw_seed}

-- k states, by their numbers from r on.
abbrev states_from : ℕ → ℕ → ℕ → List State
states_from n r zero = []
states_from n r (suc k) = arrangement n r ∷ states_from n (suc r) k

-- All states of n blocks, in the order of their numbers.
abbrev pub states : ℕ → List State
states n = states_from n 0 (ways n 0)

-- The 13 states of three blocks.
abbrev pub three : List State
three =
    (0 ∷ 0 ∷ 0 ∷ []) ∷
    (0 ∷ 0 ∷ 1 ∷ []) ∷
    (0 ∷ 0 ∷ 2 ∷ []) ∷
    (0 ∷ 1 ∷ 0 ∷ []) ∷
    (0 ∷ 1 ∷ 2 ∷ []) ∷
    (0 ∷ 3 ∷ 0 ∷ []) ∷
    (0 ∷ 3 ∷ 1 ∷ []) ∷
    (2 ∷ 0 ∷ 0 ∷ []) ∷
    (2 ∷ 0 ∷ 1 ∷ []) ∷
    (2 ∷ 3 ∷ 0 ∷ []) ∷
    (3 ∷ 0 ∷ 0 ∷ []) ∷
    (3 ∷ 0 ∷ 2 ∷ []) ∷
    (3 ∷ 1 ∷ 0 ∷ []) ∷
    []

-- The 73 states of four blocks: here tower order by top and by bottom differ.
abbrev pub four : List State
four =
    (0 ∷ 0 ∷ 0 ∷ 0 ∷ []) ∷ (0 ∷ 0 ∷ 0 ∷ 1 ∷ []) ∷ (0 ∷ 0 ∷ 0 ∷ 2 ∷ []) ∷ (0 ∷ 0 ∷ 0 ∷ 3 ∷ []) ∷
    (0 ∷ 0 ∷ 1 ∷ 0 ∷ []) ∷ (0 ∷ 0 ∷ 1 ∷ 2 ∷ []) ∷ (0 ∷ 0 ∷ 1 ∷ 3 ∷ []) ∷ (0 ∷ 0 ∷ 2 ∷ 0 ∷ []) ∷
    (0 ∷ 0 ∷ 2 ∷ 1 ∷ []) ∷ (0 ∷ 0 ∷ 2 ∷ 3 ∷ []) ∷ (0 ∷ 0 ∷ 4 ∷ 0 ∷ []) ∷ (0 ∷ 0 ∷ 4 ∷ 1 ∷ []) ∷
    (0 ∷ 0 ∷ 4 ∷ 2 ∷ []) ∷ (0 ∷ 1 ∷ 0 ∷ 0 ∷ []) ∷ (0 ∷ 1 ∷ 0 ∷ 2 ∷ []) ∷ (0 ∷ 1 ∷ 0 ∷ 3 ∷ []) ∷
    (0 ∷ 1 ∷ 2 ∷ 0 ∷ []) ∷ (0 ∷ 1 ∷ 2 ∷ 3 ∷ []) ∷ (0 ∷ 1 ∷ 4 ∷ 0 ∷ []) ∷ (0 ∷ 1 ∷ 4 ∷ 2 ∷ []) ∷
    (0 ∷ 3 ∷ 0 ∷ 0 ∷ []) ∷ (0 ∷ 3 ∷ 0 ∷ 1 ∷ []) ∷ (0 ∷ 3 ∷ 0 ∷ 2 ∷ []) ∷ (0 ∷ 3 ∷ 1 ∷ 0 ∷ []) ∷
    (0 ∷ 3 ∷ 1 ∷ 2 ∷ []) ∷ (0 ∷ 3 ∷ 4 ∷ 0 ∷ []) ∷ (0 ∷ 3 ∷ 4 ∷ 1 ∷ []) ∷ (0 ∷ 4 ∷ 0 ∷ 0 ∷ []) ∷
    (0 ∷ 4 ∷ 0 ∷ 1 ∷ []) ∷ (0 ∷ 4 ∷ 0 ∷ 3 ∷ []) ∷ (0 ∷ 4 ∷ 1 ∷ 0 ∷ []) ∷ (0 ∷ 4 ∷ 1 ∷ 3 ∷ []) ∷
    (0 ∷ 4 ∷ 2 ∷ 0 ∷ []) ∷ (0 ∷ 4 ∷ 2 ∷ 1 ∷ []) ∷ (2 ∷ 0 ∷ 0 ∷ 0 ∷ []) ∷ (2 ∷ 0 ∷ 0 ∷ 1 ∷ []) ∷
    (2 ∷ 0 ∷ 0 ∷ 3 ∷ []) ∷ (2 ∷ 0 ∷ 1 ∷ 0 ∷ []) ∷ (2 ∷ 0 ∷ 1 ∷ 3 ∷ []) ∷ (2 ∷ 0 ∷ 4 ∷ 0 ∷ []) ∷
    (2 ∷ 0 ∷ 4 ∷ 1 ∷ []) ∷ (2 ∷ 3 ∷ 0 ∷ 0 ∷ []) ∷ (2 ∷ 3 ∷ 0 ∷ 1 ∷ []) ∷ (2 ∷ 3 ∷ 4 ∷ 0 ∷ []) ∷
    (2 ∷ 4 ∷ 0 ∷ 0 ∷ []) ∷ (2 ∷ 4 ∷ 0 ∷ 3 ∷ []) ∷ (2 ∷ 4 ∷ 1 ∷ 0 ∷ []) ∷ (3 ∷ 0 ∷ 0 ∷ 0 ∷ []) ∷
    (3 ∷ 0 ∷ 0 ∷ 1 ∷ []) ∷ (3 ∷ 0 ∷ 0 ∷ 2 ∷ []) ∷ (3 ∷ 0 ∷ 2 ∷ 0 ∷ []) ∷ (3 ∷ 0 ∷ 2 ∷ 1 ∷ []) ∷
    (3 ∷ 0 ∷ 4 ∷ 0 ∷ []) ∷ (3 ∷ 0 ∷ 4 ∷ 2 ∷ []) ∷ (3 ∷ 1 ∷ 0 ∷ 0 ∷ []) ∷ (3 ∷ 1 ∷ 0 ∷ 2 ∷ []) ∷
    (3 ∷ 1 ∷ 4 ∷ 0 ∷ []) ∷ (3 ∷ 4 ∷ 0 ∷ 0 ∷ []) ∷ (3 ∷ 4 ∷ 0 ∷ 1 ∷ []) ∷ (3 ∷ 4 ∷ 2 ∷ 0 ∷ []) ∷
    (4 ∷ 0 ∷ 0 ∷ 0 ∷ []) ∷ (4 ∷ 0 ∷ 0 ∷ 2 ∷ []) ∷ (4 ∷ 0 ∷ 0 ∷ 3 ∷ []) ∷ (4 ∷ 0 ∷ 1 ∷ 0 ∷ []) ∷
    (4 ∷ 0 ∷ 1 ∷ 2 ∷ []) ∷ (4 ∷ 0 ∷ 2 ∷ 0 ∷ []) ∷ (4 ∷ 0 ∷ 2 ∷ 3 ∷ []) ∷ (4 ∷ 1 ∷ 0 ∷ 0 ∷ []) ∷
    (4 ∷ 1 ∷ 0 ∷ 3 ∷ []) ∷ (4 ∷ 1 ∷ 2 ∷ 0 ∷ []) ∷ (4 ∷ 3 ∷ 0 ∷ 0 ∷ []) ∷ (4 ∷ 3 ∷ 0 ∷ 2 ∷ []) ∷
    (4 ∷ 3 ∷ 1 ∷ 0 ∷ []) ∷
    []

pub record Numbers : Type 0 where
  pub of_none : states 0 ≡ [] ∷ []
  pub of_one : states 1 ≡ (0 ∷ []) ∷ []
  pub of_two : states 2 ≡ (0 ∷ 0 ∷ []) ∷ (0 ∷ 1 ∷ []) ∷ (2 ∷ 0 ∷ []) ∷ []
  pub of_three : states 3 ≡ three
  pub of_four : states 4 ≡ four
  -- the last of the 501 states of five blocks
  pub last_of_five : (ways 5 0 ≡ 501) × (arrangement 5 500 ≡ 5 ∷ 4 ∷ 2 ∷ 1 ∷ 0 ∷ [])
  -- how many states three blocks have, and sixteen
  pub counted : (ways 3 0 ≡ 13) × (ways 16 0 ≡ 1290434218669921)

-- A list of so many entries that no state has.
abbrev lent : ℕ → List ℕ
lent k = replicate k 99

-- Answers at the edges, with the list lent and the seed: number 0 is an answer, the others are refusals in their order.
pub record Edges : Type 0 where
  -- 14 before 15, 15 before 10, and 10
  pub train_14 : (train_answer 17 1290434218669921 (lent 16) ≡ record { number = 14; place = 0 }) × (train_space 17 1290434218669921 (lent 16) ≡ lent 16)
  pub train_15 : (train_answer 3 13 (lent 2) ≡ record { number = 15; place = 0 }) × (train_space 3 13 (lent 2) ≡ lent 2)
  pub train_10 : (train_answer 3 12 (lent 2) ≡ record { number = 10; place = 0 }) × (train_space 3 12 (lent 2) ≡ lent 2)
  pub draw_14 : (draw_answer 17 0 (lent 16) ≡ record { number = 14; place = 0 }) × (draw_space 17 0 (lent 16) ≡ lent 16) × (draw_seed 17 1 (lent 16) ≡ 1)
  pub draw_15 : (draw_answer 3 0 (lent 2) ≡ record { number = 15; place = 0 }) × (draw_space 3 0 (lent 2) ≡ lent 2) × (draw_seed 3 0 (lent 2) ≡ 0)
  pub draw_10 : (draw_answer 3 1 (lent 2) ≡ record { number = 10; place = 0 }) × (draw_space 3 1 (lent 2) ≡ lent 2) × (draw_seed 3 1 (lent 2) ≡ 1)
  -- 16 blocks are not too many
  pub train_most : (train_answer 16 1290434218669920 (lent 16) ≡ record { number = 0; place = 0 })
      × (train_answer 16 1290434218669921 (lent 15) ≡ record { number = 15; place = 0 })
  pub draw_most : draw_answer 16 1 (lent 16) ≡ record { number = 0; place = 0 }
  -- "only the first n entries are written"; no blocks have one state, number 0
  pub train_last : (train_answer 3 12 (lent 4) ≡ record { number = 0; place = 0 }) × (train_space 3 12 (lent 4) ≡ 3 ∷ 1 ∷ 0 ∷ 99 ∷ [])
  pub train_none : (train_answer 0 0 [] ≡ record { number = 0; place = 0 }) × (train_space 0 0 (lent 1) ≡ lent 1)
  pub train_none_15 : train_answer 0 1 [] ≡ record { number = 15; place = 0 }
  -- draws, a draw of no blocks among them
  pub draw_five : (draw_space 5 13087641577518734073 (lent 6) ≡ 3 ∷ 1 ∷ 0 ∷ 2 ∷ 4 ∷ 99 ∷ []) × (draw_seed 5 13087641577518734073 (lent 6) ≡ 2622832087785128588)
  pub draw_ten : (draw_space 10 1 (lent 10) ≡ 2 ∷ 8 ∷ 9 ∷ 5 ∷ 10 ∷ 7 ∷ 0 ∷ 4 ∷ 0 ∷ 3 ∷ []) × (draw_seed 10 1 (lent 10) ≡ 1082269761)
  pub draw_none : (draw_answer 0 1 [] ≡ record { number = 0; place = 0 }) × (draw_space 0 1 (lent 1) ≡ lent 1) × (draw_seed 0 1 [] ≡ 1082269761)
