-- The questions put to a sheet, in order (document 01, "Questions put to a sheet, in order"): a question is a row, and what an operation asks is a list of rows.
-- Assumes nothing.
use Rattle.std.specs.Prelude.{ℕ, pred, ◌%◌, ◌≤◌, ◌<◌, ◌≡◌, ◌≢◌, ◌⊎◌, Bool, true, false, cond, not, ◌&&◌, List, [], ◌∷◌, ◌++◌, leb, ltb, eqb, length}
use Rattle.std.proofs.Math.Option.{Option, none, some}
use Rattle.lists.specs.Search.{lowest, Lowest}
use Rattle.blocks.specs.State.{State, most, support, Grounded}
use Rattle.blocks.specs.Move.{Plan}
use Rattle.blocks.specs.Tests.{groundedᵇ}
use Rattle.blocks.specs.Method.{Outcome, plan, nothing_to_put_down, Method, method_of}

-- ---- rows

-- A question: its number, what a "yes" says, what a "no" says of its place, the test that decides it, and the place that a "no" names.
pub record Question : Type 1 where
  pub number : ℕ
  pub property : Type 0
  pub fault : ℕ → Type 0
  pub test : Bool
  pub place : ℕ

-- A question without a place: "The place is 0 where none is named."
abbrev pub asks : ℕ → Type 0 → Bool → Question
asks k P t = record { number = k; property = P; fault = λ p. (p ≡ 0) × (¬ P); test = t; place = 0 }

-- No block from 1 to n is of the kind P.
abbrev pub None : (ℕ → Type 0) → ℕ → Type 0
None P n = (b : ℕ) → 1 ≤ b → b ≤ n → ¬ P b

-- A question that asks for no block of a bad kind. Its place p is the lowest of that kind, 0 where there is none.
abbrev pub asks_none : ℕ → (ℕ → Type 0) → ℕ → ℕ → Question
asks_none k Bad n p = record { number = k; property = None Bad n; fault = Lowest Bad n; test = eqb p 0; place = p }

-- ---- lists of rows, in the order asked

-- What they come to: all yes, or the first "no" with its number and place.
pub data Asked : Type 0 where
  all_yes : Asked
  no' : ℕ → ℕ → Asked

-- document 01: "A "no" ends with that number."
abbrev pub first_no : List Question → Asked
first_no [] = all_yes
first_no (q ∷ qs) = cond q.test (first_no qs) (no' q.number q.place)

-- The same as sentences: all are answered yes;
abbrev pub AllYes : List Question → Type 0
AllYes [] = Unit {0}
AllYes (q ∷ qs) = q.property × AllYes qs

-- and the first "no" has number k and place p: "A number is given only on its own "no", after a yes to all before it".
abbrev pub FirstNo : List Question → ℕ → ℕ → Type 0
FirstNo [] k p = ⊥
FirstNo (q ∷ qs) k p = ((k ≡ q.number) × q.fault p) ⊎ (q.property × FirstNo qs k p)

-- Their numbers.
abbrev pub numbers : List Question → List ℕ
numbers [] = []
numbers (q ∷ qs) = q.number ∷ numbers qs

-- ---- questions 1 to 3

pub record IsMethod (m : ℕ) : Type 0 where
  pub low : 1 ≤ m
  pub high : m ≤ 3

abbrev pub is_method : Option Method → Bool
is_method none = false
is_method (some m) = true

-- 1. "Planning only: is the method 1, 2 or 3?"
unfoldable pub asks_method : ℕ → Question
asks_method m = asks 1 (IsMethod m) (is_method (method_of m))

-- 2. "Has the now list at most 4,000 entries?" n is their number.
unfoldable pub asks_size : ℕ → Question
asks_size n = asks 2 (n ≤ most) (leb n most)

-- 3. "Has the goal list as many?"
unfoldable pub asks_same : State → State → Question
asks_same s g = asks 3 (length g ≡ length s) (eqb (length g) (length s))

-- ---- questions 4 to 6 of the initial state; "7, 8, 9. The same three for the goal."

-- b's entry is above n.
abbrev pub Outside : State → ℕ → Type 0
Outside s b = length s < support s b

unfoldable pub outsideᵇ : State → ℕ → Bool
outsideᵇ s b = ltb (length s) (support s b)

unfoldable pub first_outside : State → ℕ
first_outside s = lowest (outsideᵇ s) (length s)

-- 4. "Is every now entry at most n? Place: the lowest slab with a bad one."
unfoldable pub asks_outside : ℕ → State → Question
asks_outside k s = asks_none k (Outside s) (length s) (first_outside s)

-- b "rests where a lower-numbered slab rests, the ground excepted".
pub record Shared (s : State) (b : ℕ) : Type 0 where
  pub off : support s b ≢ 0
  pub other : ℕ
  pub lower : other < b
  pub same : support s other ≡ support s b

unfoldable pub sharedᵇ : State → ℕ → Bool
sharedᵇ s b = not (eqb (support s b) 0) && not (eqb (lowest (λ c. eqb (support s c) (support s b)) (pred b)) 0)

unfoldable pub first_shared : State → ℕ
first_shared s = lowest (sharedᵇ s) (length s)

-- 5. "Does each slab carry at most one slab now? Place: the lowest slab that rests where a lower-numbered slab rests, the ground excepted."
unfoldable pub asks_shared : ℕ → State → Question
asks_shared k s = asks_none k (Shared s) (length s) (first_shared s)

-- b does not come down to the table.
abbrev pub Floating : State → ℕ → Type 0
Floating s b = ¬ Grounded s b

unfoldable pub floatingᵇ : State → ℕ → Bool
floatingᵇ s b = not (groundedᵇ s b)

unfoldable pub first_floating : State → ℕ
first_floating s = lowest (floatingᵇ s) (length s)

-- 6. "Does every slab come down to the ground now? Place: the lowest that does not." Asked after a yes to 4, without which the test is not right.
unfoldable pub asks_floating : ℕ → State → Question
asks_floating k s = asks_none k (Floating s) (length s) (first_floating s)

-- ---- questions 10, 11 and 13; 12 is the program's

-- 10. "Planning, deadlock test: is the lent space large enough?"
unfoldable pub asks_room : ℕ → List ℕ → Question
asks_room needed space = asks 10 (needed ≤ length space) (leb needed (length space))

-- 11. "Replay: has the lift list an even number of entries?"
unfoldable pub asks_even : List ℕ → Question
asks_even lifts = asks 11 (length lifts % 2 ≡ 0) (eqb (length lifts % 2) 0)

abbrev pub is_plan : Outcome → Bool
is_plan (plan p) = true
is_plan nothing_to_put_down = false

-- 13. "Planning: was there a slab to put down when no constructive lift existed?" Always, by `never_13` of SheetDemands.
unfoldable pub asks_plan : Outcome → Question
asks_plan o = asks 13 ((p : Plan) × (o ≡ plan p)) (is_plan o)

-- ---- question 19 (document 02, Job 5), "directly after 2"

-- 19. "for more than 600 by the panel's entry": are n blocks no more than the entry takes?
unfoldable pub asks_limit : ℕ → ℕ → Question
asks_limit limit n = asks 19 (n ≤ limit) (leb n limit)

-- Put by an entry that has a limit of its own.
unfoldable pub limit_questions : Option ℕ → ℕ → List Question
limit_questions none n = []
limit_questions (some limit) n = asks_limit limit n ∷ []

-- ---- what is asked of a state, and of two lists: 3 to 9, and 2 to 9

unfoldable pub state_questions : ℕ → ℕ → ℕ → State → List Question
state_questions k₁ k₂ k₃ s = asks_outside k₁ s ∷ asks_shared k₂ s ∷ asks_floating k₃ s ∷ []

unfoldable pub list_questions : State → State → List Question
list_questions s g = asks_same s g ∷ (state_questions 4 5 6 s ++ state_questions 7 8 9 g)

unfoldable pub problem_questions : State → State → List Question
problem_questions s g = asks_size (length s) ∷ list_questions s g
