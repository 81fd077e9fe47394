-- Slab lengths (document 02, Job 3): what fits, and the questions 16 to 18. Moves and plans know nothing of lengths: the rule is asked beside them.
-- Assumes nothing.
use Rattle.std.specs.Prelude.{ℕ, ◌≤◌, ◌≡◌, ◌⊎◌, Bool, true, false, not, ◌||◌, List, [], ◌∷◌, leb, eqb, length}
use Rattle.std.proofs.Math.Option.{Option, none, some}
use Rattle.lists.specs.Search.{lowest}
use Rattle.blocks.specs.State.{State, support}
use Rattle.blocks.specs.Move.{◌⟶◌, Plan, LegalPlan}
use Rattle.blocks.specs.Question.{Question, asks, asks_none}

-- A problem has lengths or has none. An empty list is lengths too, those of no blocks.
abbrev pub Lengths : Type 0
Lengths = Option (List ℕ)

-- A flag says whether a list is the lengths; without it the list is not looked at.
abbrev pub given : Bool → List ℕ → Lengths
given true l = some l
given false l = none

-- "Each slab gains a length in centimetres, 16 bits, any value": that of block b, found in the list as a support is.
abbrev pub length_of : List ℕ → ℕ → ℕ
length_of l b = support l b

-- ---- the rule

-- "A longer slab must not rest on a shorter one. [..] equal lengths may rest on each other and the ground takes any": block a may rest on x.
-- Without lengths every block may.
abbrev pub Fits : Lengths → ℕ → ℕ → Type 0
Fits none a x = Unit {0}
Fits (some l) a x = (x ≡ 0) ⊎ (length_of l a ≤ length_of l x)

-- "with lengths a lift onto a shorter slab is not legal": each move of the plan takes its block to where it may rest.
abbrev pub FittingPlan : Lengths → Plan → Type 0
FittingPlan ls [] = Unit {0}
FittingPlan ls ((a ⟶ x) ∷ p) = Fits ls a x × FittingPlan ls p

-- A plan whose every move is legal under the rule: it is legal, and it fits.
pub record LegalUnder (ls : Lengths) (s : State) (p : Plan) : Type 0 where
  pub legal : LegalPlan s p
  pub fits : FittingPlan ls p

-- ---- what is asked of the lengths

-- Block b overhangs: it rests where it may not.
abbrev pub Overhangs : Lengths → State → ℕ → Type 0
Overhangs ls s b = ¬ Fits ls b (support s b)

-- No block overhangs.
pub record Level (ls : Lengths) (s : State) : Type 0 where
  pub fits : (b : ℕ) → Fits ls b (support s b)

-- The plain properties behind questions 16 to 18: there are n lengths, and no block overhangs now or in the goal.
pub record Measured (l : List ℕ) (s g : State) : Type 0 where
  pub count : length l ≡ length s
  pub now : Level (some l) s
  pub goal : Level (some l) g

abbrev pub MeasuredIf : Lengths → State → State → Type 0
MeasuredIf none s g = Unit {0}
MeasuredIf (some l) s g = Measured l s g

-- The first of them alone: as many lengths as blocks, where there are lengths.
abbrev pub Counted : Lengths → State → Type 0
Counted none s = Unit {0}
Counted (some l) s = length l ≡ length s

-- ---- questions 16, 17 and 18

unfoldable pub fitsᵇ : List ℕ → ℕ → ℕ → Bool
fitsᵇ l a x = eqb x 0 || leb (length_of l a) (length_of l x)

-- 16. "when there are not n lengths".
unfoldable pub asks_lengths : List ℕ → State → Question
asks_lengths l s = asks 16 (length l ≡ length s) (eqb (length l) (length s))

unfoldable pub overhangsᵇ : List ℕ → State → ℕ → Bool
overhangsᵇ l s b = not (fitsᵇ l b (support s b))

-- "the lowest slab that overhangs"; 0 where none does.
unfoldable pub first_overhang : List ℕ → State → ℕ
first_overhang l s = lowest (overhangsᵇ l s) (length s)

unfoldable pub asks_overhang : ℕ → List ℕ → State → Question
asks_overhang k l s = asks_none k (Overhangs (some l) s) (length s) (first_overhang l s)

-- "17 for an overhang now, 18 for one in the goal".
unfoldable pub overhang_questions : Lengths → State → State → List Question
overhang_questions none s g = []
overhang_questions (some l) s g = asks_overhang 17 l s ∷ asks_overhang 18 l g ∷ []

-- "in that order": none where there are no lengths.
unfoldable pub length_questions : Lengths → State → State → List Question
length_questions none s g = []
length_questions (some l) s g = asks_lengths l s ∷ overhang_questions (some l) s g
