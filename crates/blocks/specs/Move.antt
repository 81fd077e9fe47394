-- Moves and plans (document 01, "The yard"; document 000, section 2). Document 01 says lift for move, list of lifts for plan.
-- Assumes nothing.
use Rattle.std.specs.Prelude.{ℕ, ◌≤◌, ◌≡◌, ◌≢◌, ◌⊎◌, List, [], ◌∷◌, length}
use Rattle.blocks.specs.State.{State, Block, support, put, Clear}
use Rattle.blocks.specs.Position.{InPosition, Misplaced}

-- document 01: "pairs of 16-bit numbers: slab, destination".
infix 70 ◌⟶◌
pub data Move : Type 0 where
  ◌⟶◌ : ℕ → ℕ → Move

-- A list of moves, of any length.
abbrev pub Plan : Type 0
Plan = List Move

-- document 01: "A lift takes a clear slab to the ground or onto another clear slab, and never to what it rests on already."
-- and of a pair in a list: "a slab from 1 to n and a destination from 0 to n".
pub record Legal (s : State) (a x : ℕ) : Type 0 where
  pub block : Block s a
  pub inside : x ≤ length s
  pub clear : Clear s a
  pub free : Clear s x
  pub apart : x ≢ a
  pub changes : x ≢ support s a

-- document 01: "A lift is constructive when the slab is misplaced and goes to its goal support, which is the ground or a clear slab in position."
-- The table is clear and in position, so one condition serves both.
pub record Constructive (s g : State) (a x : ℕ) : Type 0 where
  pub legal : Legal s a x
  pub misplaced : Misplaced s g a
  pub home : x ≡ support g a
  pub position : InPosition s g x

-- The state after a plan: "the yard as the pairs before it left it".
abbrev pub after : State → Plan → State
after s [] = s
after s ((a ⟶ x) ∷ p) = after (put s a x) p

-- document 01: "A list of pairs is legal for a sheet when each pair in turn [..] is a lift in the yard as the pairs before it left it".
abbrev pub LegalPlan : State → Plan → Type 0
LegalPlan s [] = Unit {0}
LegalPlan s ((a ⟶ x) ∷ p) = Legal s a x × LegalPlan (put s a x) p

-- A legal plan that arrives. document 01: "It ends in the wished arrangement when the yard after its last pair is the goal list."
pub record Solves (s g : State) (p : Plan) : Type 0 where
  pub legal : LegalPlan s p
  pub arrives : after s p ≡ g

-- Block a is moved by the plan.
pub data Moved (a : ℕ) : Plan → Type 0 where
  first : {x : ℕ} {p : Plan} → Moved a ((a ⟶ x) ∷ p)
  later : {b x : ℕ} {p : Plan} → Moved a p → Moved a ((b ⟶ x) ∷ p)

-- What every move of a method is: of a misplaced block, to the table or to its goal support.
pub record Careful (s g : State) (a x : ℕ) : Type 0 where
  pub misplaced : Misplaced s g a
  pub target : (x ≡ 0) ⊎ (x ≡ support g a)

-- Every move of the plan is of that kind, where it is made.
abbrev pub CarefulPlan : State → State → Plan → Type 0
CarefulPlan s g [] = Unit {0}
CarefulPlan s g ((a ⟶ x) ∷ p) = Careful s g a x × CarefulPlan (put s a x) g p
