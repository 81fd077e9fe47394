-- Replay (document 01, "What is lent and written"): the questions of one move, and which verdict and place a plan has. `Answer` computes them. Assumes nothing.
use Rattle.std.specs.Prelude.{ℕ, suc, ◌≤◌, ◌≡◌, ◌≢◌, not, ◌&&◌, List, [], ◌∷◌, ◌++◌, leb, eqb, length}
use Rattle.std.proofs.Math.Option.{none, some}
use Rattle.lists.specs.Search.{Lowest}
use Rattle.blocks.specs.State.{State, Block, support, Clear}
use Rattle.blocks.specs.Move.{◌⟶◌, Plan, after}
use Rattle.blocks.specs.Tests.{clearᵇ}
use Rattle.blocks.specs.Question.{Question, asks, FirstNo}
use Rattle.blocks.specs.Length.{Lengths, Fits, LegalUnder, fitsᵇ}
use Rattle.blocks.specs.Sheet.{Sheet, Arrives}

-- The questions of one move, whose numbers are the verdicts: "1, the slab is not in 1 to n or the destination is above n; 2, the slab is not clear;
-- 3, it already rests there; 4, the destination is the slab itself or a slab that is not clear. The tests run in that order."
unfoldable pub move_questions : State → ℕ → ℕ → List Question
move_questions s a x =
    asks 1 (Block s a × (x ≤ length s)) (leb 1 a && (leb a (length s) && leb x (length s)))
    ∷ asks 2 (Clear s a) (clearᵇ s a)
    ∷ asks 3 (x ≢ support s a) (not (eqb x (support s a)))
    ∷ asks 4 ((x ≢ a) × Clear s x) (not (eqb x a) && clearᵇ s x)
    ∷ []

-- document 02, Job 3: "Replay gains verdict 6, too long for its destination, tested after verdict 4."
unfoldable pub fit_questions : Lengths → ℕ → ℕ → List Question
fit_questions none a x = []
fit_questions (some l) a x = asks 6 (Fits (some l) a x) (fitsᵇ l a x) ∷ []

unfoldable pub lift_questions : Lengths → State → ℕ → ℕ → List Question
lift_questions ls s a x = move_questions s a x ++ fit_questions ls a x

-- A bad lift, by its verdict.
abbrev pub BadLift : Lengths → State → ℕ → ℕ → ℕ → Type 0
BadLift ls s a x v = FirstNo (lift_questions ls s a x) v 0

-- The verdict and the place of a plan: "0: arrives, place 0. At the first bad lift, counted from 1" its verdict; "5: all lifts are legal and the end differs
-- from the goal; the place is the lowest slab whose support differs."
pub data Replayed (h : Sheet) (p : Plan) : ℕ → ℕ → Type 0 where
  arrives : Arrives h p → Replayed h p 0 0
  faulty : {v : ℕ} (q : Plan) (a x : ℕ) (r : Plan) → p ≡ q ++ ((a ⟶ x) ∷ r) → LegalUnder h.lengths h.initial q
      → BadLift h.lengths (after h.initial q) a x v → Replayed h p v (suc (length q))
  differs : {b : ℕ} → LegalUnder h.lengths h.initial p → Lowest (λ c. support (after h.initial p) c ≢ support h.goal c) (length h.initial) b
      → Replayed h p 5 b
