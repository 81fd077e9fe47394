-- The loop of a stalled state (document 01, "The loop"; document 001, section 3.2, the Δ sequence). Assumes nothing.
-- Stalled: some block is misplaced and none has a constructive move.
use Rattle.std.specs.Prelude.{ℕ, zero, suc, Bool, false, cond, ◌||◌, List, [], ◌∷◌, ◌++◌, eqb, length}
use Rattle.blocks.specs.State.{State, support}
use Rattle.lists.specs.Search.{lowest}
use Rattle.blocks.specs.Tests.{load, clearᵇ, nearest, waitingᵇ}

-- The block that rests on c in b's goal tower, possibly b.
unfoldable pub rests_on : State → ℕ → ℕ → ℕ → ℕ
rests_on g c zero b = b
rests_on g c (suc k) b = cond (eqb (support g b) c) b (rests_on g c k (support g b))

-- document 01's d: "Let d be the slab that rests on c in that goal pile, possibly b."
unfoldable pub last_misplaced : State → State → ℕ → ℕ
last_misplaced s g b = rests_on g (nearest s g b) (length s) b

-- "the slab through which its successor is in its way (c when c is not clear, else d)".
abbrev pub in_the_way : State → ℕ → ℕ → ℕ
in_the_way s c d = cond (clearᵇ s c) d c

unfoldable pub blocker : State → State → ℕ → ℕ
blocker s g b = in_the_way s (nearest s g b) (last_misplaced s g b)

-- The clear block at the top of b's tower, from b upward.
unfoldable pub top : State → ℕ → ℕ → ℕ
top s zero b = b
top s (suc k) b = cond (clearᵇ s b) b (top s k (load s b))

-- document 01: "When c is clear the successor of b is the clear slab above d now; otherwise the clear slab above c now."
unfoldable pub successor : State → State → ℕ → ℕ
successor s g b = top s (length s) (blocker s g b)

-- Lists of blocks: membership, and the parts from the first x on and before it.
abbrev pub memberᵇ : ℕ → List ℕ → Bool
memberᵇ x [] = false
memberᵇ x (y ∷ l) = eqb x y || memberᵇ x l

abbrev pub from : ℕ → List ℕ → List ℕ
from x [] = []
from x (y ∷ l) = cond (eqb x y) (y ∷ l) (from x l)

abbrev pub before : ℕ → List ℕ → List ℕ
before x [] = []
before x (y ∷ l) = cond (eqb x y) [] (y ∷ before x l)

-- document 01: "Follow successors until one returns. The slabs from its first visit on are the loop." `seen` keeps what was visited, in order.
unfoldable pub walk : State → State → ℕ → ℕ → List ℕ → List ℕ
walk s g zero b seen = []
walk s g (suc k) b seen = cond (memberᵇ b seen) (from b seen) (walk s g k (successor s g b) (seen ++ (b ∷ [])))

-- document 01: "take the lowest-numbered misplaced clear slab b". One of n blocks returns after at most n steps.
unfoldable pub loop : State → State → List ℕ
loop s g = walk s g (suc (length s)) (lowest (waitingᵇ s g) (length s)) []

-- The lowest-numbered block of a list.
unfoldable pub lowest_of : State → List ℕ → ℕ
lowest_of s l = lowest (λ b. memberᵇ b l) (length s)

-- The list "from its lowest number onward".
unfoldable pub onward : State → List ℕ → List ℕ
onward s l = from (lowest_of s l) l ++ before (lowest_of s l) l

-- document 01: "the slab, and the slab through which its successor is in its way"; document 02, Job 6: c "as a third number per slab".
unfoldable pub blocked_rows : State → State → List ℕ → List ℕ
blocked_rows s g [] = []
blocked_rows s g (b ∷ l) = b ∷ blocker s g b ∷ nearest s g b ∷ blocked_rows s g l

-- How many numbers a row has, and so how many are lent for each block: document 02, Job 6: "its space is now 3 × n".
abbrev pub shown_width : ℕ
shown_width = 3
