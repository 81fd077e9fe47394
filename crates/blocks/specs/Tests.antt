-- The notions that the methods ask for, as tests that compute. Each agrees with its notion on proper states (`Theorems`, in Demands).
-- Assumes nothing.
use Rattle.std.specs.Prelude.{ℕ, zero, suc, ◌+◌, Bool, true, false, not, ◌&&◌, ◌||◌, cond, eqb, length}
use Rattle.blocks.specs.State.{State, support, down}
use Rattle.blocks.specs.Position.{Position, in_position, misplaced_above, named}
use Rattle.lists.specs.Search.{lowest, count}

-- The lowest block that rests on b; 0 where none does. On a proper state no other rests there.
unfoldable pub load : State → ℕ → ℕ
load s b = lowest (λ c. eqb (support s c) b) (length s)

-- document 01: "A slab is clear when no slab rests on it. The ground is always clear."
unfoldable pub clearᵇ : State → ℕ → Bool
clearᵇ s b = eqb b 0 || eqb (load s b) 0

-- Whether b comes down to the table: no more steps are needed than there are blocks.
unfoldable pub groundedᵇ : State → ℕ → Bool
groundedᵇ s b = eqb (down s (length s) b) 0

-- b and the blocks within k steps beneath it rest on what they rest on in the goal.
unfoldable pub agreesᵇ : State → State → ℕ → ℕ → Bool
agreesᵇ s g zero b = eqb (support s b) (support g b)
agreesᵇ s g (suc k) b = eqb (support s b) (support g b) && agreesᵇ s g k (support s b)

-- All the way down: no more steps are needed than there are blocks.
abbrev pub tower_agreesᵇ : State → State → ℕ → Bool
tower_agreesᵇ s g b = agreesᵇ s g (length s) b

-- The first block in position from b down b's goal tower, or the table.
unfoldable pub first_right : State → State → ℕ → ℕ → ℕ
first_right s g zero b = 0
first_right s g (suc k) b = cond (tower_agreesᵇ s g b) b (first_right s g k (support g b))

-- The position test: document 01's in position and misplaced, and of a misplaced block c. Both are taken from here alone.
unfoldable pub position : State → State → ℕ → Position
position s g b = cond (tower_agreesᵇ s g b) in_position (misplaced_above (first_right s g (length s) (support g b)))

abbrev pub is_right : Position → Bool
is_right in_position = true
is_right (misplaced_above c) = false

unfoldable pub in_positionᵇ : State → State → ℕ → Bool
in_positionᵇ s g b = is_right (position s g b)

-- document 01's c: "Walk down b's goal pile, b left out, to the first slab in position, or the ground; call it c."
unfoldable pub nearest : State → State → ℕ → ℕ
nearest s g b = named (position s g b)

unfoldable pub misplacedᵇ : State → State → ℕ → Bool
misplacedᵇ s g b = not (in_positionᵇ s g b)

-- Waiting, Ready, Perched and Twice, said in Stall.
unfoldable pub waitingᵇ : State → State → ℕ → Bool
waitingᵇ s g b = misplacedᵇ s g b && clearᵇ s b

unfoldable pub readyᵇ : State → State → ℕ → Bool
readyᵇ s g b = waitingᵇ s g b && (clearᵇ s (support g b) && in_positionᵇ s g (support g b))

unfoldable pub perchedᵇ : State → State → ℕ → Bool
perchedᵇ s g b = waitingᵇ s g b && not (eqb (support s b) 0)

unfoldable pub twiceᵇ : State → State → ℕ → Bool
twiceᵇ s g b = misplacedᵇ s g b && (not (eqb (support s b) 0) && not (eqb (support g b) 0))

-- document 02, Job 2: "the number of misplaced slabs".
unfoldable pub misplaced_count : State → State → ℕ
misplaced_count s g = count (misplacedᵇ s g) (length s)

-- document 02, Job 4: "the misplaced slabs plus those misplaced slabs that are off the ground both now and in the goal". The measure of the methods.
unfoldable pub measure : State → State → ℕ
measure s g = misplaced_count s g + count (twiceᵇ s g) (length s)
