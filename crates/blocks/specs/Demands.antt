-- The theorems on two states, statements alone: the tests, the methods, the deadlock test, demand 3, and what later work stands on. SheetDemands has those on
-- sheets and operations. Quotations are of the demands (docs/SPECIFICATION.md), or of document 01 where it is named. proofs/Theorems proves the whole record.
-- Read `Problem` as a sheet that is accepted (questions 3 to 9; no bound on the number of blocks is needed), `Solves` as a legal list that arrives.
-- Assumes nothing.
use Rattle.std.specs.Prelude.{ℕ, ◌+◌, ◌*◌, ◌%◌, ◌≤◌, ◌<◌, ◌≡◌, ◌≢◌, ◌↔◌, true, List, length, get_or}
use Rattle.blocks.specs.State.{State, support, Above, Clear, Grounded}
use Rattle.lists.specs.Search.{Counts}
use Rattle.blocks.specs.Position.{Proper, Problem, InPosition, Misplaced, Nearest, Position, Positioned}
use Rattle.blocks.specs.Move.{Plan, CarefulPlan, Moved, Solves, after}
use Rattle.blocks.specs.Tests.{clearᵇ, groundedᵇ, position, in_positionᵇ, nearest, waitingᵇ, readyᵇ, perchedᵇ, misplaced_count, measure}
use Rattle.blocks.specs.Deadlock.{next, Deadlock, Deadlocked}
use Rattle.blocks.specs.Loop.{last_misplaced, blocker, successor, loop, shown_width}
use Rattle.blocks.specs.Stall.{Waiting, Perched, Twice, Ready, NoneReady, IsLoop}
use Rattle.blocks.specs.Steps.{Stalled, Foot, LoopOf, ByBuilding, By, ByTest}
use Rattle.blocks.specs.Method.{Method, Us, plan, outcome, deadlock_loop, deadlock_rows}
use Rattle.blocks.specs.Answer.{flat, moves}

-- "without a deadlock at the start": no blocks are deadlocked.
abbrev pub NoDeadlock : State → State → Type 0
NoDeadlock s g = (blocks : List ℕ) → ¬ Deadlocked s g blocks

-- What is promised of plans is said of the problem of s and g, and of which plans arrive: `Solves s g`, or with a sheet's options `Arrives h` of Sheet.

-- The fewest moves that could do: some legal plan that arrives has so many, and none has fewer.
pub record Fewest (Arrives : Plan → Type 0) (k : ℕ) : Type 0 where
  pub some : (q : Plan) × Arrives q × (length q ≡ k)
  pub least : (q : Plan) → Arrives q → k ≤ length q

-- What the count of misplaced blocks promises. Document 02, Job 2: "Crews take the second field of PL as the fewest lifts that could do."
pub record HeadCount (Arrives : Plan → Type 0) (s g : State) (k : ℕ) : Type 0 where
  -- so many blocks are misplaced at the start;
  pub counts : Counts (Misplaced s g) (length s) k
  -- no legal plan that arrives is shorter;
  pub floor : (q : Plan) → Arrives q → k ≤ length q
  -- and it is the fewest exactly when nothing is deadlocked at the start.
  pub fewest : Fewest Arrives k ↔ NoDeadlock s g

-- Demand 3 of a plan p that method m writes.
pub record Promise (Arrives : Plan → Type 0) (m : Method) (s g : State) (p : Plan) : Type 0 where
  -- "Every list written for an accepted sheet is legal and arrives."
  pub arrives : Arrives p
  -- "For any legal list that arrives, of L lifts: US, GN1 and GN2 write at most 2 × L";
  pub twice : (q : Plan) → Arrives q → length p ≤ 2 * length q
  -- "without a deadlock at the start GN1 and GN2 write at most L";
  pub once : m ≢ Us → NoDeadlock s g → (q : Plan) → Arrives q → length p ≤ length q
  -- "with one, L is more than the number of slabs misplaced at the start."
  pub costs : (blocks : List ℕ) → Deadlocked s g blocks → (q : Plan) → Arrives q → misplaced_count s g < length q

-- What else holds of the plan that method m writes: later work stands on it.
pub record Economy (m : Method) (s g : State) (p : Plan) : Type 0 where
  -- only misplaced blocks are moved, to the table or to their goal support
  pub careful : CarefulPlan s g p
  pub only : (a : ℕ) → Moved a p → Misplaced s g a
  -- the measure bounds the moves, and is their number for US
  pub bound : length p ≤ measure s g
  pub exact : m ≡ Us → length p ≡ measure s g
  -- without a deadlock GN1 and GN2 write as many moves as blocks are misplaced
  pub one_each : m ≢ Us → NoDeadlock s g → length p ≡ misplaced_count s g

-- Document 02, Job 4: "the misplaced slabs plus those misplaced slabs that are off the ground both now and in the goal" are k.
pub record AllDownTakes (s g : State) (k : ℕ) : Type 0 where
  pub once : ℕ
  pub again : ℕ
  pub misplaced : Counts (Misplaced s g) (length s) once
  pub twice : Counts (Twice s g) (length s) again
  pub sum : k ≡ once + again

-- What the deadlock test shows, in document 01's letters: the blocks of the loop are b1 to bp, and beside each stands the next d, and c.
pub record Shown (s g : State) (blocks rows : List ℕ) : Type 0 where
  pub d : ℕ → ℕ
  pub deadlock : Deadlock s g (length blocks) (λ i. get_or blocks i 0) d
  pub slab : (i : ℕ) → i < length blocks → get_or rows (shown_width * i) 0 ≡ get_or blocks i 0
  pub beside : (i : ℕ) → i < length blocks → get_or rows (shown_width * i + 1) 0 ≡ d (next (length blocks) i)
  -- document 02, Job 6: "as the yard stands when it stalls": after these moves
  pub moves : Plan
  pub stalls : ByBuilding s g moves
  -- the third number is in position then, or the table, beneath the block in the goal, and the block and every one between are misplaced then
  pub third : (i : ℕ) → i < length blocks → Nearest (after s moves) g (get_or blocks i 0) (get_or rows (shown_width * i + 2) 0)
  -- document 01: "written from its lowest number onward"
  pub lowest : (i : ℕ) → i < length blocks → get_or blocks 0 0 ≤ get_or blocks i 0

pub record Theorems : Type 0 where
  -- ---- the tests agree with the notions
  pub position_test : (s g : State) → Proper s → (b : ℕ) → (in_positionᵇ s g b ≡ true) ↔ InPosition s g b
  -- document 02, Job 6: "The position test shall also name, for a misplaced slab, the nearest slab beneath it in the goal pile that is in position"
  pub position_told : (s g : State) → Problem s g → (b : ℕ) (r : Position) → (position s g b ≡ r) ↔ Positioned s g b r
  -- for a block in position it names none: in numbers 0
  pub names_none : (s g : State) → Problem s g → (b : ℕ) → InPosition s g b → nearest s g b ≡ 0
  pub clear_test : (s : State) (b : ℕ) → (clearᵇ s b ≡ true) ↔ Clear s b
  pub ready_test : (s g : State) → Problem s g → (b : ℕ) → (readyᵇ s g b ≡ true) ↔ Ready s g b
  pub waiting_test : (s g : State) → Proper s → (b : ℕ) → (waitingᵇ s g b ≡ true) ↔ Waiting s g b
  pub perched_test : (s g : State) → Proper s → (b : ℕ) → (perchedᵇ s g b ≡ true) ↔ Perched s g b
  pub grounded_test : (s : State) → ((b : ℕ) → support s b ≤ length s) → (b : ℕ) → b ≤ length s → (groundedᵇ s b ≡ true) ↔ Grounded s b
  -- ---- lists of numbers as lists of moves
  pub pairs_back : (p : Plan) → moves (flat p) ≡ p
  pub pairs_forth : (l : List ℕ) → length l % 2 ≡ 0 → flat (moves l) ≡ l
  -- ---- demand 2: the lists of the methods
  -- a method gives a plan exactly where its words give it, and they give one; so with the loop of a stalled state
  pub methods : (m : Method) (s g : State) → Problem s g → (p : Plan) → (outcome m s g ≡ plan p) ↔ By m s g p
  pub methods_only : (m : Method) (s g : State) → Problem s g → (p q : Plan) → By m s g p → By m s g q → p ≡ q
  pub loop_told : (s g : State) → Problem s g → Stalled s g → (l : List ℕ) → (loop s g ≡ l) ↔ LoopOf s g l
  -- ---- demand 2: the deadlock test
  -- document 01's c and d of a misplaced block; d is misplaced
  pub last_misplaced_lem : (s g : State) → Problem s g → (b : ℕ) → Misplaced s g b
      → Foot s g b (nearest s g b) (last_misplaced s g b) × Misplaced s g (last_misplaced s g b)
  -- the successor of b is a misplaced clear block above what is in b's way, and b is above that in the goal; the loop is closed under successors
  pub successor_waits : (s g : State) → Problem s g → NoneReady s g → (b : ℕ) → Waiting s g b
      → Waiting s g (successor s g b) × Above s (successor s g b) (blocker s g b) × Above g b (blocker s g b)
  pub loop_closed : (s g : State) → Problem s g → NoneReady s g → (b : ℕ) → Misplaced s g b → IsLoop s g (loop s g)
  -- the test says none exactly when nothing is deadlocked at the start; what it shows otherwise is deadlocked at the start
  pub deadlock_none : (s g : State) → Problem s g → (length (deadlock_loop s g) ≡ 0) ↔ NoDeadlock s g
  pub deadlock_shown : (s g : State) → Problem s g → length (deadlock_loop s g) ≢ 0 → Shown s g (deadlock_loop s g) (deadlock_rows s g)
  -- what is shown leaves one third number
  pub third_only : (s g : State) → Problem s g → (blocks rows rows' : List ℕ) → Shown s g blocks rows → Shown s g blocks rows'
      → (i : ℕ) → i < length blocks → get_or rows (shown_width * i + 2) 0 ≡ get_or rows' (shown_width * i + 2) 0
  -- what it writes is what its words give, and they give no other answer
  pub deadlock_told : (s g : State) → Problem s g → (l rows : List ℕ) → ((deadlock_loop s g ≡ l) × (deadlock_rows s g ≡ rows)) ↔ ByTest s g l rows
  pub deadlock_fits : (s g : State) → Problem s g → length (deadlock_rows s g) ≤ shown_width * length s
  -- ---- demand 3: every method gives a plan, and keeps the promise
  pub demand : (m : Method) (s g : State) → Problem s g → (p : Plan) × (outcome m s g ≡ plan p) × Promise (Solves s g) m s g p × Economy m s g p
  pub plan_fits : (m : Method) (s g : State) → Problem s g → (p : Plan) → outcome m s g ≡ plan p → 2 * length p ≤ 4 * length s
  -- every legal plan that arrives moves every misplaced block; what their number promises
  pub moves_all : (s g : State) → Problem s g → (q : Plan) → Solves s g q → (b : ℕ) → Misplaced s g b → Moved b q
  pub head_count : (s g : State) → Problem s g → HeadCount (Solves s g) s g (misplaced_count s g)
  -- ---- document 02, Job 4: better than putting all down
  -- the number that it names is what the measure computes
  pub all_down_lem : (s g : State) → Problem s g → AllDownTakes s g (measure s g)
  -- of the lists that the methods' words give: "method 1 writes the misplaced slabs plus those misplaced slabs that are off the ground both now and in the goal",
  pub us_exact : (s g : State) → Problem s g → (p : Plan) → By Us s g p → length p ≡ measure s g
  -- and "on every accepted sheet methods 2 and 3 write no more lifts than method 1";
  pub no_more_than_us : (m : Method) (s g : State) → Problem s g → (p q : Plan) → By m s g p → By Us s g q → length p ≤ length q
