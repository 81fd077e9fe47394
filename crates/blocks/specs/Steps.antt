-- The three methods and the deadlock test in plain words: what each does next and where it ends (document 01, "The three methods", "The loop"). Method
-- computes the same lists: `methods`, `loop_told` and `deadlock_told` of Demands. Assumes nothing.
use Rattle.std.specs.Prelude.{ℕ, suc, pred, ◌+◌, ◌*◌, ◌≤◌, ◌<◌, ◌≡◌, ◌≢◌, List, [], ◌∷◌, ◌++◌, length, get_or}
use Rattle.lists.specs.Search.{Lowest}
use Rattle.blocks.specs.State.{State, support, put, down, Above, Clear}
use Rattle.blocks.specs.Position.{Misplaced, Nearest}
use Rattle.blocks.specs.Move.{◌⟶◌, Plan, after}
use Rattle.blocks.specs.Stall.{Waiting, Perched, Ready, NoneReady}
use Rattle.blocks.specs.Loop.{shown_width}
use Rattle.blocks.specs.Method.{Method, Us, Gn1, Gn2}

-- ---- steps one after the other

-- The plan of steps made from a state on: each move is a step in the state that the moves before it left, and there is no further one where it ends.
pub data Steps (Goes : State → ℕ → ℕ → Type 0) (Ends : State → Type 0) : State → Plan → Type 0 where
  ends : {s : State} → Ends s → Steps Goes Ends s []
  goes : {s : State} {a x : ℕ} {p : Plan} → Goes s a x → Steps Goes Ends (put s a x) p → Steps Goes Ends s ((a ⟶ x) ∷ p)

-- "the lowest-numbered slab with a constructive lift makes it".
pub record Builds (g s : State) (a x : ℕ) : Type 0 where
  pub lowest : Lowest (Ready s g) (length s) a
  pub home : x ≡ support g a

-- "the lowest-numbered misplaced clear slab off the ground goes to the ground".
pub record Clears (g s : State) (a x : ℕ) : Type 0 where
  pub lowest : Lowest (Perched s g) (length s) a
  pub table : x ≡ 0

-- ---- the loop

-- "Walk down b's goal pile, b left out, to the first slab in position, or the ground; call it c. Let d be the slab that rests on c in that goal pile,
-- possibly b."
pub record Foot (s g : State) (b c d : ℕ) : Type 0 where
  pub nearest : Nearest s g b c
  pub last : down g nearest.steps b ≡ d

-- x is "the slab through which its successor is in its way (c when c is not clear, else d)", of b.
pub data InTheWay (s g : State) (b x : ℕ) : Type 0 where
  onto : (c : ℕ) → Foot s g b c x → Clear s c → InTheWay s g b x
  under : (d : ℕ) → Foot s g b x d → ¬ Clear s x → InTheWay s g b x

-- "When c is clear the successor of b is the clear slab above d now; otherwise the clear slab above c now."
pub record Successor (s g : State) (b y : ℕ) : Type 0 where
  pub through : ℕ
  pub way : InTheWay s g b through
  pub clear : Clear s y
  pub above : Above s y through

-- Blocks in the order visited: the next of each is its successor, and none comes twice.
pub record Visits (s g : State) (l : List ℕ) : Type 0 where
  pub follows : (i : ℕ) → suc i < length l → Successor s g (get_or l i 0) (get_or l (suc i) 0)
  pub once : (i j : ℕ) → i < j → j < length l → get_or l i 0 ≢ get_or l j 0

-- "take the lowest-numbered misplaced clear slab b [..] Follow successors until one returns. The slabs from its first visit on are the loop."
-- The first blocks visited are not on the loop l; the successor of its last block is its first.
pub record LoopOf (s g : State) (l : List ℕ) : Type 0 where
  pub way : List ℕ
  pub visits : Visits s g (way ++ l)
  pub start : Lowest (Waiting s g) (length s) (get_or (way ++ l) 0 0)
  pub some : 1 ≤ length l
  pub returns : Successor s g (get_or l (pred (length l)) 0) (get_or l 0 0)

-- b is one of the list.
abbrev pub On : List ℕ → ℕ → Type 0
On l b = (i : ℕ) × (i < length l) × (b ≡ get_or l i 0)

-- "the slab put down is the lowest-numbered one on the loop".
pub record Unlocks (g s : State) (a x : ℕ) : Type 0 where
  pub loop : List ℕ
  pub is : LoopOf s g loop
  pub lowest : Lowest (On loop) (length s) a
  pub table : x ≡ 0

-- ---- the methods

-- "until no slab is misplaced".
abbrev pub NoneMisplaced : State → State → Type 0
NoneMisplaced g s = (b : ℕ) → ¬ Misplaced s g b

-- The loop's first sentence: "In a stalled yard (misplaced slabs, no constructive lift)".
pub record Stalled (s g : State) : Type 0 where
  pub block : ℕ
  pub misplaced : Misplaced s g block
  pub none_ready : NoneReady s g

-- "while a constructive lift exists, the lowest-numbered slab that has one makes it"; of the deadlock test, "until none is left".
abbrev pub ByBuilding : State → State → Plan → Type 0
ByBuilding s g p = Steps (Builds g) (λ t. NoneReady t g) s p

-- "1 (US): while some misplaced clear slab is off the ground, the lowest-numbered such slab goes to the ground; then, while a constructive lift exists,
-- the lowest-numbered slab that has one makes it."
pub record ByUs (s g : State) (p : Plan) : Type 0 where
  pub first : Plan
  pub then : Plan
  pub whole : p ≡ first ++ then
  pub clearing : Steps (Clears g) (λ t. (b : ℕ) → ¬ Perched t g b) s first
  pub building : ByBuilding (after s first) g then

-- A step of methods 2 and 3: "the lowest-numbered slab with a constructive lift makes it; when there is none", a block is put down.
pub data Solving (PutsDown : State → State → ℕ → ℕ → Type 0) (g s : State) (a x : ℕ) : Type 0 where
  builds : Builds g s a x → Solving PutsDown g s a x
  clears : Stalled s g → PutsDown g s a x → Solving PutsDown g s a x

-- "2 (GN1)", and "3 (GN2): as 2, but when there is no constructive lift the slab put down is the lowest-numbered one on the loop".
abbrev pub By : Method → State → State → Plan → Type 0
By Us s g p = ByUs s g p
By Gn1 s g p = Steps (Solving Clears g) (NoneMisplaced g) s p
By Gn2 s g p = Steps (Solving Unlocks g) (NoneMisplaced g) s p

-- ---- the deadlock test

-- The loop "from its lowest number onward": its part from there on comes first.
pub record Onward (s g : State) (l : List ℕ) : Type 0 where
  pub front : List ℕ
  pub back : List ℕ
  pub loop : LoopOf s g (front ++ back)
  pub some : 1 ≤ length back
  pub turned : l ≡ back ++ front
  pub lowest : Lowest (On l) (length s) (get_or l 0 0)

-- Three numbers a block: "the slab, and the slab through which its successor is in its way", and c.
pub record Rows (s g : State) (l rows : List ℕ) : Type 0 where
  pub size : length rows ≡ shown_width * length l
  pub slab : (i : ℕ) → i < length l → get_or rows (shown_width * i) 0 ≡ get_or l i 0
  pub way : (i : ℕ) → i < length l → InTheWay s g (get_or l i 0) (get_or rows (shown_width * i + 1) 0)
  pub nearest : (i : ℕ) → i < length l → Nearest s g (get_or l i 0) (get_or rows (shown_width * i + 2) 0)

-- It "makes constructive lifts, as in method 2, on a copy of the yard until none is left. No misplaced slab left: the answer is none, count 0. Otherwise
-- the count is the length of the loop, and the loop is written". Document 02, Job 6: c "as the yard stands when it stalls".
pub data ByTest (s g : State) (l rows : List ℕ) : Type 0 where
  none : (p : Plan) → ByBuilding s g p → NoneMisplaced g (after s p) → l ≡ [] → rows ≡ [] → ByTest s g l rows
  found : (p : Plan) → ByBuilding s g p → Stalled (after s p) g → Onward (after s p) g l → Rows (after s p) g l rows → ByTest s g l rows
