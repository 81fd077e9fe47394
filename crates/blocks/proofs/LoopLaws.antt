-- The loop of a stalled state (docs/WHY.md, step 7) is closed under successors, in whatever place it is begun, and is a deadlock of blocks off the table.
-- Idea: a walk is a list in which each block is followed by its successor; cut where it returns it is closed, and a closed walk may begin anywhere.
-- Assumes nothing.
use mathlib.Core.Path.{◌≡◌, refl, sym, ap, ◌∙◌, subst}
use mathlib.Core.Logic.{◌⊎◌, inl, inr, ◌≢◌}
use mathlib.Core.Bool.{Bool, true, false, cond, not, ◌||◌, true≢false, false≢true, or-true, or-false, or_comm, or_assoc}
use mathlib.Core.List.{List, [], ◌∷◌, ◌++◌}
use Prim.Native.Nat.{ℕ, zero, suc, pred, ◌+◌, ◌≤◌, ◌<◌}
use native.Mathlib.Omega.{arith}
use native.Mathlib.Nat.{le_of_suc-le-suc}
use lib.Dec.{eqb}
use lib.ListN.{length, get_or, length-append, get_or-append}
use lib.Seq.{get_or_at}
use Rattle.blocks.specs.State.{State, Block, Above}
use Rattle.blocks.specs.Position.{Problem, Misplaced}
use Rattle.lists.specs.Search.{lowest, count, Lowest}
use Rattle.blocks.specs.Tests.{waitingᵇ}
use Rattle.blocks.specs.Loop.{blocker, top, successor, memberᵇ, from, before, walk, loop, lowest_of, onward}
use Rattle.blocks.specs.Deadlock.{wrap, next, Deadlock}
use Rattle.blocks.specs.Stall.{IsLoop, NoneReady, Perched, Waiting}
use Rattle.blocks.specs.Steps.{On}
use Rattle.lists.proofs.ReflectLaws.{Reflects, holds, fails, from_true, to_true, to_false, decided, not-not, reflects_or, reflects_iff, eqb_reflects, leb_reflects, ltb_reflects}
use Rattle.lists.proofs.SearchLaws.{lowest_passes, lowest_first, lowest_none, lowest_found, count_all, count_one_more}
use Rattle.blocks.proofs.PositionLaws.{misplaced_block, waiting_test}
use Rattle.blocks.proofs.StallLaws.{above_off_table, waiting_above, successor_waits}

-- ---- membership

pub member_reflects : (x : ℕ) (l : List ℕ) → Reflects (On l x) (memberᵇ x l)
member_reflects x [] = fails (λ m. absurd (omega (arith, m.1)))
member_reflects x (y ∷ l) = reflects_iff into out (reflects_or (eqb_reflects x y) (member_reflects x l))
  where
    into : (x ≡ y) ⊎ On l x → On (y ∷ l) x
    into (inl e) = (0, omega arith, e)
    into (inr m) = (suc m.0, omega (arith, m.1), m.2)

    at : (i : ℕ) → i < suc (length l) → x ≡ get_or (y ∷ l) i 0 → (x ≡ y) ⊎ On l x
    at zero h e = inl e
    at (suc i) h e = inr (i, le_of_suc-le-suc h, e)

    out : On (y ∷ l) x → (x ≡ y) ⊎ On l x
    out m = at m.0 m.1 m.2

pub member_append : (x : ℕ) (l m : List ℕ) → memberᵇ x (l ++ m) ≡ (memberᵇ x l || memberᵇ x m)
member_append x [] m = refl
member_append x (y ∷ l) m = ap (λ t. eqb x y || t) (member_append x l m) ∙ sym (or_assoc (eqb x y) (memberᵇ x l) (memberᵇ x m))

-- with one more at the end
member_last : (b : ℕ) (l : List ℕ) → memberᵇ b (l ++ (b ∷ [])) ≡ true
member_last b l = member_append b l (b ∷ []) ∙ ap (λ t. memberᵇ b l || (t || false)) (to_true (eqb_reflects b b) refl) ∙ or-true (memberᵇ b l)

member_other : (c b : ℕ) (l : List ℕ) → c ≢ b → memberᵇ c (l ++ (b ∷ [])) ≡ memberᵇ c l
member_other c b l h = member_append c l (b ∷ []) ∙ ap (λ t. memberᵇ c l || (t || false)) (to_false (eqb_reflects c b) h) ∙ or-false (memberᵇ c l)

-- the parts before x and from x on
pub before_from : (x : ℕ) (l : List ℕ) → before x l ++ from x l ≡ l
before_from x [] = refl
before_from x (y ∷ l) = go (eqb x y) (before_from x l)
  where
    go : (t : Bool) → before x l ++ from x l ≡ l → cond t [] (y ∷ before x l) ++ cond t (y ∷ l) (from x l) ≡ y ∷ l
    go true e = refl
    go false e = ap (λ m. y ∷ m) e

from_begins : (x : ℕ) (l : List ℕ) → memberᵇ x l ≡ true → (r : List ℕ) × (from x l ≡ x ∷ r)
from_begins x [] h = absurd (true≢false (sym h))
from_begins x (y ∷ l) h = go (eqb_reflects x y) h (from_begins x l)
  where
    go : {t : Bool} → Reflects (x ≡ y) t → (t || memberᵇ x l) ≡ true → (memberᵇ x l ≡ true → (r : List ℕ) × (from x l ≡ x ∷ r)) →
        (r : List ℕ) × (cond t (y ∷ l) (from x l) ≡ x ∷ r)
    go (holds e) m rest = (l, ap (λ z. z ∷ l) (sym e))
    go (fails n) m rest = rest m

-- ---- walks

-- from x to y by the list: each entry has W and is followed by its image under f, the last by y
pub data Way (W : ℕ → Type 0) (f : ℕ → ℕ) : ℕ → List ℕ → ℕ → Type 0 where
  end : {x : ℕ} → Way W f x [] x
  step : {x y : ℕ} {l : List ℕ} → W x → Way W f (f x) l y → Way W f x (x ∷ l) y

module _ {W : ℕ → Type 0} {f : ℕ → ℕ} where
  way_append : {l m : List ℕ} {x y z : ℕ} → Way W f x l y → Way W f y m z → Way W f x (l ++ m) z
  way_append end w = w
  way_append (step h v) w = step h (way_append v w)

  way_split : (l m : List ℕ) {x z : ℕ} → Way W f x (l ++ m) z → (y : ℕ) × Way W f x l y × Way W f y m z
  way_split [] m {x} w = (x, end, w)
  way_split (a ∷ l) m (step h w) = let r = way_split l m w in (r.0, step h r.1, r.2)

  -- by index
  pub way_holds : {l : List ℕ} {x y : ℕ} → Way W f x l y → (i : ℕ) → i < length l → W (get_or l i 0)
  way_holds end i h = absurd (omega arith)
  way_holds (step v w) zero h = v
  way_holds (step v w) (suc i) h = way_holds w i (le_of_suc-le-suc h)

  way_first : {l : List ℕ} {x y : ℕ} → Way W f x l y → x ≡ get_or (l ++ (y ∷ [])) 0 0
  way_first end = refl
  way_first (step v w) = refl

  pub way_next : {l : List ℕ} {x y : ℕ} → Way W f x l y → (i : ℕ) → i < length l → f (get_or l i 0) ≡ get_or (l ++ (y ∷ [])) (suc i) 0
  way_next end i h = absurd (omega arith)
  way_next (step v w) zero h = way_first w
  way_next (step v w) (suc i) h = way_next w i (le_of_suc-le-suc h)

  -- and back: a list with those entries is such a walk
  way_by_index : (l : List ℕ) (y : ℕ) → ((i : ℕ) → i < length l → W (get_or l i 0)) →
      ((i : ℕ) → i < length l → f (get_or l i 0) ≡ get_or (l ++ (y ∷ [])) (suc i) 0) → Way W f (get_or (l ++ (y ∷ [])) 0 0) l y
  way_by_index [] y w h = end
  way_by_index (a ∷ l) y w h =
      let rest = way_by_index l y (λ i n. w (suc i) (omega arith)) (λ i n. h (suc i) (omega arith)) in
      step (w 0 (omega arith)) (subst (λ z. Way W f z l y) (sym (h 0 (omega arith))) rest)

  -- cut at a block on it
  way_cut : (c : ℕ) (l : List ℕ) {x y : ℕ} → memberᵇ c l ≡ true → Way W f x l y → Way W f x (before c l) c × Way W f c (from c l) y
  way_cut c l {x} {y} h w =
      let r = way_split (before c l) (from c l) (subst (λ m. Way W f x m y) (sym (before_from c l)) w) in
      let here : r.0 ≡ c = way_first r.2 ∙ ap (λ m. get_or (m ++ (y ∷ [])) 0 0) (from_begins c l h).1 in
      (subst (Way W f x (before c l)) here r.1, subst (λ z. Way W f z (from c l) y) here r.2)

-- ---- loops

-- the entry after the one at i: past the last stands the first once more
entry_next : (l : List ℕ) (i : ℕ) → i < length l → get_or (l ++ (get_or l 0 0 ∷ [])) (suc i) 0 ≡ get_or l (next (length l) i) 0
entry_next l i h = go (ltb_reflects (suc i) (length l))
  where
    go : {t : Bool} → Reflects (suc i < length l) t → get_or (l ++ (get_or l 0 0 ∷ [])) (suc i) 0 ≡ get_or l (wrap t (suc i)) 0
    go (holds k) = get_or-append l (get_or l 0 0 ∷ []) 0 (suc i) k
    go (fails n) = get_or_at l (get_or l 0 0) [] 0 (suc i) (omega (arith, n))

-- a walk of waiting blocks that is closed is a loop, and a loop is one
abbrev pub Walk : State → State → ℕ → List ℕ → ℕ → Type 0
Walk s g = Way (Waiting s g) (successor s g)

pub walk_first : {s g : State} {l : List ℕ} {x y : ℕ} → Walk s g x l y → 1 ≤ length l → x ≡ get_or l 0 0
walk_first end h = absurd (omega arith)
walk_first (step v w) h = refl

walk_loop : {s g : State} {l : List ℕ} {x : ℕ} → 1 ≤ length l → Walk s g x l x → IsLoop s g l
walk_loop {s} {g} {l} {x} h w = record {
  some = h;
  waiting = way_holds w;
  follows = λ i n. way_next w i n ∙ ap (λ z. get_or (l ++ (z ∷ [])) (suc i) 0) (walk_first w h) ∙ entry_next l i n;
}

loop_walk : {s g : State} {l : List ℕ} → IsLoop s g l → Walk s g (get_or l 0 0) l (get_or l 0 0)
loop_walk {s} {g} {l} c =
    subst (λ z. Walk s g z l (get_or l 0 0)) (get_or-append l (get_or l 0 0 ∷ []) 0 0 c.some)
    (way_by_index l (get_or l 0 0) c.waiting (λ i n. c.follows i n ∙ sym (entry_next l i n)))

-- ---- the walk returns

-- the part from b on is no longer than the list, and not empty where b is on it
from_length : (b : ℕ) (l : List ℕ) → length (from b l) ≤ length l
from_length b l = omega (arith, simp length-append at (ap length (before_from b l)))

pub from_some : (b : ℕ) (l : List ℕ) → memberᵇ b l ≡ true → 1 ≤ length (from b l)
from_some b l h = rw (from_begins b l h).1 (omega arith)

-- how many blocks are not on the list
unseen : State → List ℕ → ℕ
unseen s l = count (λ c. not (memberᵇ c l)) (length s)

-- one fewer after b, which was not on it
unseen_less : (s : State) (b : ℕ) (l : List ℕ) → Block s b → memberᵇ b l ≡ false → unseen s l ≡ suc (unseen s (l ++ (b ∷ [])))
unfolding unseen
unseen_less s b l w h =
    count_one_more (λ c. not (memberᵇ c l)) (λ c. not (memberᵇ c (l ++ (b ∷ [])))) (length s) b w.low w.high
    (ap not h) (ap not (member_last b l)) (λ c k n d. ap not (sym (member_other c b l d)))

-- where a number passes one is found
lowest_there : (P : ℕ → Bool) (n c : ℕ) → 1 ≤ c → c ≤ n → P c ≡ true → lowest P n ≢ 0
lowest_there P n c l h q z = true≢false (sym q ∙ lowest_none P n z c l h)

-- no entry comes twice, and one more that was not there keeps it so
abbrev pub Once : List ℕ → Type 0
Once l = (i j : ℕ) → i < j → j < length l → get_or l i 0 ≢ get_or l j 0

once_longer : (b : ℕ) (l : List ℕ) → memberᵇ b l ≡ false → Once l → Once (l ++ (b ∷ []))
once_longer b l h once i j less there e =
    let size : length (l ++ (b ∷ [])) ≡ length l + 1 = length-append l (b ∷ []) in
    let inside : i < length l = omega (arith, size, there, less) in
    at inside (sym (get_or-append l (b ∷ []) 0 i inside) ∙ e) (decided (ltb_reflects j (length l)))
  where
    at : i < length l → get_or l i 0 ≡ get_or (l ++ (b ∷ [])) j 0 → (j < length l) ⊎ (¬ (j < length l)) → ⊥
    at inside same (inl k) = once i j less k (same ∙ get_or-append l (b ∷ []) 0 j k)
    at inside same (inr n) =
        let last : length l ≡ j = omega (arith, length-append l (b ∷ []), there, n) in
        let is : b ≡ get_or l i 0 = sym (same ∙ get_or_at l b [] 0 j last) in
        true≢false (sym (to_true (member_reflects b l) (i, inside, is)) ∙ h)

-- what a walk from x gives: of the blocks visited, none twice, the part from the first visit of the one that returned
pub record Returned (s g : State) (x : ℕ) (l : List ℕ) : Type 0 where
  pub visited : List ℕ
  pub again : ℕ
  pub way : Walk s g x visited again
  pub once : Once visited
  pub met : memberᵇ again visited ≡ true
  pub part : l ≡ from again visited
  pub short : length visited ≤ length s

module _ {s g : State} (p : Problem s g) (still : NoneReady s g) where
  -- the walk has come to b, and has fuel for every block that it has not seen
  walk_returns : (k b x : ℕ) (seen : List ℕ) → Walk s g x seen b → Waiting s g b → Once seen → length seen + unseen s seen ≡ length s → unseen s seen < k →
      Returned s g x (walk s g k b seen)
  unfolding walk
  walk_returns zero b x seen way w once e h = absurd (omega arith)
  walk_returns (suc k) b x seen way w once e h =
      go (memberᵇ b seen) refl (walk_returns k (successor s g b) x longer (way_append way (step w end)) (successor_waits p still b w).0)
    where
      longer : List ℕ
      longer = seen ++ (b ∷ [])

      go : (t : Bool) → memberᵇ b seen ≡ t →
          (Once longer → length longer + unseen s longer ≡ length s → unseen s longer < k → Returned s g x (walk s g k (successor s g b) longer)) →
          Returned s g x (cond t (from b seen) (walk s g k (successor s g b) longer))
      go true m rest =
          record { visited = seen; again = b; way = way; once = once; met = m; part = refl; short = omega arith }
      go false m rest =
          let less : unseen s seen ≡ suc (unseen s longer) = unseen_less s b seen (misplaced_block p.same w.0) m in
          rest (once_longer b seen m once) (simp length-append (omega arith)) (omega arith)

  -- where some block is misplaced there is a lowest waiting one
  pub first_waits : {b : ℕ} → Misplaced s g b → Lowest (Waiting s g) (length s) (lowest (waitingᵇ s g) (length s))
  first_waits {b} m = lowest_found (Waiting s g) (waitingᵇ s g) (length s) (λ c _ _. waiting_test s g p.initial c) found
    where
      found : lowest (waitingᵇ s g) (length s) ≢ 0
      found =
          let a = top s (length s) b in
          let w = waiting_above p b m in
          let k = misplaced_block p.same w.0 in
          lowest_there (waitingᵇ s g) (length s) a k.low k.high (to_true (waiting_test s g p.initial a) w)

  -- the walk begins there
  pub loop_returns : {b : ℕ} → Misplaced s g b → Returned s g (lowest (waitingᵇ s g) (length s)) (loop s g)
  unfolding loop unseen
  loop_returns {b} m =
      walk_returns (suc (length s)) start start [] end (first_waits m).holds (λ i j l h. absurd (omega arith)) (omega (arith, all)) (omega (arith, all))
    where
      start : ℕ
      start = lowest (waitingᵇ s g) (length s)

      all : unseen s [] ≡ length s
      all = count_all (λ c. true) (length s) (λ c l h. refl)

pub loop_closed : {s g : State} → Problem s g → NoneReady s g → {b : ℕ} → Misplaced s g b → IsLoop s g (loop s g)
loop_closed {s} {g} p still m =
    let r = loop_returns p still m in
    subst (IsLoop s g) (sym r.part) (walk_loop (from_some r.again r.visited r.met) (way_cut r.again r.visited r.met r.way).1)

-- no block is visited twice
pub loop_short : {s g : State} → Problem s g → NoneReady s g → {b : ℕ} → Misplaced s g b → length (loop s g) ≤ length s
loop_short p still m = let r = loop_returns p still m in omega (arith, ap length r.part, from_length r.again r.visited, r.short)

-- ---- from its lowest number onward

pub lowest_member : {s g : State} {l : List ℕ} → Problem s g → IsLoop s g l → memberᵇ (lowest_of s l) l ≡ true
unfolding lowest_of
lowest_member {s} {g} {l} p c =
    let k = misplaced_block p.same (c.waiting 0 c.some).0 in
    let first : memberᵇ (get_or l 0 0) l ≡ true = to_true (member_reflects (get_or l 0 0) l) (0, c.some, refl) in
    lowest_passes (λ b. memberᵇ b l) (length s) (lowest_there (λ b. memberᵇ b l) (length s) (get_or l 0 0) k.low k.high first)

-- the lowest of the loop is on it
pub lowest_of_loop : {s g : State} {l : List ℕ} → Problem s g → IsLoop s g l → (i : ℕ) × (i < length l) × (lowest_of s l ≡ get_or l i 0)
lowest_of_loop {s} {g} {l} p c = from_true (member_reflects (lowest_of s l) l) (lowest_member p c)

pub lowest_on : {s g : State} {l : List ℕ} → Problem s g → IsLoop s g l → Lowest (On l) (length s) (lowest_of s l)
unfolding lowest_of
lowest_on {s} {g} {l} p c =
    let w = lowest_of_loop p c in
    let k = misplaced_block p.same (c.waiting w.0 w.1).0 in
    lowest_found (On l) (λ b. memberᵇ b l) (length s) (λ b _ _. member_reflects b l) (λ z. absurd (omega (arith, z, w.2, k.low)))

pub onward_length : (s : State) (l : List ℕ) → length (onward s l) ≡ length l
unfolding onward
onward_length s l = simp length-append (omega (arith, simp length-append at (ap length (before_from (lowest_of s l) l))))

onward_walk : {s g : State} {l : List ℕ} → Problem s g → IsLoop s g l → Walk s g (lowest_of s l) (onward s l) (lowest_of s l)
unfolding onward
onward_walk {s} {g} {l} p c = let r = way_cut (lowest_of s l) l (lowest_member p c) (loop_walk c) in way_append r.1 r.0

onward_some : {s g : State} {l : List ℕ} → IsLoop s g l → 1 ≤ length (onward s l)
onward_some {s} {g} {l} c = rw (onward_length s l) c.some

-- written from its lowest number onward it is the same loop
pub onward_closed : {s g : State} {l : List ℕ} → Problem s g → IsLoop s g l → IsLoop s g (onward s l)
onward_closed p c = walk_loop (onward_some c) (onward_walk p c)

pub onward_first : {s g : State} {l : List ℕ} → Problem s g → IsLoop s g l → get_or (onward s l) 0 0 ≡ lowest_of s l
onward_first p c = sym (walk_first (onward_walk p c) (onward_some c))

-- it has the same blocks, so none is below its first
pub onward_members : (s : State) (l : List ℕ) (x : ℕ) → memberᵇ x (onward s l) ≡ memberᵇ x l
unfolding onward
onward_members s l x =
    let m = lowest_of s l in
    member_append x (from m l) (before m l)
    ∙ or_comm (memberᵇ x (from m l)) (memberᵇ x (before m l))
    ∙ sym (member_append x (before m l) (from m l))
    ∙ ap (memberᵇ x) (before_from m l)

pub onward_lowest : {s g : State} {l : List ℕ} → Problem s g → IsLoop s g l → (i : ℕ) → i < length l → get_or (onward s l) 0 0 ≤ get_or (onward s l) i 0
unfolding lowest_of
onward_lowest {s} {g} {l} p c i h = not-not (leb_reflects (get_or (onward s l) 0 0) x) (λ n. false≢true (sym (below n) ∙ there))
  where
    x : ℕ
    x = get_or (onward s l) i 0

    inside : i < length (onward s l)
    inside = rw (onward_length s l) h

    low : 1 ≤ x
    low = (misplaced_block p.same ((onward_closed p c).waiting i inside).0).low

    there : memberᵇ x l ≡ true
    there = sym (onward_members s l x) ∙ to_true (member_reflects x (onward s l)) (i, inside, refl)

    below : ¬ (get_or (onward s l) 0 0 ≤ x) → memberᵇ x l ≡ false
    below n = lowest_first (λ b. memberᵇ b l) (length s) x low (omega (arith, n, onward_first p c))

-- ---- a loop is a deadlock

-- the index before i: before the first comes the last
abbrev prev : ℕ → ℕ → ℕ
prev p zero = pred p
prev p (suc i) = i

prev_below : (p i : ℕ) → i < p → prev p i < p
prev_below p zero h = let k : pred p < p = omega arith in k
prev_below p (suc i) h = omega arith

next_prev : (p i : ℕ) → i < p → next p (prev p i) ≡ i
next_prev p zero h = ap (λ t. wrap t (suc (pred p))) (to_false (ltb_reflects (suc (pred p)) p) (λ k. absurd (omega arith)))
next_prev p (suc i) h = ap (λ t. wrap t (suc i)) (to_true (ltb_reflects (suc i) p) h)

prev_next : (p i : ℕ) → i < p → prev p (next p i) ≡ i
prev_next p i h = go (ltb_reflects (suc i) p)
  where
    go : {t : Bool} → Reflects (suc i < p) t → prev p (wrap t (suc i)) ≡ i
    go (holds k) = refl
    go (fails n) = let e : pred p ≡ i = omega (arith, n) in e

module _ {s g : State} {l : List ℕ} (p : Problem s g) (still : NoneReady s g) (c : IsLoop s g l) where
  -- the block in the way of the one before
  between : ℕ → ℕ
  between i = blocker s g (get_or l (prev (length l) i) 0)

  between_next : (i : ℕ) → i < length l → between (next (length l) i) ≡ blocker s g (get_or l i 0)
  unfolding between
  between_next i h = ap (λ j. blocker s g (get_or l j 0)) (prev_next (length l) i h)

  above_between : (i : ℕ) → i < length l → Above s (get_or l i 0) (between i)
  unfolding between
  above_between i h =
      let j = prev (length l) i in
      let k : j < length l = prev_below (length l) i h in
      let here : successor s g (get_or l j 0) ≡ get_or l i 0 = c.follows j k ∙ ap (λ m. get_or l m 0) (next_prev (length l) i h) in
      subst (λ a. Above s a (between i)) here (successor_waits p still (get_or l j 0) (c.waiting j k)).1

-- a loop is deadlocked, by the blocks in the way: document 01's next d of b is the blocker of b
pub loop_deadlock : {s g : State} {l : List ℕ} → Problem s g → NoneReady s g → IsLoop s g l →
    (d : ℕ → ℕ) × Deadlock s g (length l) (λ i. get_or l i 0) d × ((i : ℕ) → i < length l → d (next (length l) i) ≡ blocker s g (get_or l i 0))
loop_deadlock {s} {g} {l} p still c = (between p still c, dead, between_next p still c)
  where
    dead : Deadlock s g (length l) (λ i. get_or l i 0) (between p still c)
    dead =
        record {
          some = c.some;
          misplaced = λ i h. (c.waiting i h).0;
          now = above_between p still c;
          goal = λ i h. rw (between_next p still c i h) (successor_waits p still (get_or l i 0) (c.waiting i h)).2;
        }

-- every block of a loop is off the table
pub loop_perched : {s g : State} {l : List ℕ} → Problem s g → NoneReady s g → IsLoop s g l → (i : ℕ) → i < length l → Perched s g (get_or l i 0)
loop_perched p still c i h = (c.waiting i h, above_off_table (above_between p still c i h))
