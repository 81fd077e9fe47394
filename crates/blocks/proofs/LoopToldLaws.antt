-- The loop that is computed is the loop in plain words (`LoopOf`), and there is no other. Idea: two walks that begin at one block and go by one successor
-- are the same up to the first block that returns. Assumes nothing.
use mathlib.Core.Path.{◌≡◌, refl, sym, ap, ◌∙◌, subst}
use mathlib.Core.Logic.{◌↔◌}
use mathlib.Core.Bool.{Bool}
use mathlib.Core.List.{List, [], ◌∷◌, ◌++◌}
use Prim.Native.Nat.{ℕ, zero, suc, pred, ◌+◌, ◌≤◌, ◌<◌}
use native.Mathlib.Omega.{arith}
use lib.ListN.{length, get_or, drop, length-append, get_or-append}
use lib.Seq.{ext_get_or, get_or-append-add, drop-append_seam}
use Rattle.lists.specs.Search.{lowest, Lowest}
use Rattle.blocks.specs.State.{State}
use Rattle.blocks.specs.Position.{Proper, Problem, Misplaced}
use Rattle.blocks.specs.Tests.{waitingᵇ}
use Rattle.blocks.specs.Loop.{before, loop}
use Rattle.blocks.specs.Deadlock.{wrap, next}
use Rattle.blocks.specs.Stall.{IsLoop, NoneReady, Waiting}
use Rattle.blocks.specs.Steps.{Successor, Visits, LoopOf}
use Rattle.lists.proofs.ReflectLaws.{Reflects, holds, fails, ltb_reflects}
use Rattle.lists.proofs.SearchLaws.{lowest_only}
use Rattle.blocks.proofs.StallLaws.{successor_told, successor_only}
use Rattle.blocks.proofs.LoopLaws.{Once, Returned, way_next, way_holds, walk_first, before_from, first_waits, loop_returns, loop_closed}

-- ---- what is computed is the loop

-- after the last index comes the first
next_last : (n : ℕ) → 1 ≤ n → next n (pred n) ≡ 0
next_last n h = go (ltb_reflects (suc (pred n)) n)
  where
    go : {t : Bool} → Reflects (suc (pred n) < n) t → wrap t (suc (pred n)) ≡ 0
    go (holds l) = absurd (omega arith)
    go (fails m) = refl

module _ {s g : State} (p : Problem s g) (still : NoneReady s g) where
  -- the blocks visited are followed by their successors
  visited_told : {x : ℕ} {l : List ℕ} (r : Returned s g x l) → Visits s g r.visited
  visited_told r =
      let v = r.visited in
      record {
        follows = λ i h.
            let inside : i < length v = omega arith in
            let after = way_next r.way i inside ∙ get_or-append v (r.again ∷ []) 0 (suc i) h in
            subst (Successor s g (get_or v i 0)) after (successor_told p still (get_or v i 0) (way_holds r.way i inside));
        once = r.once;
      }

  -- and so is the last block of a loop, by its first
  loop_back : {l : List ℕ} → IsLoop s g l → Successor s g (get_or l (pred (length l)) 0) (get_or l 0 0)
  loop_back {l} c =
      let i = pred (length l) in
      let last : i < length l = omega (arith, c.some) in
      subst (Successor s g (get_or l i 0)) (c.follows i last ∙ ap (λ k. get_or l k 0) (next_last (length l) c.some)) (successor_told p still (get_or l i 0) (c.waiting i last))

  pub loop_is : {b : ℕ} → Misplaced s g b → LoopOf s g (loop s g)
  loop_is m = at (loop_returns p still m)
    where
      at : Returned s g (lowest (waitingᵇ s g) (length s)) (loop s g) → LoopOf s g (loop s g)
      at r =
          let way = before r.again r.visited in
          let closed = loop_closed p still m in
          let whole : way ++ loop s g ≡ r.visited = ap (λ l. way ++ l) r.part ∙ before_from r.again r.visited in
          let begun : 1 ≤ length r.visited = omega (arith, closed.some, ap length whole, length-append way (loop s g)) in
          record {
            way = way;
            visits = subst (Visits s g) (sym whole) (visited_told r);
            start = subst (Lowest (Waiting s g) (length s)) (walk_first r.way begun ∙ ap (λ w. get_or w 0 0) (sym whole)) (first_waits p still m);
            some = closed.some;
            returns = loop_back closed;
          }

-- ---- there is no other

-- the blocks visited
abbrev visited : {s g : State} {l : List ℕ} → LoopOf s g l → List ℕ
visited {l = l} a = a.way ++ l

-- the loop begins behind the way, and the last block visited is its last
loop_first : {s g : State} {l : List ℕ} (a : LoopOf s g l) → get_or (visited a) (length a.way) 0 ≡ get_or l 0 0
loop_first {l = l} a = let behind : length a.way ≡ length a.way + 0 = omega arith in ap (λ i. get_or (visited a) i 0) behind ∙ get_or-append-add a.way l 0 0

loop_last : {s g : State} {l : List ℕ} (a : LoopOf s g l) → get_or (visited a) (pred (length (visited a))) 0 ≡ get_or l (pred (length l)) 0
loop_last {l = l} a =
    let behind : pred (length (visited a)) ≡ length a.way + pred (length l) = omega (arith, a.some, length-append a.way l) in
    ap (λ i. get_or (visited a) i 0) behind ∙ get_or-append-add a.way l (pred (length l)) 0

-- a block of a list without repetition has one place
pub one_place : (v : List ℕ) → Once v → (i j : ℕ) → i < length v → j < length v → get_or v i 0 ≡ get_or v j 0 → i ≡ j
one_place v once i j h k e =
    let below : ¬ (i < j) = λ l. once i j l k e in
    let above : ¬ (j < i) = λ l. once j i l h (sym e) in
    omega (arith, below, above)

module _ {s g : State} (p : Proper s) where
  -- two walks agree as far as both go
  agree : {l m : List ℕ} (a : LoopOf s g l) (b : LoopOf s g m) (i : ℕ) → i < length (visited a) → i < length (visited b)
      → get_or (visited a) i 0 ≡ get_or (visited b) i 0
  agree a b zero h k = lowest_only a.start b.start
  agree a b (suc i) h k =
      let same = agree a b i (omega arith) (omega arith) in
      successor_only p (a.visits.follows i h) (subst (λ x. Successor s g x (get_or (visited b) (suc i) 0)) (sym same) (b.visits.follows i k))

  -- neither goes further: it would visit the block that returned a second time
  no_longer : {l m : List ℕ} (a : LoopOf s g l) (b : LoopOf s g m) → length (visited a) < length (visited b) → ⊥
  no_longer {l} {m} a b h =
      let v = visited a in
      let w = visited b in
      let size = length-append a.way l in
      let i = pred (length v) in
      let there : suc i ≡ length v = omega (arith, size, a.some) in
      let beyond : suc i < length w = omega (arith, there) in
      let last : get_or w i 0 ≡ get_or l (pred (length l)) 0 = sym (agree a b i (omega (arith, there)) (omega (arith, beyond))) ∙ loop_last a in
      let back : get_or w (suc i) 0 ≡ get_or l 0 0 = successor_only p (subst (λ x. Successor s g x (get_or w (suc i) 0)) last (b.visits.follows i beyond)) a.returns in
      let inside : length a.way < length v = omega (arith, size, a.some) in
      let first : get_or w (length a.way) 0 ≡ get_or l 0 0 = sym (agree a b (length a.way) inside (omega arith)) ∙ loop_first a in
      b.visits.once (length a.way) (suc i) (omega (arith, inside, there)) beyond (first ∙ sym back)

  same_visits : {l m : List ℕ} (a : LoopOf s g l) (b : LoopOf s g m) → visited a ≡ visited b
  same_visits a b =
      let shorter : ¬ (length (visited a) < length (visited b)) = no_longer a b in
      let longer : ¬ (length (visited b) < length (visited a)) = no_longer b a in
      let size : length (visited a) ≡ length (visited b) = omega (arith, shorter, longer) in
      ext_get_or 0 (visited a) (visited b) size (λ i h. agree a b i h (omega (arith, size)))

  pub loop_only : {l m : List ℕ} → LoopOf s g l → LoopOf s g m → l ≡ m
  loop_only {l} {m} a b =
      let v = visited a in
      let same : v ≡ visited b = same_visits a b in
      let last : get_or l (pred (length l)) 0 ≡ get_or m (pred (length m)) 0 = sym (loop_last a) ∙ ap (λ w. get_or w (pred (length w)) 0) same ∙ loop_last b in
      let first : get_or l 0 0 ≡ get_or m 0 0 = successor_only p a.returns (subst (λ x. Successor s g x (get_or m 0 0)) (sym last) b.returns) in
      let size-a = length-append a.way l in
      let size-b = length-append b.way m in
      let sizes : length v ≡ length (visited b) = ap length same in
      let at : length a.way ≡ length b.way =
      one_place v a.visits.once (length a.way) (length b.way) (omega (arith, size-a, a.some)) (omega (arith, sizes, size-b, b.some))
      (loop_first a ∙ first ∙ sym (loop_first b) ∙ ap (λ w. get_or w (length b.way) 0) (sym same)) in
      sym (drop-append_seam a.way l) ∙ ap (drop (length a.way)) same ∙ ap (λ k. drop k (visited b)) at ∙ drop-append_seam b.way m

-- a list is the loop that is computed exactly where it is the loop
pub loop_told : {s g : State} → Problem s g → NoneReady s g → {b : ℕ} → Misplaced s g b → (l : List ℕ) → (loop s g ≡ l) ↔ LoopOf s g l
loop_told {s} {g} p still m l =
    (λ e. subst (LoopOf s g) e (loop_is p still m), λ w. loop_only p.initial (loop_is p still m) w)
