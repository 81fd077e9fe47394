-- The walk of the loop: what serves again of the last one, and what is known after k visits. Assumes nothing.
use Prim.Native.Nat.{ℕ, zero, suc, pred, ◌+◌, ◌-◌, ◌≤◌, ◌<◌}
use mathlib.Core.Path.{◌≡◌, refl, sym, ap, ◌∙◌, subst}
use mathlib.Core.Logic.{◌⊎◌, inl, inr, ◌≢◌}
use mathlib.Core.Bool.{Bool, true, false, not, cond}
use mathlib.Core.List.{List, ◌++◌}
use native.Mathlib.Omega.{arith}
use borrow.Author.Tests.{not-true, not-false, eq-eqb, ne_eqb, eqb-false}
use lib.ListN.{length, get_or, take, drop, set, length-set}
use lib.Seq.{get_or-set_same, get_or-set_other, get_or-take, length-take-le, take-add}
use mir.Syntax.{w16}
use mir.Val.{Fits}
use Rattle.rows.specs.Rows.{Yard, Sized, store, stands_of, seen_of, places_of, Within, row_size}
use Rattle.rows.proofs.RowLaws.{stored, stored_beside, within_none, within_store, sized_within}
use Rattle.lists.specs.Search.{Lowest}
use Rattle.lists.proofs.ReflectLaws.{Reflects, holds, fails, eqb_reflects, from_true, same?}
use Rattle.blocks.specs.State.{State, most, Block}
use Rattle.blocks.specs.Position.{Problem, Misplaced}
use Rattle.blocks.specs.Stall.{Waiting, NoneReady, IsLoop}
use Rattle.blocks.specs.Steps as words
use Rattle.blocks.specs.Steps.{Successor, LoopOf}
use Rattle.blocks.specs.Loop.{successor, loop, lowest_of}
use Rattle.blocks.proofs.PositionLaws.{misplaced_block}
use Rattle.blocks.proofs.StallLaws.{successor_waits, successor_told}
use Rattle.blocks.proofs.LoopLaws.{loop_closed, first_waits}
use Rattle.blocks.proofs.LoopToldLaws.{loop_told}
use Rattle.blocks.proofs.SuccessorLaws.{successor_misplaced}
use Rattle.towers.specs.Linked.{Linked, Findable, Found}
use Rattle.towers.specs.declared.Blocked.{Blocked}
use Rattle.towers.proofs.HighLaws.{right_stands}
use Rattle.problem.specs.Known.{right_in}
use Rattle.statuses.proofs.BeginLaws.{known_within}
use Rattle.std.specs.declared.ops.Range.{Range}
use Rattle.choices.specs.Walks.{Trail, Starts, Walkable, LoopAt, Walked}
use Rattle.choices.specs.Visits.{part, LowestIn, kept_of, seen_in, last_wrong, resumed_in, visit_in, Resumable}
use Rattle.choices.proofs.SpanLaws.{part_size, part_at, lowest_block}
use Rattle.choices.proofs.TrailLaws.{seen_reflects, trail_none, trail_shorter, trail_apart, trail_not, trail_wrong, trail_size}

-- the rows of the walk do not tell of the problem
pub linked_within : {s g : State} {y y' : Yard} → Linked s g y → Within 7 9 y y' → Linked s g y'
linked_within k w =
    record {
      known = known_within k.known w (omega arith);
      towers =
          record {
            bottoms = rw (w.below 3 (omega arith)) k.towers.bottoms;
            tops = rw (w.below 4 (omega arith)) k.towers.tops;
            goal_bottoms = rw (w.below 5 (omega arith)) k.towers.goal_bottoms;
            highs = rw (w.below 6 (omega arith)) k.towers.highs;
          };
    }

-- the walk has come to b after the first k blocks seen
pub record Walking (s g : State) (seen places : List ℕ) (b k : ℕ) : Type 0 where
  pub trail : Trail s g seen places k
  pub waiting : Waiting s g b
  pub last : (i : ℕ) → suc i ≡ k → Successor s g (get_or seen i 0) b
  pub begins : k ≡ 0 → Lowest (Waiting s g) (length s) b
  pub began : k ≢ 0 → Lowest (Waiting s g) (length s) (get_or seen 0 0)

-- where something is resumed, the start is the same, and the walk stands at a kept block that is misplaced by its row
last_wrong_lem : (y : Yard) (k : ℕ) → last_wrong y k ≢ 0 → (last_wrong y k < k) × (right_in (stands_of y) (get_or (seen_of y) (last_wrong y k) 0) ≡ false)
last_wrong_lem y zero n = absurd (n refl)
last_wrong_lem y (suc k) n = by (right_in (stands_of y) (get_or (seen_of y) k 0)) refl n (last_wrong_lem y k)
  where
    x : Bool → ℕ
    x t = cond t (last_wrong y k) k

    by : (t : Bool) → right_in (stands_of y) (get_or (seen_of y) k 0) ≡ t → x t ≢ 0
        → (x true ≢ 0 → (x true < k) × (right_in (stands_of y) (get_or (seen_of y) (x true) 0) ≡ false))
        → (x t < suc k) × (right_in (stands_of y) (get_or (seen_of y) (x t) 0) ≡ false)
    by true e m rest = let r = rest m in (omega (arith, r.0), r.1)
    by false e m rest = (omega arith, e)

resumed_kept : (y : Yard) (start : ℕ) {k : ℕ} → k ≡ resumed_in y start → k ≢ 0
    → (k < kept_of y) × (right_in (stands_of y) (get_or (seen_of y) k 0) ≡ false) × (get_or (seen_of y) 0 0 ≡ start)
unfolding resumed_in
resumed_kept y start {k} e n = go (eqb_reflects (get_or (seen_of y) 0 0) start) e
  where
    go : {t : Bool} → Reflects (get_or (seen_of y) 0 0 ≡ start) t → k ≡ cond t (last_wrong y (kept_of y)) 0
        → (k < kept_of y) × (right_in (stands_of y) (get_or (seen_of y) k 0) ≡ false) × (get_or (seen_of y) 0 0 ≡ start)
    go (fails d) h = absurd (n h)
    go (holds q) h =
        let r = last_wrong_lem y (kept_of y) (λ z. n (h ∙ z)) in
        (omega (arith, h, r.0), ap (λ j. right_in (stands_of y) (get_or (seen_of y) j 0)) h ∙ r.1, q)

module _ {s g : State} {y : Yard} {start : ℕ} (w : Starts s g y start) where
  problem : Problem s g
  problem = w.linked.known.problem

  first_is : Lowest (Waiting s g) (length s) start
  first_is = subst (Lowest (Waiting s g) (length s)) (sym w.first) (first_waits problem w.stalled w.waiting.0)

  begin : {k b : ℕ} → k ≡ resumed_in y start → b ≡ visit_in y start k → Walking s g (seen_of y) (places_of y) b k
  unfolding visit_in
  begin {k} {b} e h = by (same? k 0)
    where
      seen : List ℕ
      seen = seen_of y

      by : (k ≡ 0) ⊎ (¬ (k ≡ 0)) → Walking s g seen (places_of y) b k
      by (inl z) =
          let is : start ≡ b = sym (h ∙ ap (λ t. cond t start (get_or seen k 0)) (eq-eqb k 0 z)) in
          record {
            trail = subst (Trail s g seen (places_of y)) (sym z) trail_none;
            waiting = subst (Waiting s g) is w.waiting;
            last = λ i q. absurd (omega (arith, q, z));
            begins = λ _. subst (Lowest (Waiting s g) (length s)) is first_is;
            began = λ n. absurd (n z);
          }
      by (inr n) =
          let r = resumed_kept y start e n in
          let t = w.trail in
          let high : get_or seen k 0 ≤ length s = (t.blocks k r.0).high in
          let wrong : Misplaced s g (get_or seen k 0) =
          λ i. eqb-false (get_or (stands_of y) (get_or seen k 0) 0) 2 r.1 (right_stands problem w.linked.known.stands high i) in
          let is : get_or seen k 0 ≡ b = sym (h ∙ ap (λ t. cond t start (get_or seen k 0)) (ne_eqb k 0 n)) in
          let leads : (i : ℕ) → suc i ≡ k → Successor s g (get_or seen i 0) (get_or seen k 0) =
          λ i q.
          let here = ap (λ j. get_or seen j 0) q in
          subst (Successor s g (get_or seen i 0)) here (t.follows i (omega (arith, q, r.0)) (subst (Misplaced s g) (sym here) wrong)) in
          record {
            trail = trail_shorter t (omega (arith, r.0));
            waiting = subst (Waiting s g) is (wrong, (leads (pred k) (omega (arith, n))).clear);
            last = λ i q. subst (Successor s g (get_or seen i 0)) is (leads i q);
            begins = λ z. absurd (n z);
            began = λ _. subst (Lowest (Waiting s g) (length s)) (sym r.2) first_is;
          }

-- b is not among them: it is written down, and the walk goes on to its successor
next : {s g : State} {seen places : List ℕ} {b k : ℕ} → Problem s g → NoneReady s g → Walking s g seen places b k → seen_in seen places k b ≡ false
    → k < length seen → b < length places → Walking s g (set seen k b) (set places b k) (successor s g b) (suc k)
next {s} {g} {seen} {places} {b} {k} p still v new room place-room =
    record {
      trail = record {
        blocks = λ i h. blocks i (same? i k) h;
        placed = λ i h. at i (same? i k) h;
        follows = λ i h. follows i (same? (suc i) k) h;
      };
      waiting = (successor_waits p still b v.waiting).0;
      last = λ i h. subst (λ c. Successor s g c (successor s g b)) (sym (here i (omega (arith, h)))) (successor_told p still b v.waiting);
      begins = λ z. absurd (omega (arith, z));
      began = λ _. started (same? k 0);
    }
  where
    t : Trail s g seen places k
    t = v.trail

    here : (i : ℕ) → i ≡ k → get_or (set seen k b) i 0 ≡ b
    here i h = ap (λ j. get_or (set seen k b) j 0) h ∙ get_or-set_same seen k b 0 room

    there : (i : ℕ) → i ≢ k → get_or (set seen k b) i 0 ≡ get_or seen i 0
    there i h = get_or-set_other seen k i b 0 h

    blocks : (i : ℕ) → (i ≡ k) ⊎ (¬ (i ≡ k)) → i < suc k → Block s (get_or (set seen k b) i 0)
    blocks i (inl e) h = subst (Block s) (sym (here i e)) (misplaced_block p.same v.waiting.0)
    blocks i (inr n) h = subst (Block s) (sym (there i n)) (t.blocks i (omega (arith, n)))

    follows : (i : ℕ) → (suc i ≡ k) ⊎ (¬ (suc i ≡ k)) → suc i < suc k → Misplaced s g (get_or (set seen k b) (suc i) 0)
        → Successor s g (get_or (set seen k b) i 0) (get_or (set seen k b) (suc i) 0)
    follows i (inl e) h m = rw (there i (λ q. omega (arith, q)), here (suc i) e) (v.last i e)
    follows i (inr n) h m =
        rw (there i (λ q. omega (arith, q)), there (suc i) n) (t.follows i (omega (arith, n)) (subst (Misplaced s g) (there (suc i) n) m))

    at : (i : ℕ) → (i ≡ k) ⊎ (¬ (i ≡ k)) → i < suc k → get_or (set places b k) (get_or (set seen k b) i 0) 0 ≡ i
    at i (inl e) h = ap (λ c. get_or (set places b k) c 0) (here i e) ∙ get_or-set_same places b k 0 place-room ∙ sym e
    at i (inr n) h =
        let low : i < k = omega (arith, n) in
        ap (λ c. get_or (set places b k) c 0) (there i n) ∙ get_or-set_other places b (get_or seen i 0) k 0 (trail_not t new i low) ∙ t.placed i low

    started : (k ≡ 0) ⊎ (¬ (k ≡ 0)) → Lowest (Waiting s g) (length s) (get_or (set seen k b) 0 0)
    started (inl z) = subst (Lowest (Waiting s g) (length s)) (sym (here 0 (sym z))) (v.begins z)
    started (inr n) = subst (Lowest (Waiting s g) (length s)) (sym (there 0 (λ z. n (sym z)))) (v.began n)

-- b is among them: the loop stands from its place on
finish : {s g : State} {seen places : List ℕ} {b k : ℕ} → Problem s g → NoneReady s g → Walking s g seen places b k → seen_in seen places k b ≡ true
    → k ≤ length seen → LoopAt s g seen (record { start = get_or places b 0; end = k })
finish {s} {g} {seen} {places} {b} {k} p still v old room = record {
  ordered = below;
  within = trail_size v.trail;
  found = sym ((loop_told p still v.waiting.0 l).1 is);
}
  where
    r : ℕ
    r = get_or places b 0

    l : List ℕ
    l = take (k - r) (drop r seen)

    found : (r < k) × (get_or seen r 0 ≡ b)
    found = from_true (seen_reflects seen places k b) old

    below : r < k
    below = found.0

    size : length l ≡ k - r
    size = part_size seen r k room

    whole : take r seen ++ l ≡ take k seen
    whole = let both : k ≡ r + (k - r) = omega (arith, below) in sym (ap (λ j. take j seen) both ∙ take-add r (k - r) seen)

    long : length (take k seen) ≡ k
    long = length-take-le k seen room

    entry : (i : ℕ) → i < k → get_or (take k seen) i 0 ≡ get_or seen i 0
    entry i h = get_or-take k seen i 0 h

    -- the last of them has a successor, so all are misplaced
    wrong : (i : ℕ) → i < k → Misplaced s g (get_or seen i 0)
    wrong i h =
        let end : i + (pred k - i) ≡ pred k = omega (arith, below) in
        trail_wrong v.trail i (pred k - i) (omega (arith, end, below))
        (subst (λ j. Misplaced s g (get_or seen j 0)) (sym end) (successor_misplaced (v.last (pred k) (omega (arith, below)))))

    visited : words.Visits s g (take k seen)
    visited = record {
      follows = λ i h.
          let d : suc i < k = omega (arith, long) in
          rw (entry i (omega (arith, d)), entry (suc i) d) (v.trail.follows i d (wrong (suc i) d));
      once = λ i j h d. rw (entry i (omega (arith, long)), entry j (omega (arith, long))) (trail_apart v.trail i j h (omega (arith, long)));
    }

    is : LoopOf s g l
    is = record {
      way = take r seen;
      visits = subst (words.Visits s g) (sym whole) visited;
      start =
          subst (Lowest (Waiting s g) (length s)) (sym (ap (λ m. get_or m 0 0) whole ∙ entry 0 (omega (arith, below)))) (v.began (λ z. omega (arith, below, z)));
      some = omega (arith, size, below);
      returns =
          let end : r + pred (length l) ≡ pred k = omega (arith, size, below) in
          let start : r + 0 ≡ r = omega arith in
          rw (part_at seen r k room (pred (length l)) (omega (arith, size, below)), end, part_at seen r k room 0 (omega (arith, below)), start, found.1)
          (v.last (pred k) (omega (arith, below)));
    }

-- ---- the same in the rows, of whatever problem they are

pub record Follows (start : ℕ) (y₀ : Yard) (b k : ℕ) (y : Yard) : Type 0 where
  pub some : Walkable y₀ start
  pub every : (s g : State) → Starts s g y₀ start → Walking s g (seen_of y) (places_of y) b k
  pub within : Within 7 9 y₀ y

module _ {y : Yard} {start : ℕ} (w : Walkable y start) where
  kept_in : kept_of y < row_size
  kept_in = omega (arith, trail_size w.starts.trail, w.starts.linked.known.small)

  pub resumable : Resumable y
  resumable = record {
    kept = omega (arith, kept_in);
    blocks = λ i h. omega (arith, (w.starts.trail.blocks i h).high, w.starts.linked.known.small);
  }

  pub resumed_in_lem : {k : ℕ} → k ≡ resumed_in y start → k < row_size
  resumed_in_lem {k} e = by (same? k 0)
    where
      by : (k ≡ 0) ⊎ (¬ (k ≡ 0)) → k < row_size
      by (inl z) = omega (arith, z)
      by (inr n) = omega (arith, (resumed_kept y start e n).0, kept_in)

  pub follows_begin : {k b : ℕ} → k ≡ resumed_in y start → b ≡ visit_in y start k → Follows start y b k y
  follows_begin e h = record { some = w; every = λ s g q. begin q e h; within = within_none }

module _ {start : ℕ} {y₀ : Yard} {b k : ℕ} {y : Yard} (w : Follows start y₀ b k y) where
  here_is : Walking w.some.state w.some.goal (seen_of y) (places_of y) b k
  here_is = w.every w.some.state w.some.goal w.some.starts

  small : length w.some.state ≤ most
  small = w.some.starts.linked.known.small

  pub sized : Sized y
  sized = sized_within w.some.starts.linked.known.sized w.within

  pub block_in : b < row_size
  block_in = omega (arith, (misplaced_block w.some.starts.linked.known.problem.same here_is.waiting.0).high, small)

  pub count_in : k < row_size
  count_in = omega (arith, trail_size here_is.trail, small)

  pub seeable : (k ≤ row_size) × (b < row_size)
  seeable = (omega (arith, count_in), block_in)

  pub block_fits : Fits w16 b
  block_fits = record { fits = omega (arith, block_in) }

  pub count_fits : Fits w16 k
  count_fits = record { fits = omega (arith, count_in) }

  seen_room : k < length (seen_of y)
  seen_room = omega (arith, count_in, sized.rooms 7 (omega arith))

  module _ {t : Bool} (e : t ≡ seen_in (seen_of y) (places_of y) k b) where
    pub walked : {r : ℕ} → not t ≡ false → r ≡ get_or (places_of y) b 0 → Walked start (record { start = r; end = k }) y₀ y
    walked {r} n h =
        record {
          loops = λ s g q.
              rw h (finish q.linked.known.problem q.stalled (w.every s g q) (sym e ∙ not-false t n) (omega (arith, seen_room)));
          trail = λ s g q. (w.every s g q).trail;
          within = w.within;
        }

    module _ (n : not t ≡ true) where
      -- both rows have been written, b's place as v
      abbrev after : ℕ → Yard
      after v = store (store y 8 b v) 7 k b

      seen_in_lem : 7 < length (store y 8 b k)
      seen_in_lem = rw length-set (omega (arith, sized.rows))

      after_within : (v : ℕ) → Within 7 9 y₀ (after v)
      after_within v = within_store 7 k b (within_store 8 b v w.within (omega arith) (omega arith)) (omega arith) (omega arith)

      after_seen : seen_of (after k) ≡ set (seen_of y) k b
      after_seen = stored (store y 8 b k) 7 k b seen_in_lem ∙ ap (λ l. set l k b) (stored_beside y 8 b k 7 (λ z. omega arith))

      after_places : places_of (after k) ≡ set (places_of y) b k
      after_places = stored_beside (store y 8 b k) 7 k b 8 (λ z. omega arith) ∙ stored y 8 b k (omega (arith, sized.rows))

      pub findable : (v : ℕ) → Findable (after v) b
      findable v =
          record {
            state = w.some.state;
            goal = w.some.goal;
            linked = linked_within w.some.starts.linked (after_within v);
            misplaced = here_is.waiting.0;
          }

      pub follows_next : {r : Blocked} → ((s g : State) → Linked s g (after k) → Misplaced s g b → Found s g b r) → Follows start y₀ r.next (k + 1) (after k)
      follows_next {r} f =
          record {
            some = w.some;
            every = λ s g q.
                let v = w.every s g q in
                let one : k + 1 ≡ suc k = omega arith in
                rw (after_seen, after_places, (f s g (linked_within q.linked (after_within k)) v.waiting.0).next, one)
                (next q.linked.known.problem q.stalled v (sym e ∙ not-true t n) seen_room (omega (arith, block_in, sized.rooms 8 (omega arith))));
            within = after_within k;
          }

-- the lowest block of that part is the loop's
pub lowest_on_loop_lem : {s g : State} {seen : List ℕ} {low : ℕ} {r : Range ℕ} → Problem s g → NoneReady s g → {b : ℕ} → Misplaced s g b
    → LoopAt s g seen r → LowestIn (part seen r) low → low ≡ lowest_of s (loop s g)
lowest_on_loop_lem {s} {g} {seen} {low} {r} p still x w f =
    lowest_block s f (λ i h. misplaced_block p.same (closed.waiting i h).0) ∙ ap (lowest_of s) w.found
  where
    closed : IsLoop s g (part seen r)
    closed = subst (IsLoop s g) (sym w.found) (loop_closed p still x)
