-- A trail of blocks seen: which blocks are on it, how long it can be, what a move leaves of it, and how it is kept in the rows. Assumes nothing.
use Prim.Native.Nat.{ℕ, zero, suc, ◌+◌, ◌≤◌, ◌<◌}
use mathlib.Core.Path.{◌≡◌, refl, sym, ap, ◌∙◌, subst}
use mathlib.Core.Logic.{◌⊎◌, inl, inr, ◌≢◌}
use mathlib.Core.Bool.{Bool, false, ◌&&◌, and-false}
use mathlib.Core.List.{List}
use native.Mathlib.Omega.{arith}
use borrow.Author.Tests.{ne_eqb}
use lib.Dec.{eqb, ltb}
use lib.ListN.{length, get_or, set}
use lib.Seq.{get_or-set_same, get_or-set_other}
use Rattle.rows.specs.Rows.{Yard, Sized, Within, seen_of, places_of, store}
use Rattle.rows.proofs.RowLaws.{stored, stored_beside}
use Rattle.lists.specs.Search.{count}
use Rattle.lists.proofs.ReflectLaws.{Reflects, holds, fails, reflects_and, from_false, to_true, to_false, eqb_reflects, ltb_reflects, same?}
use Rattle.lists.proofs.SearchLaws.{count_le, count_none, count_one_more}
use Rattle.blocks.specs.State.{State, put}
use Rattle.blocks.specs.Position.{Problem, InPosition, Misplaced}
use Rattle.blocks.specs.Move.{Constructive}
use Rattle.blocks.specs.Stall.{Moves, builds}
use Rattle.blocks.proofs.StateLaws.{length-put}
use Rattle.blocks.proofs.FrameLaws.{position_frame}
use Rattle.blocks.proofs.PositionLaws.{position_moved}
use Rattle.blocks.proofs.StepLaws.{moves_legal}
use Rattle.blocks.proofs.SuccessorLaws.{successor_misplaced, successor_kept}
use Rattle.statuses.specs.declared.Mode.{Mode}
use Rattle.choices.specs.Visits.{seen_in, kept_of}
use Rattle.choices.specs.Walks.{Trail, KeptTrail, KeptWalk, Unvisited}

-- ---- which blocks are on it

pub seen_reflects : (seen places : List ℕ) (k b : ℕ) → Reflects ((get_or places b 0 < k) × (get_or seen (get_or places b 0) 0 ≡ b)) (seen_in seen places k b)
unfolding seen_in
seen_reflects seen places k b = reflects_and (ltb_reflects (get_or places b 0) k) (eqb_reflects (get_or seen (get_or places b 0) 0) b)

pub trail_none : {s g : State} {seen places : List ℕ} → Trail s g seen places 0
trail_none = record {
  blocks = λ i h. absurd (omega arith);
  placed = λ i h. absurd (omega arith);
  follows = λ i h. absurd (omega arith);
}

module _ {s g : State} {seen places : List ℕ} {k : ℕ} (t : Trail s g seen places k) where
  pub trail_shorter : {j : ℕ} → j ≤ k → Trail s g seen places j
  trail_shorter h = record {
    blocks = λ i d. t.blocks i (omega arith);
    placed = λ i d. t.placed i (omega arith);
    follows = λ i d. t.follows i (omega arith);
  }

  -- a block on it stands at its place alone
  pub trail_place : (i b : ℕ) → i < k → get_or seen i 0 ≡ b → get_or places b 0 ≡ i
  trail_place i b h e = ap (λ c. get_or places c 0) (sym e) ∙ t.placed i h

  pub trail_apart : (i j : ℕ) → i < j → j < k → get_or seen i 0 ≢ get_or seen j 0
  trail_apart i j h d e = let same : j ≡ i = sym (t.placed j d) ∙ trail_place i (get_or seen j 0) (omega arith) e in omega (arith, same)

  pub trail_not : {b : ℕ} → seen_in seen places k b ≡ false → (i : ℕ) → i < k → get_or seen i 0 ≢ b
  trail_not {b} n i h e =
      let there = trail_place i b h e in
      from_false (seen_reflects seen places k b) n (omega (arith, there, h), ap (λ j. get_or seen j 0) there ∙ e)

  -- what comes before a misplaced block on it is misplaced
  pub trail_wrong : (i d : ℕ) → i + d < k → Misplaced s g (get_or seen (i + d) 0) → Misplaced s g (get_or seen i 0)
  trail_wrong i zero h m = let here : i + 0 ≡ i = omega arith in subst (λ j. Misplaced s g (get_or seen j 0)) here m
  trail_wrong i (suc d) h m =
      let next : i + suc d ≡ suc (i + d) = omega arith in
      trail_wrong i d (omega arith) (successor_misplaced (t.follows (i + d) (omega arith) (subst (λ j. Misplaced s g (get_or seen j 0)) next m)))

  -- ---- how long it can be: one step along it, one block more

  seen_same : (j c : ℕ) → c ≢ get_or seen j 0 → seen_in seen places (suc j) c ≡ seen_in seen places j c
  unfolding seen_in
  seen_same j c n = by (same? (get_or places c 0) j)
    where
      x : ℕ
      x = get_or places c 0

      by : (x ≡ j) ⊎ (¬ (x ≡ j)) → (ltb x (suc j) && eqb (get_or seen x 0) c) ≡ (ltb x j && eqb (get_or seen x 0) c)
      by (inl e) =
          let off : eqb (get_or seen x 0) c ≡ false = ne_eqb (get_or seen x 0) c (λ q. n (sym q ∙ ap (λ i. get_or seen i 0) e)) in
          rw off (and-false (ltb x (suc j)) ∙ sym (and-false (ltb x j)))
      by (inr d) = ap (λ u. u && eqb (get_or seen x 0) c) (less (ltb_reflects x (suc j)) (ltb_reflects x j))
        where
          less : {u v : Bool} → Reflects (x < suc j) u → Reflects (x < j) v → u ≡ v
          less (holds a) (holds b) = refl
          less (holds a) (fails b) = absurd (b (omega (arith, a, d)))
          less (fails a) (holds b) = absurd (a (omega arith))
          less (fails a) (fails b) = refl

  counted : (j : ℕ) → j ≤ k → count (seen_in seen places j) (length s) ≡ j
  counted zero h = count_none (seen_in seen places 0) (length s) (λ c _ _. to_false (seen_reflects seen places 0 c) (λ w. absurd (omega (arith, w.0))))
  counted (suc j) h =
      let b = get_or seen j 0 in
      let low : j < k = omega arith in
      let there = t.placed j low in
      let block = t.blocks j low in
      count_one_more (seen_in seen places (suc j)) (seen_in seen places j) (length s) b block.low block.high
      (to_true (seen_reflects seen places (suc j) b) (omega (arith, there), ap (λ i. get_or seen i 0) there))
      (to_false (seen_reflects seen places j b) (λ w. absurd (omega (arith, there, w.0))))
      (λ c _ _ n. seen_same j c n)
      ∙ ap suc (counted j (omega arith))

  pub trail_size : k ≤ length s
  trail_size = omega (arith, counted k (omega arith), count_le (seen_in seen places k) (length s))

  -- ---- a move leaves it, where a block on it that is moved is brought home

  trail_moved : {a z : ℕ} → Problem s g → Moves s g a z → ((i : ℕ) → i < k → Misplaced (put s a z) g (get_or seen i 0) → get_or seen i 0 ≢ a)
      → Trail (put s a z) g seen places k
  trail_moved {a} {z} p m off = record {
    blocks = λ i h. let b = t.blocks i h in record { low = b.low; high = omega (arith, b.high, length-put s a z) };
    placed = t.placed;
    follows = λ i h n.
        let before : Misplaced s g (get_or seen (suc i) 0) = λ q. n (position_frame (moves_legal p m) (off (suc i) h n) q) in
        successor_kept p m (off (suc i) h n) before (t.follows i h before);
  }

-- ---- in the rows

pub nothing_kept : {m : Mode} {s g : State} {y : Yard} → kept_of y ≡ 0 → KeptWalk m s g y
nothing_kept {m} {s} {g} {y} e = record { trail = subst (Trail s g (seen_of y) (places_of y)) (sym e) trail_none; none = λ _. e }

-- the other rows do not tell of it
pub visits_within : {m : Mode} {s g : State} {y y' : Yard} {lo : ℕ} → Within lo 7 y y' → KeptWalk m s g y → KeptWalk m s g y'
visits_within w v =
    let seen = w.above 7 (omega arith) in
    let places = w.above 8 (omega arith) in
    record { trail = rw (seen, places) v.trail; none = λ off. rw places (v.none off) }

pub unvisited_within : {y y' : Yard} {lo hi : ℕ} → Within lo hi y y' → hi ≤ 8 → Unvisited y → Unvisited y'
unvisited_within w h u = record { none = rw (w.above 8 h) u.none }

-- how many are kept is stored at the place of the table, which is not on the trail
module _ {y : Yard} (r : Sized y) (k : ℕ) where
  places_stored : places_of (store y 8 0 k) ≡ set (places_of y) 0 k
  places_stored = stored y 8 0 k (omega (arith, r.rows))

  kept_stored : kept_of (store y 8 0 k) ≡ k
  kept_stored = rw places_stored (get_or-set_same (places_of y) 0 k 0 (omega (arith, r.rooms 8 (omega arith))))

  -- the block behind those kept
  pub kept_beside : get_or (seen_of (store y 8 0 k)) (kept_of (store y 8 0 k)) 0 ≡ get_or (seen_of y) k 0
  kept_beside = rw (kept_stored, stored_beside y 8 0 k 7 (λ z. omega arith))

  trail_stored : {s g : State} → Trail s g (seen_of y) (places_of y) k → KeptTrail s g (store y 8 0 k)
  trail_stored {s} {g} t = rw (kept_stored, stored_beside y 8 0 k 7 (λ z. omega arith), places_stored) (record {
    blocks = t.blocks;
    placed = λ i h. get_or-set_other (places_of y) 0 (get_or (seen_of y) i 0) k 0 (λ z. absurd (omega (arith, z, (t.blocks i h).low))) ∙ t.placed i h;
    follows = t.follows;
  })

-- ---- the run's moves

-- a block is brought home: nothing has to be cut
pub visits_built : {m : Mode} {s g : State} {y : Yard} {a x : ℕ} → Problem s g → Constructive s g a x → KeptWalk m s g y → KeptWalk m (put s a x) g y
visits_built {m} {s} {g} {y} {a} {x} p c v =
    record {
      trail = trail_moved v.trail p (builds c) (λ i h n e. n (subst (InPosition (put s a x) g) (sym e) (position_moved c)));
      none = v.none;
    }

-- the block at j is put down: those before it stay
pub trail_cut : {s g : State} {y : Yard} {k j a z : ℕ} → Sized y → Problem s g → Moves s g a z → Trail s g (seen_of y) (places_of y) k → j < k
    → get_or (seen_of y) j 0 ≡ a → KeptTrail (put s a z) g (store y 8 0 j)
trail_cut {j = j} r p m t h e = trail_stored r j (trail_moved (trail_shorter t (omega arith)) p m (λ i l n q. trail_apart t i j l h (q ∙ sym e)))
