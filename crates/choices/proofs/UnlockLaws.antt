-- The block that is put down at a stall, and the walk cut there. Assumes nothing.
use Prim.Native.Nat.{ℕ, ◌+◌, ◌≤◌, ◌<◌}
use mathlib.Core.Path.{◌≡◌, refl, sym, ◌∙◌, subst}
use native.Mathlib.Omega.{arith}
use lib.ListN.{length, get_or}
use Rattle.rows.specs.Rows.{Yard, Sized, row_size, store, seen_of, places_of}
use Rattle.rows.proofs.RowLaws.{within_store, sized_within}
use Rattle.blocks.specs.State.{State}
use Rattle.blocks.specs.Stall.{Perched, Moves, clears}
use Rattle.blocks.specs.Method.{lowest_on_loop}
use Rattle.blocks.proofs.MethodLaws.{loop_picked}
use Rattle.std.specs.declared.ops.Range.{Range}
use Rattle.choices.specs.Visits.{part, LowestIn}
use Rattle.choices.specs.Walks.{Starts, Walkable, Walked, Unlocked}
use Rattle.choices.proofs.ChoiceLaws.{counted}
use Rattle.choices.proofs.SpanLaws.{part_size, part_at}
use Rattle.choices.proofs.TrailLaws.{trail_place, kept_beside, trail_cut}
use Rattle.choices.proofs.WalkLaws.{lowest_on_loop_lem}

module _ {y : Yard} {start : ℕ} (w : Walkable y start) {r : Range ℕ} {y' : Yard} (a : Walked start r y y') where
  sized : Sized y'
  sized = sized_within w.starts.linked.known.sized a.within

  pub span_within : (r.start < r.end) × (r.end ≤ length (seen_of y'))
  span_within =
      let l = a.loops w.state w.goal w.starts in
      (l.ordered, omega (arith, l.within, w.starts.linked.known.small, sized.rooms 7 (omega arith)))

  module _ {c : ℕ} (h : LowestIn (part (seen_of y') r) c) where
    -- it stands on the walk
    abbrev place : ℕ
    place = r.start + h.place

    there : (place < r.end) × (get_or (seen_of y') place 0 ≡ c)
    there =
        let high = span_within.1 in
        let inside : place < r.end = omega (arith, h.within, part_size (seen_of y') r.start r.end high) in
        (inside, sym (h.is ∙ part_at (seen_of y') r.start r.end high h.place inside))

    pub low_in : c < row_size
    low_in =
        let b = (a.trail w.state w.goal w.starts).blocks place there.0 in
        omega (arith, there.1, b.high, w.starts.linked.known.small)

    is_lowest : (s g : State) → Starts s g y start → c ≡ lowest_on_loop s g
    unfolding lowest_on_loop
    is_lowest s g q = lowest_on_loop_lem q.linked.known.problem q.stalled q.waiting.0 (a.loops s g q) h

    put_down : (s g : State) → Starts s g y start → Moves s g c 0
    put_down s g q =
        let p = q.linked.known.problem in
        clears (subst (Perched s g) (sym (is_lowest s g q)) (loop_picked g s p q.stalled (counted p q.waiting.0))) refl

    stands_there : get_or (places_of y') c 0 ≡ place
    stands_there = trail_place (a.trail w.state w.goal w.starts) place c there.0 there.1

    pub unlocked : {y₂ : Yard} → y₂ ≡ store y' 8 0 (get_or (places_of y') c 0) → Unlocked start c y y₂
    unlocked e =
        rw (e, stands_there) (record {
          lowest = is_lowest;
          kept = kept_beside sized place ∙ there.1;
          trail = λ s g q. trail_cut sized q.linked.known.problem (put_down s g q) (a.trail s g q) there.0 there.1;
          within = within_store 8 0 place a.within (omega arith) (omega arith);
        })
