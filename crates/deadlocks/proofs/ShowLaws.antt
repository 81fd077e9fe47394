-- Writing the loop as rows: what is known after i blocks. Idea: from its lowest block onward the loop is closed under successors, so each successor is
-- the next block. Assumes nothing.
use Prim.Native.Nat.{ℕ, suc, ◌+◌, ◌*◌, ◌≤◌, ◌<◌}
use mathlib.Core.Path.{◌≡◌, refl, sym, ap, ap₂, ◌∙◌}
use mathlib.Core.List.{List, [], ◌∷◌, ◌++◌}
use native.Mathlib.Omega.{arith}
use native.Mathlib.Numerals.{add-one}
use lib.ListN.{length, get_or, take, set, length-set}
use lib.Seq.{sets, length-sets, take-suc, take_all, length-take-le}
use Rattle.rows.specs.Rows.{Yard}
use Rattle.blocks.specs.State.{State}
use Rattle.blocks.specs.Position.{Problem, Misplaced}
use Rattle.blocks.specs.Deadlock.{wrap}
use Rattle.blocks.specs.Stall.{Waiting, IsLoop}
use Rattle.blocks.specs.Tests.{nearest}
use Rattle.blocks.specs.Loop.{blocker, successor, loop, onward, blocked_rows, shown_width}
use Rattle.lists.specs.Lists.{overwrite}
use Rattle.lists.proofs.ReflectLaws.{to_true, ltb_reflects}
use Rattle.blocks.proofs.PositionLaws.{misplaced_block}
use Rattle.blocks.proofs.NearestLaws.{nearest_is}
use Rattle.blocks.proofs.StallLaws.{successor_waits}
use Rattle.blocks.proofs.LoopLaws.{onward_closed, onward_length, onward_first}
use Rattle.blocks.proofs.DeadlockTestLaws.{rows_length}
use Rattle.towers.specs.Linked.{Linked, Findable, Found}
use Rattle.towers.specs.declared.Blocked.{Blocked}
use Rattle.towers.proofs.BottomLaws.{down_inside}
use Rattle.lists.proofs.WriteLaws.{sets_append, sets_front}
use Rattle.deadlocks.specs.Looks.{row_at, Shows, Showable}

-- i blocks are written, and b is the next
pub record Showing (s g : State) (out₀ : List ℕ) (count : ℕ) (out : List ℕ) (b i : ℕ) : Type 0 where
  pub within : i ≤ count
  pub here : i < count → b ≡ get_or (onward s (loop s g)) i 0
  pub written : out ≡ sets out₀ 0 (blocked_rows s g (take i (onward s (loop s g))))

-- the k-th row where it is written, and as the writing of a list at a place
row_at_lem : (out : List ℕ) (k at b x y : ℕ) → shown_width * k ≡ at → row_at out k b x y ≡ set (set (set out at b) (suc at) x) (suc (suc at)) y
row_at_lem out k at b x y e =
    let one : shown_width * k + 1 ≡ suc at = omega (arith, e) in
    let two : shown_width * k + 2 ≡ suc (suc at) = omega (arith, e) in
    rw (one, two, e)

pub second_in : (out : List ℕ) (k b : ℕ) → shown_width * k + 2 < length out → shown_width * k + 1 < length (set out (shown_width * k) b)
second_in out k b h = omega (arith, h, length-set out (shown_width * k) b)

row_long : (out : List ℕ) (k b x y : ℕ) → length (row_at out k b x y) ≡ length out
row_long out k b x y =
    let w = shown_width * k in
    length-set (set (set out w b) (w + 1) x) (w + 2) y ∙ length-set (set out w b) (w + 1) x ∙ length-set out w b

-- one block more
rows_snoc : (s g : State) (l : List ℕ) (b : ℕ) → blocked_rows s g (l ++ (b ∷ [])) ≡ blocked_rows s g l ++ (b ∷ blocker s g b ∷ nearest s g b ∷ [])
unfolding blocked_rows
rows_snoc s g [] b = refl
rows_snoc s g (c ∷ l) b = ap (λ r. c ∷ blocker s g c ∷ nearest s g c ∷ r) (rows_snoc s g l b)

module _ {s g : State} {y : Yard} {low count : ℕ} (w : Shows s g y low count) (out₀ : List ℕ) (room : shown_width * count ≤ length out₀) where
  p : Problem s g
  p = w.linked.known.problem

  blocks : List ℕ
  blocks = onward s (loop s g)

  closed : IsLoop s g (onward s (loop s g))
  closed = onward_closed p w.closed

  long : length (onward s (loop s g)) ≡ count
  long = onward_length s (loop s g) ∙ sym w.size

  begin : Showing s g out₀ count out₀ low 0
  unfolding blocked_rows
  begin = record { within = omega arith; here = λ h. w.first ∙ sym (onward_first p w.closed); written = refl }

  module _ {out : List ℕ} {b i : ℕ} (v : Showing s g out₀ count out b i) (h : i < count) where
    inside : i < length (onward s (loop s g))
    inside = omega (arith, h, long)

    waits : Waiting s g b
    waits = rw (v.here h) (closed.waiting i inside)

    row_fits : shown_width * i + 2 < length out
    row_fits = omega (arith, h, room, ap length v.written ∙ length-sets out₀ 0 (blocked_rows s g (take i (onward s (loop s g)))))

    block_fits : b < 65536
    block_fits = omega (arith, w.linked.known.small, (misplaced_block p.same waits.0).high)

    beside_fits : {r : Blocked} → Found s g b r → r.by < 65536
    beside_fits {r} f =
        let above = (successor_waits p w.stalled b waits).2 in
        let block = misplaced_block p.same waits.0 in
        let high : blocker s g b ≤ length g = rw (sym above.reaches) (down_inside p.goal (suc above.steps) b (omega (arith, block.high, p.same))) in
        omega (arith, w.linked.known.small, high, f.by, p.same)

    third_fits : {r : Blocked} → Found s g b r → r.above < 65536
    third_fits {r} f =
        let c = nearest_is p b waits.0 in
        let block = misplaced_block p.same waits.0 in
        let high : nearest s g b ≤ length g = rw (sym c.beneath) (down_inside p.goal (suc c.steps) b (omega (arith, block.high, p.same))) in
        omega (arith, w.linked.known.small, high, f.above, p.same)

    next_shown : {r : Blocked} {out' : List ℕ} → Found s g b r → out' ≡ row_at out i b r.by r.above
        → Showing s g out₀ count out' r.next (i + 1)
    next_shown {r} f o =
        record {
          within = omega (arith, h);
          here = λ k.
              f.next
              ∙ ap (successor s g) (v.here h)
              ∙ closed.follows i inside
              ∙ ap (λ t. get_or (onward s (loop s g)) (wrap t (suc i)) 0) (to_true (ltb_reflects (suc i) (length (onward s (loop s g)))) (omega (arith, k, long)))
              ∙ ap (λ j. get_or (onward s (loop s g)) j 0) (sym (add-one i));
          written =
              o
              ∙ ap₂ (λ x y. row_at out i b x y) f.by f.above
              ∙ ap (λ o. row_at o i b (blocker s g b) (nearest s g b)) v.written
              ∙ row_at_lem (sets out₀ 0 rows) i (0 + length rows) b (blocker s g b) (nearest s g b) at
              ∙ sym (sets_append out₀ 0 rows (b ∷ blocker s g b ∷ nearest s g b ∷ []))
              ∙ ap (sets out₀ 0) (sym more);
        }
      where
        rows : List ℕ
        rows = blocked_rows s g (take i (onward s (loop s g)))

        at : shown_width * i ≡ 0 + length (blocked_rows s g (take i (onward s (loop s g))))
        at = omega (arith, rows_length s g (take i (onward s (loop s g))), length-take-le i (onward s (loop s g)) (omega (arith, inside)))

        more : blocked_rows s g (take (i + 1) (onward s (loop s g))) ≡ blocked_rows s g (take i (onward s (loop s g))) ++ (b ∷ blocker s g b ∷ nearest s g b ∷ [])
        more =
            ap (λ j. blocked_rows s g (take j (onward s (loop s g)))) (add-one i)
            ∙ ap (blocked_rows s g) (take-suc (onward s (loop s g)) i 0 inside)
            ∙ ap (λ c. blocked_rows s g (take i (onward s (loop s g)) ++ (c ∷ []))) (sym (v.here h))
            ∙ rows_snoc s g (take i (onward s (loop s g))) b

  -- all are written
  finish : {out : List ℕ} {b i : ℕ} → Showing s g out₀ count out b i → count ≤ i → out ≡ overwrite (blocked_rows s g (onward s (loop s g))) out₀
  finish {out} {b} {i} v h =
      v.written
      ∙ ap (λ m. sets out₀ 0 (blocked_rows s g m)) (take_all i (onward s (loop s g)) (omega (arith, h, long)))
      ∙ sets_front (blocked_rows s g (onward s (loop s g))) out₀ (omega (arith, rows_length s g (onward s (loop s g)), long, room))

-- ---- the same of whatever problem the rows are

pub record Writing (y : Yard) (low count : ℕ) (out₀ : List ℕ) (b i : ℕ) (out : List ℕ) : Type 0 where
  pub some : Showable y out₀ low count
  pub every : (s g : State) → Shows s g y low count → Showing s g out₀ count out b i
  pub long : length out ≡ length out₀

pub writing_begin : {y : Yard} {low count : ℕ} {out : List ℕ} → Showable y out low count → Writing y low count out low 0 out
writing_begin w = record { some = w; every = λ s g h. begin h _ w.room; long = refl }

module _ {y : Yard} {low count : ℕ} {out₀ : List ℕ} {b i : ℕ} {out : List ℕ} (w : Writing y low count out₀ b i out) where
  here_is : Showing w.some.state w.some.goal out₀ count out b i
  here_is = w.every w.some.state w.some.goal w.some.shows

  pub writing_end : count ≤ i → (s g : State) → Shows s g y low count → out ≡ overwrite (blocked_rows s g (onward s (loop s g))) out₀
  writing_end h s g v = finish v out₀ w.some.room (w.every s g v) h

  module _ (h : i < count) where
    pub may_find : Findable y b
    may_find =
        record {
          state = w.some.state;
          goal = w.some.goal;
          linked = w.some.shows.linked;
          misplaced = (waits w.some.shows out₀ w.some.room here_is h).0;
        }

    module _ {r : Blocked} (f : (s g : State) → Linked s g y → Misplaced s g b → Found s g b r) where
      found : (s g : State) → Shows s g y low count → Found s g b r
      found s g v = f s g v.linked (waits v out₀ w.some.room (w.every s g v) h).0

      pub may_write : (shown_width * i + 2 < length out) × (b < 65536) × (r.by < 65536) × (r.above < 65536)
      may_write =
          let v = w.some.shows in (
            row_fits v out₀ w.some.room here_is h,
            block_fits v out₀ w.some.room here_is h,
            beside_fits v out₀ w.some.room here_is h (found w.some.state w.some.goal v),
            third_fits v out₀ w.some.room here_is h (found w.some.state w.some.goal v),
          )

      pub writing_next : {out' : List ℕ} → out' ≡ row_at out i b r.by r.above → Writing y low count out₀ r.next (i + 1) out'
      writing_next {out'} o =
          record {
            some = w.some;
            every = λ s g v. next_shown v out₀ w.some.room (w.every s g v) h (found s g v) o;
            long = ap length o ∙ row_long out i b r.by r.above ∙ w.long;
          }
