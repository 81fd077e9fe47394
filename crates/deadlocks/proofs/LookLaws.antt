-- Looking at a state in which no block is ready: nothing waits and nothing is misplaced, or the loop is written. Assumes nothing.
use Prim.Native.Nat.{ℕ, ◌*◌, ◌-◌, ◌≤◌, ◌<◌}
use mathlib.Core.Path.{◌≡◌, refl, sym, ap, ◌∙◌}
use mathlib.Core.Logic.{◌≢◌}
use mathlib.Core.Bool.{false, cond}
use mathlib.Core.List.{List, []}
use native.Mathlib.Omega.{arith}
use borrow.Author.Tests.{eq-eqb, ne_eqb}
use lib.ListN.{length, drop, length-drop}
use lib.Seq.{length-take-le}
use mir.Syntax.{w64}
use mir.Val.{Fits}
use Rattle.std.specs.Prelude.{Some, None}
use Rattle.std.specs.declared.ops.Range.{Range}
use Rattle.lists.specs.Search.{lowest, nonzero}
use Rattle.lists.proofs.NonzeroLaws.{nonzero_none, nonzero_some, none_zero, some_is, some_nonzero}
use Rattle.lists.specs.Lists.{overwrite}
use Rattle.rows.specs.Rows.{Yard, seen_of}
use Rattle.blocks.specs.State.{State}
use Rattle.blocks.specs.Tests.{misplaced_count}
use Rattle.blocks.specs.Loop.{loop, onward, blocked_rows}
use Rattle.blocks.proofs.LoopLaws.{loop_closed, loop_short, onward_length}
use Rattle.numberset.specs.Members.{member, highest}
use Rattle.choices.specs.Walks.{Starts, Walkable, LoopAt, Walked}
use Rattle.choices.specs.Visits.{part, LowestIn}
use Rattle.statuses.specs.declared.Sets.{Sets}
use Rattle.choices.proofs.ChoiceLaws.{counted}
use Rattle.choices.proofs.WalkLaws.{linked_within, lowest_on_loop_lem}
use Rattle.choices.proofs.PickLaws as pick
use Rattle.deadlocks.specs.Looks.{Shows, Showable, Looks, Lookable, Looked, loop_of}

-- nothing is misplaced, so there is no loop to write
pub nothing : {s g : State} (out : List ℕ) → misplaced_count s g ≡ 0 → Looked s g out None out
unfolding blocked_rows
nothing {s} {g} out none = record { count = nonzero_none (ap length empty); written = by (loop_of s g) empty }
  where
    empty : loop_of s g ≡ []
    empty = ap (λ t. cond t [] (onward s (loop s g))) (eq-eqb (misplaced_count s g) 0 none)

    by : (m : List ℕ) → m ≡ [] → out ≡ overwrite (blocked_rows s g m) out
    by m h = rw h refl

module _ {y : Yard} {z : Sets} {out : List ℕ} (w : Lookable y z out) where
  pub loose_may : member z.loose 0 ≡ false
  loose_may = pick.loose_may w.looks.kept

  -- nothing waits, so nothing is misplaced
  pub none_way : None ≡ nonzero (lowest (member z.loose) highest) → (s g : State) → Looks s g y z → Looked s g out None out
  none_way e s g q = nothing out (pick.start_none q.kept refl refl (none_zero (lowest (member z.loose) highest) (sym e)))

  module _ {start : ℕ} (some : Some start ≡ nonzero (lowest (member z.loose) highest)) where
    e : start ≡ lowest (member z.loose) highest
    e = sym (some_is (lowest (member z.loose) highest) (sym some))

    n : start ≢ 0
    n = some_nonzero (lowest (member z.loose) highest) (sym some)

    begins : (s g : State) → Looks s g y z → Starts s g y start
    begins s g q = pick.starts q.kept refl e q.stalled n q.trail

    pub walkable : Walkable y start
    walkable = record { state = w.state; goal = w.goal; starts = begins w.state w.goal w.looks }

    module _ {r : Range ℕ} {y' : Yard} (v : Walked start r y y') where
      looped : (s g : State) → Looks s g y z → LoopAt s g (seen_of y') r
      looped s g q = v.loops s g (begins s g q)

      here_is : LoopAt w.state w.goal (seen_of y') r
      here_is = looped w.state w.goal w.looks

      pub in_order : r.start ≤ r.end
      in_order = omega (arith, here_is.ordered)

      pub part_within : r.end ≤ length (seen_of y')
      part_within = omega (arith, here_is.within, w.looks.kept.known.small, w.looks.kept.known.sized.rooms 7 (omega arith), v.within.long 7)

      pub part_scaled : Fits w64 (r.start * 2)
      part_scaled = record { fits = omega (arith, here_is.ordered, here_is.within, w.looks.kept.known.small) }

      part_length : length (part (seen_of y') r) ≡ r.end - r.start
      part_length = length-take-le (r.end - r.start) (drop r.start (seen_of y')) (omega (arith, length-drop r.start (seen_of y'), part_within))

      pub part_some : 0 < length (part (seen_of y') r)
      part_some = omega (arith, part_length, here_is.ordered)

      size : (s g : State) → Looks s g y z → r.end - r.start ≡ length (loop s g)
      size s g q = sym part_length ∙ ap length (looped s g q).found

      module _ {low count : ℕ} (l : LowestIn (part (seen_of y') r) low) (c : count ≡ r.end - r.start) where
        shows : (s g : State) → Looks s g y z → Shows s g y' low count
        shows s g q =
            let p = q.kept.known.problem in
            let waits = pick.start_waits q.kept refl e n in
            record {
              linked = linked_within (pick.linked q.kept refl) v.within;
              stalled = q.stalled;
              closed = loop_closed p q.stalled waits.0;
              first = lowest_on_loop_lem p q.stalled waits.0 (looped s g q) l;
              size = c ∙ size s g q;
            }

        pub showable : Showable y' out low count
        showable =
            let waits = pick.start_waits w.looks.kept refl e n in
            record {
              state = w.state;
              goal = w.goal;
              shows = shows w.state w.goal w.looks;
              room = omega (arith, c, size w.state w.goal w.looks, w.room, loop_short w.looks.kept.known.problem w.looks.stalled waits.0);
            }

        -- the loop is written
        pub loop_way : {out' : List ℕ} → ((s g : State) → Shows s g y' low count → out' ≡ overwrite (blocked_rows s g (onward s (loop s g))) out)
            → (s g : State) → Looks s g y z → Looked s g out (Some count) out'
        loop_way o s g q =
            let waits = pick.start_waits q.kept refl e n in
            let whole : loop_of s g ≡ onward s (loop s g) = ap (λ t. cond t [] (onward s (loop s g))) (ne_eqb (misplaced_count s g) 0 (counted q.kept.known.problem waits.0)) in
            let long : count ≡ length (loop_of s g) = c ∙ size s g q ∙ sym (onward_length s (loop s g)) ∙ ap length (sym whole) in
            record {
              count = nonzero_some count (omega (arith, c, here_is.ordered)) ∙ ap nonzero long;
              written = o s g (shows s g q) ∙ ap (λ m. overwrite (blocked_rows s g m) out) (sym whole);
            }
