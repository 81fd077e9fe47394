-- A turn of one move: what each of its steps may rely on, and what is kept when all are done. Assumes nothing.
use Prim.Native.Nat.{ℕ, ◌-◌, ◌≤◌}
use mathlib.Core.Path.{◌≡◌, sym, ap, ◌∙◌}
use mathlib.Core.Logic.{◌⊎◌, inl, inr, ◌≢◌}
use mathlib.Core.Bool.{Bool, false, not}
use mathlib.Core.List.{List}
use native.Mathlib.Omega.{arith}
use borrow.Author.Tests.{not-false}
use lib.ListN.{length, get_or, set}
use Rattle.rows.specs.Rows.{Yard, Sized, row, loads_of, stands_of, Within}
use Rattle.rows.proofs.RowLaws.{row_set, row_beside, within_set, within_then, within_wider, sized_within}
use Rattle.lists.proofs.ReflectLaws.{same?}
use Rattle.blocks.specs.State.{State, support, put}
use Rattle.blocks.specs.Position.{Problem}
use Rattle.blocks.specs.Move.{Legal}
use Rattle.blocks.specs.Tests.{readyᵇ}
use Rattle.blocks.proofs.StateLaws.{length-put, support_at}
use Rattle.blocks.proofs.FrameLaws.{problem_moved}
use Rattle.blocks.proofs.StepLaws.{moves_legal}
use Rattle.problem.specs.Known.{Movable, MovedTo}
use Rattle.towers.specs.Towers.{Bottoms}
use Rattle.towers.specs.Linked.{Known, Towered}
use Rattle.towers.specs.Moved.{Shifting, Shifted, restood, Raisable, raised}
use Rattle.towers.proofs.RestandLaws as restand
use Rattle.statuses.specs.Modes.{walksᵇ, looseᵇ}
use Rattle.statuses.specs.Kept.{SetsHold, Moving, Traceable, Traced, Turnable, Turned}
use Rattle.statuses.specs.declared.Mode.{Mode}
use Rattle.statuses.specs.declared.Sets.{Sets}
use Rattle.statuses.proofs.SetsLaws.{no_ready, no_loose, table_outside}
use Rattle.statuses.proofs.ChangeLaws.{loose_same, ready_same, loose_stays, ready_stays}

-- ---- the towers follow the move

module _ {m : Mode} {s g : State} {y : Yard} {a x : ℕ} (w : Traceable m s g y a x) {r : Bool} (e : r ≡ walksᵇ m) where
  module _ (n : not r ≡ false) where
    towers : Towered s g y
    towers = w.towers (sym e ∙ not-false r n)

    pub shifting : Shifting s y a x
    shifting =
        let p = w.known.problem in
        record {
          small = w.known.small;
          proper = p.initial;
          legal = moves_legal p w.move;
          sized = w.known.sized;
          bottoms = towers.bottoms;
          tops = towers.tops;
        }

    module _ {y₁ : Yard} (f : Shifted s a x y y₁) where
      roots : Bottoms g (row y₁ 5)
      roots = rw (f.within.above 5 (omega arith)) towers.goal_bottoms

      sized₁ : Sized y₁
      sized₁ = sized_within w.known.sized f.within

      pub raisable : Raisable g y₁ a
      raisable = restand.raisable w.known.problem w.move sized₁ w.known.small roots

      pub traced : {y₂ : Yard} → y₂ ≡ raised g a x y₁ → Traced m s g a x y y₂
      traced q =
          let v : Within 6 7 y₁ (raised g a x y₁) = restand.raised_within w.known.problem w.move sized₁ w.known.small roots in
          let highs = restand.raises w.known.problem w.move sized₁ w.known.small roots (rw (f.within.above 6 (omega arith)) towers.highs) in
          rw q (record {
            towers = λ _.
                record {
                  bottoms = rw (v.below 3 (omega arith)) f.bottoms;
                  tops = rw (v.below 4 (omega arith)) f.tops;
                  goal_bottoms = rw (v.below 5 (omega arith)) roots;
                  highs = highs;
                };
            within = within_then (within_wider f.within (omega arith) (omega arith)) (within_wider v (omega arith) (omega arith));
          })

-- ---- the turn

module _ {m : Mode} {s g : State} {y : Yard} {z : Sets} {a x : ℕ} (w : Turnable m s g y z a x) where
  problem : Problem s g
  problem = w.kept.known.problem

  legal : Legal s a x
  legal = moves_legal problem w.move

  pub turn_low : 1 ≤ a
  turn_low = legal.block.low

  module _ {y₁ : Yard} (f : Traced m s g a x y y₁) where
    same_stands : stands_of y₁ ≡ stands_of y
    same_stands = f.within.below 1 (omega arith)

    module _ {st : List ℕ} (k : st ≡ restood g a x (stands_of y₁)) (long-st : length st ≡ length (stands_of y₁)) where
      abbrev y₂ : Yard
      y₂ = set y₁ 1 st

      pub movable : Movable s (loads_of y₂) a x
      movable =
          rw (row_beside y₁ 1 0 st (λ e. omega arith), f.within.below 0 (omega arith))
          (record { small = w.kept.known.small; proper = problem.initial; legal = legal; loads = w.kept.known.loads })

      module _ {t l : List ℕ} (v : MovedTo s a x t l) (long-l : length l ≡ length (loads_of y₂)) where
        abbrev y₃ : Yard
        y₃ = set y₂ 0 l

        long : length t ≡ length s
        long = ap length v.state ∙ length-put s a x

        after : Problem t g
        after = rw v.state (problem_moved legal problem)

        within₂ : Within 0 7 y y₂
        within₂ = within_set 1 st (within_wider f.within (omega arith) (omega arith)) long-st (omega arith) (omega arith)

        within₃ : Within 0 7 y y₃
        within₃ = within_set 0 l within₂ long-l (omega arith) (omega arith)

        sized : Sized y
        sized = w.kept.known.sized

        -- the rows that neither step stores
        beside : (j : ℕ) → j ≢ 0 → j ≢ 1 → row y₃ j ≡ row y₁ j
        beside j n o = row_beside y₂ 0 j l n ∙ row_beside y₁ 1 j st o

        known : Known t g y₃
        known =
            record {
              small = omega (arith, long, w.kept.known.small);
              problem = after;
              sized = sized_within sized within₃;
              loads = rw (row_set y₂ 0 l (omega (arith, within₂.size, sized.rows))) v.loads;
              stands = rw (row_beside y₂ 0 1 l (λ e. omega arith), row_set y₁ 1 st (omega (arith, f.within.size, sized.rows)), v.state, k, same_stands)
                  (restand.restands problem w.move w.kept.known.stands);
              goal_loads = rw (beside 2 (λ e. omega arith) (λ e. omega arith), f.within.below 2 (omega arith)) w.kept.known.goal_loads;
            }

        -- after the move both sets are right but for four blocks
        pub moving : {u : ℕ} → u ≡ get_or s (a - 1) 0 → Moving m t g y₃ z a u
        moving {u} e =
            record {
              known = known;
              moved = turn_low;
              moved_high = omega (arith, long, legal.block.high);
              old_high = omega (arith, long, old, problem.initial.entries a);
              ready = record { same = λ b h n o p q. w.kept.sets.ready.same b h ∙ ready b n o p q (same? b 0) };
              loose = record { same = λ b h n o. w.kept.sets.loose.same b h ∙ loose b n o (same? b 0) };
              ready_sound = λ b h n r.
                  ap (λ i. readyᵇ i g b) v.state ∙ ready_stays problem w.move b n (sym (w.kept.sets.ready.same b h) ∙ r);
              loose_sound = λ b h n r.
                  ap (λ i. looseᵇ m i g b) v.state ∙ loose_stays problem w.move b n m (sym (w.kept.sets.loose.same b h) ∙ r);
            }
          where
            old : u ≡ support s a
            old = e ∙ sym (support_at s a turn_low)

            -- a block is not u unless u is the table, and then it is no block
            other : (b : ℕ) → (b ≡ u → u ≡ 0) → ¬ (b ≡ 0) → b ≢ support s a
            other b o n q = let z = o (q ∙ sym old) in n (q ∙ sym old ∙ z)

            ready : (b : ℕ) → b ≢ a → (b ≡ u → u ≡ 0) → support g b ≢ a → (support g b ≡ u → u ≡ 0) → (b ≡ 0) ⊎ (¬ (b ≡ 0)) → readyᵇ s g b ≡ readyᵇ t g b
            ready b n o p q (inl z) = ap (readyᵇ s g) z ∙ no_ready problem 0 table_outside ∙ sym (ap (readyᵇ t g) z ∙ no_ready after 0 table_outside)
            ready b n o p q (inr i) =
                ready_same problem w.move b n (other b o i) p (λ j. sym old ∙ q (j ∙ sym old)) ∙ ap (λ i. readyᵇ i g b) (sym v.state)

            loose : (b : ℕ) → b ≢ a → (b ≡ u → u ≡ 0) → (b ≡ 0) ⊎ (¬ (b ≡ 0)) → looseᵇ m s g b ≡ looseᵇ m t g b
            loose b n o (inl z) = ap (looseᵇ m s g) z ∙ no_loose problem 0 table_outside m ∙ sym (ap (looseᵇ m t g) z ∙ no_loose after 0 table_outside m)
            loose b n o (inr i) = loose_same problem w.move b n (other b o i) m ∙ ap (λ i. looseᵇ m i g b) (sym v.state)

        pub turned : {z' : Sets} → SetsHold m t g z' → Turned m s g a x t y y₃ z'
        turned q =
            record {
              state = v.state;
              kept = record { known = known; sets = q; towers = λ deep. rw v.state (towered (f.towers deep)) };
              within = within₃;
            }
          where
            towered : Towered (put s a x) g y₁ → Towered (put s a x) g y₃
            towered d =
                record {
                  bottoms = rw (beside 3 (λ e. omega arith) (λ e. omega arith)) d.bottoms;
                  tops = rw (beside 4 (λ e. omega arith) (λ e. omega arith)) d.tops;
                  goal_bottoms = rw (beside 5 (λ e. omega arith) (λ e. omega arith)) d.goal_bottoms;
                  highs = rw (beside 6 (λ e. omega arith) (λ e. omega arith)) d.highs;
                }
