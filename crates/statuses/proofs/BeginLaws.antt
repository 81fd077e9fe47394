-- The start of a run: what is known of the blocks of an accepted problem, the towers and the sets from it, and all of it together. Assumes nothing.
use Prim.Native.Nat.{ℕ, zero, suc, ◌≤◌}
use mathlib.Core.Path.{◌≡◌, refl, sym, ap, ◌∙◌}
use mathlib.Core.Logic.{◌≢◌}
use mathlib.Core.Bool.{true, not, cond}
use mathlib.Core.List.{List}
use native.Mathlib.Omega.{arith}
use borrow.Author.Tests.{not-true}
use lib.Dec.{eqb}
use lib.ListN.{length, get_or}
use Rattle.rows.specs.Rows.{Yard, Within}
use Rattle.rows.proofs.RowLaws.{within_then, within_wider, sized_within}
use Rattle.lists.proofs.ReflectLaws.{from_false, to_true, eqb_reflects, reflects_same}
use Rattle.blocks.specs.State.{State}
use Rattle.blocks.specs.Position.{Proper}
use Rattle.blocks.specs.Tests.{in_positionᵇ}
use Rattle.blocks.proofs.PositionLaws.{position_test, position_table}
use Rattle.problem.specs.Known.{Standings}
use Rattle.towers.specs.Towers.{Stands, Filled, Climbable, Climbed}
use Rattle.towers.specs.Linked.{Known}
use Rattle.statuses.specs.Kept.{SetsHold, Fitted, Beginnable, Begun}
use Rattle.statuses.specs.declared.Mode.{Mode}
use Rattle.statuses.specs.declared.Sets.{Sets}
use Rattle.statuses.proofs.TestLaws.{table_stands}

-- ---- what is known of the blocks

-- every block comes down, so it stands 1 or 2
stands_from : {s g : State} {st : List ℕ} → Proper s → Standings s g st → Stands s g st
stands_from {s} {g} {st} p w = record { room = w.room; at = at }
  where
    two : (n : ℕ) → n ≢ 0 → n ≤ 2 → n ≡ cond (eqb n 2) 2 1
    two zero m h = absurd (m refl)
    two (suc zero) m h = refl
    two (suc (suc zero)) m h = refl
    two (suc (suc (suc n))) m h = absurd (omega arith)

    marked : (b : ℕ) → 1 ≤ b → b ≤ length s → get_or st b 0 ≢ 0
    marked b low high z =
        let t : not (eqb (get_or st b 0) 0) ≡ true = to_true (w.reached b low high) (p.grounded b) in
        from_false (eqb_reflects (get_or st b 0) 0) (not-true (eqb (get_or st b 0) 0) t) z

    at : (b : ℕ) → b ≤ length s → get_or st b 0 ≡ cond (in_positionᵇ s g b) 2 1
    at zero high = w.table ∙ ap (λ t. cond t 2 1) (sym (to_true (position_test s g p 0) (position_table s g)))
    at (suc i) high =
        two (get_or st (suc i) 0) (marked (suc i) (omega arith) high) (w.small (suc i) (omega arith) high)
        ∙ ap (λ t. cond t 2 1) (reflects_same (λ x. x) (λ x. x) (w.right (suc i) (omega arith) high (p.grounded (suc i))) (position_test s g p (suc i)))

pub known_start : {s g : State} {cur cur' : List ℕ} {y : Yard} → Beginnable s g cur y → cur' ≡ s → Known cur' g y
known_start {s} {g} {y = y} w e =
    let p = w.problem.problem in
    rw e (record {
      small = w.problem.small;
      problem = p;
      sized = w.sized;
      loads = w.start.loads;
      stands = stands_from p.initial w.start.stands;
      goal_loads = w.start.goal_loads;
    })

-- it stays known while only other rows change
pub known_within : {s g : State} {lo hi : ℕ} {y y' : Yard} → Known s g y → Within lo hi y y' → 3 ≤ lo → Known s g y'
known_within k w h =
    record {
      small = k.small;
      problem = k.problem;
      sized = sized_within k.sized w;
      loads = rw (w.below 0 (omega arith)) k.loads;
      stands = rw (w.below 1 (omega arith)) k.stands;
      goal_loads = rw (w.below 2 (omega arith)) k.goal_loads;
    }

-- ---- the towers

module _ {s g : State} {y y₁ : Yard} (k : Known s g y) (f : Filled s 3 y y₁) where
  still : Known s g y₁
  still = known_within k f.within (omega arith)

  module _ {y₂ : Yard} (h : Filled g 5 y₁ y₂) where
    again : Known s g y₂
    again = known_within still h.within (omega arith)

    pub climbable : Climbable g y₂
    climbable =
        record {
          small = omega (arith, k.small, k.problem.same);
          proper = k.problem.goal;
          sized = again.sized;
          goal_loads = again.goal_loads;
          goal_bottoms = h.bottom;
          room = omega (arith, again.stands.room, k.problem.same);
          table = table_stands again;
        }

    pub fitted : {m : Mode} {y₃ : Yard} → Climbed g y₂ y₃ → Fitted m s g y y₃
    fitted c =
        record {
          towers = λ _.
              record {
                bottoms = rw (c.within.below 3 (omega arith), h.within.below 3 (omega arith)) f.bottom;
                tops = rw (c.within.below 4 (omega arith), h.within.below 4 (omega arith)) f.top;
                goal_bottoms = rw (c.within.below 5 (omega arith)) h.bottom;
                highs = c.highs s k.problem again.stands;
              };
          within =
              within_then (within_wider f.within (omega arith) (omega arith))
              (within_then (within_wider h.within (omega arith) (omega arith)) (within_wider c.within (omega arith) (omega arith)));
        }

-- ---- what a run keeps beside the blocks, and all

module _ {m : Mode} {s g : State} {y y₁ : Yard} (w : Known s g y) (f : Fitted m s g y y₁) where
  pub known_fitted : Known s g y₁
  known_fitted = known_within w f.within (omega arith)

  pub kept : {z : Sets} → SetsHold m s g z → Begun m s g s y y₁ z
  kept q = record { state = refl; kept = record { known = known_fitted; sets = q; towers = f.towers }; within = f.within }

pub begun : {m : Mode} {s g t : State} {y y₁ : Yard} {z : Sets} → t ≡ s → Begun m t g t y y₁ z → Begun m s g t y y₁ z
begun {m} {s} {g} {t} {y} {y₁} {z} e q = record { state = e; kept = rw e at q.kept; within = q.within }
