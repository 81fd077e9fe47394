-- What a run may rely on at its start, and what its end says of the method's steps. Assumes nothing.
use Prim.Native.Nat.{ℕ, ◌*◌, ◌≤◌}
use mathlib.Core.Path.{◌≡◌, sym, ap, ◌∙◌}
use mathlib.Core.Bool.{false, cond, true≢false}
use mathlib.Core.List.{List}
use native.Mathlib.Omega.{arith}
use lib.ListN.{length}
use Rattle.rows.specs.Rows.{Yard, row_count, Fresh, Within}
use Rattle.blocks.specs.State.{State}
use Rattle.blocks.specs.Position.{Problem, Bounded}
use Rattle.blocks.specs.Tests.{measure, perchedᵇ, waitingᵇ}
use Rattle.blocks.specs.Method.{plan, iterate}
use Rattle.blocks.proofs.MeasureLaws.{measure_le, misplaced_le}
use Rattle.statuses.specs.Modes.{step_of, walksᵇ}
use Rattle.statuses.specs.Kept.{Kept, Begun}
use Rattle.statuses.specs.declared.Mode.{Mode}
use Rattle.statuses.specs.declared.Sets.{Sets}
use Rattle.choices.specs.Walks.{Unvisited}
use Rattle.choices.proofs.TrailLaws.{nothing_kept, unvisited_within}
use Rattle.runs.specs.Runs.{Steppable, Finished}
use Rattle.runs.proofs.RunningLaws.{running_end}

-- the measure bounds the moves
pub twice : {s g : State} → Problem s g → measure s g ≤ 2 * length s
twice {s} {g} p = omega (arith, measure_le s g p.initial, misplaced_le s g)

-- a run that has ended gave its plan within the fuel
pub run_plan : {m : Mode} {s g : State} {k₀ : ℕ} {out₀ : List ℕ} {k : ℕ} {t : State} {y : Yard} {z : Sets} {out : List ℕ} {f : ℕ}
    (w : Finished m s g k₀ out₀ k t y z out) → measure s g ≤ f → iterate (step_of m g) f s ≡ plan w.ran.moves
run_plan {f = f} w h = running_end (record { end = w.ran.end; reached = w.ran.reached }) w.ended f (omega (arith, w.ran.spent, h))

-- ---- the first run

-- an accepted problem as the check leaves it; no loop has been walked
pub first_steppable : {m : Mode} {s g t : State} {y y₁ : Yard} {z : Sets} {out : List ℕ} → Bounded s g → Unvisited y → Begun m s g t y y₁ z → 4 * length s ≤ length out
    → Steppable m t g y₁ z out 0
first_steppable p v b room =
    let short = twice p.problem in
    rw b.state (record {
      kept = b.kept;
      visits = nothing_kept (unvisited_within b.within (omega arith) v).none;
      room = omega (arith, short, room);
      count = omega (arith, p.small, short);
    })

-- the check of blank rows leaves the others blank
pub unvisited : {y y' : Yard} → Fresh row_count y → Within 0 4 y y' → Unvisited y'
unvisited f w = unvisited_within w (omega arith) (record { none = (f.blank 8 (omega arith)).zeros.at 0 })

-- ---- runs that do not walk the loop keep the same beside the state

module _ {i j : Mode} (flat : walksᵇ i ≡ false) (flat' : walksᵇ j ≡ false) {s g : State} {y : Yard} {z : Sets} where
  kept_flat : Kept i s g y z → Kept j s g y z
  kept_flat w =
      record {
        known = w.known;
        sets =
            record {
              ready = w.sets.ready;
              loose =
                  record {
                    same = λ b h. w.sets.loose.same b h ∙ ap (λ t. cond t (waitingᵇ s g b) (perchedᵇ s g b)) (flat ∙ sym flat');
                  };
            };
        towers = λ deep. absurd (true≢false (sym deep ∙ flat'));
      }

  pub steps_flat : {out : List ℕ} {k : ℕ} → Steppable i s g y z out k → Steppable j s g y z out k
  steps_flat w = record { kept = kept_flat w.kept; visits = nothing_kept (w.visits.none flat); room = w.room; count = w.count }
