-- One step of a run as the code makes it: what each part may rely on. Assumes nothing.
use Prim.Native.Nat.{ℕ, suc, ◌+◌, ◌*◌, ◌≤◌, ◌<◌}
use native.Mathlib.Omega.{arith}
use lib.ListN.{length}
use mathlib.Core.List.{List}
use Rattle.std.specs.Prelude.{Some}
use Rattle.rows.specs.Rows.{Yard}
use Rattle.blocks.specs.State.{State, put}
use Rattle.blocks.specs.Stall.{Moves}
use Rattle.blocks.specs.Tests.{measure}
use Rattle.blocks.proofs.StepLaws.{moves_legal, moves_measure}
use Rattle.statuses.specs.declared.Mode.{Mode}
use Rattle.statuses.specs.declared.Sets.{Sets}
use Rattle.choices.specs.Choices.{Pickable, Picks}
use Rattle.choices.specs.declared.Move.{Move}
use Rattle.runs.specs.Runs.{Steppable}

module _ {m : Mode} {s g : State} {y : Yard} {z : Sets} {out : List ℕ} {k : ℕ} (w : Steppable m s g y z out k) where
  pub pickable : Pickable m g y z
  pickable = record { state = s; kept = w.kept; visits = w.visits }

  module _ {v : Move} {y₁ : Yard} (p : Picks m g z (Some v) y y₁) where
    pub picked : Moves s g v.block v.destination
    picked = (p.chooses s w.kept w.visits).move

    -- a move takes from the measure, so there is room for its pair
    pub falls : suc (measure (put s v.block v.destination) g) ≤ measure s g
    falls = moves_measure w.kept.known.problem picked

    pub pair_room : (2 * k + 1 < length out) × (v.block < 65536) × (v.destination < 65536)
    pair_room =
        let l = moves_legal w.kept.known.problem picked in
        (omega (arith, w.room, falls), omega (arith, l.block.high, w.kept.known.small), omega (arith, l.inside, w.kept.known.small))
