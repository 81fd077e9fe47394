-- `plan::read_input` meets its contract and ends: the measure is how many bytes can still come. Assumes nothing.
use Prim.Native.Nat.{◌-◌, ◌≤◌}
use mathlib.Core.Path.{◌≡◌}
use lib.ListN.{length}
use Rattle.responder.specs.Bounds.{enough}
use Rattle.plan.proofs.read_input.Given as goal

abbrev pub invariant-loop-got : goal.invariant-loop-got
invariant-loop-got l = (l.n ≤ enough) × (enough ≤ length l.input) × (length l.input ≡ length l.initial.input)

abbrev pub decreases-loop-got : goal.decreases-loop-got
decreases-loop-got l = enough - l.n
