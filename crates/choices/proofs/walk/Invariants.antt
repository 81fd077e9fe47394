-- `walk` meets its contract. The invariant: `Follows` of WalkLaws. The measure: how many visits there can still be. Assumes nothing.
use Prim.Native.Nat.{◌-◌}
use Rattle.rows.specs.Rows.{row_size}
use Rattle.choices.proofs.WalkLaws.{Follows}
use Rattle.choices.proofs.walk.Given as goal

abbrev pub invariant-loop-yard : goal.invariant-loop-yard
invariant-loop-yard l = Follows l.start l.initial.yard l.b l.k l.yard

abbrev pub decreases-loop-yard : goal.decreases-loop-yard
decreases-loop-yard l = row_size - l.k
