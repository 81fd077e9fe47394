-- `bottom_of` meets its contract. The invariant: the walk has come from b to the block c. The measure: how many steps lead down from c. Assumes nothing.
use Rattle.towers.proofs.BottomLaws.{height}
use Rattle.towers.proofs.WalkLaws.{Sinking}
use Rattle.towers.proofs.bottom_of.Given as goal

abbrev pub invariant-loop-b : goal.invariant-loop-b
invariant-loop-b l = Sinking l.s l.b l.c

abbrev pub decreases-loop-b : goal.decreases-loop-b
decreases-loop-b l = height l.s l.c
