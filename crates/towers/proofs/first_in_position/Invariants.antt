-- `first_in_position` meets its contract. The invariant: no block passed is in position. Assumes nothing.
use Rattle.towers.proofs.BottomLaws.{height}
use Rattle.towers.proofs.WalkLaws.{Seeking}
use Rattle.towers.proofs.first_in_position.Given as goal

abbrev pub invariant-loop-c : goal.invariant-loop-c
invariant-loop-c l = Seeking l.goal l.stands l.t l.c

abbrev pub decreases-loop-c : goal.decreases-loop-c
decreases-loop-c l = height l.goal l.c
