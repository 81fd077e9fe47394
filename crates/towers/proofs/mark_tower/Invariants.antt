-- `mark_tower` meets its contract. The invariant: every block passed is marked, and no other entry has changed. Assumes nothing.
use Rattle.towers.proofs.BottomLaws.{height}
use Rattle.towers.proofs.WalkLaws.{Marking}
use Rattle.towers.proofs.mark_tower.Given as goal

abbrev pub invariant-loop-c : goal.invariant-loop-c
invariant-loop-c l = Marking l.s l.t l.r l.initial.bottoms l.bottoms l.c

abbrev pub decreases-loop-c : goal.decreases-loop-c
decreases-loop-c l = height l.s l.c
