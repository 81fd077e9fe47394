-- `first_difference` meets its contract. The invariant: the blocks from 1 to i have the same support in the goal. Assumes nothing.
use Rattle.problem.proofs.CountLaws.{Compared}
use lib.ListN.{length}
use Rattle.problem.proofs.first_difference.Given as goal

abbrev pub invariant-loop-i : goal.invariant-loop-i
invariant-loop-i l = Compared l.s l.goal (length l.s) l.i
