-- `first_floating` meets its contract. The invariant: the blocks from 1 to i were reached. Assumes nothing.
use Rattle.problem.proofs.CountLaws.{Reached}
use Rattle.problem.proofs.first_floating.Given as goal

abbrev pub invariant-loop-i : goal.invariant-loop-i
invariant-loop-i l = Reached l.stands l.n l.i
