-- `misplaced` meets its contract. The invariant: c of the blocks from 1 to i are misplaced. Assumes nothing.
use Rattle.problem.proofs.CountLaws.{Misplacing}
use Rattle.problem.proofs.misplaced.Given as goal

abbrev pub invariant-loop-i : goal.invariant-loop-i
invariant-loop-i l = Misplacing l.rows l.n l.c l.i
