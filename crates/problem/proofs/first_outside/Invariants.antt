-- `first_outside` meets its contract. The invariant: the entries of the blocks from 1 to i are at most n. Assumes nothing.
use Rattle.problem.proofs.CountLaws.{Inside}
use Rattle.problem.proofs.first_outside.Given as goal

abbrev pub invariant-loop-i : goal.invariant-loop-i
invariant-loop-i l = Inside l.s l.n l.i
