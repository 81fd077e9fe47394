-- `any_difference` meets its contract. The invariant: `any` says whether the supports of a block from 1 to i differ. Assumes nothing.
use lib.ListN.{length}
use Rattle.lists.proofs.ScanLaws.{Swept}
use Rattle.problem.proofs.CountLaws.{differs}
use Rattle.problem.proofs.any_difference.Given as goal

abbrev pub invariant-loop-i : goal.invariant-loop-i
invariant-loop-i l = Swept (differs l.s l.goal) (length l.s) l.any l.i
