-- `any_floating` meets its contract. The invariant: `any` says whether a block from 1 to i was not reached. Assumes nothing.
use Rattle.lists.proofs.ScanLaws.{Swept}
use Rattle.problem.proofs.CountLaws.{unreached}
use Rattle.problem.proofs.any_floating.Given as goal

abbrev pub invariant-loop-i : goal.invariant-loop-i
invariant-loop-i l = Swept (unreached l.stands) l.n l.any l.i
