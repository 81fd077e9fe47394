-- `any_outside` meets its contract. The invariant: `any` says whether an entry of the blocks from 1 to i is above n. Assumes nothing.
use lib.ListN.{length}
use Rattle.lists.proofs.ScanLaws.{Swept}
use Rattle.blocks.specs.Question.{outsideᵇ}
use Rattle.problem.proofs.any_outside.Given as goal

abbrev pub invariant-loop-x : goal.invariant-loop-x
invariant-loop-x l = Swept (outsideᵇ l.s) (length l.s) l.any l.x-index
