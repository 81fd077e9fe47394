-- `run` meets its contract. The invariant: the moves made so far, what they leave of the measure, and all that is kept. Assumes nothing.
use Rattle.blocks.specs.Tests.{measure}
use Rattle.runs.specs.Runs.{Ran}
use Rattle.runs.proofs.run.Given as goal

abbrev pub invariant-loop-next : goal.invariant-loop-next
invariant-loop-next l = Ran l.mode l.initial.cur l.goal l.k l.initial.out l.count l.cur l.yard l.sets l.out

abbrev pub decreases-loop-next : goal.decreases-loop-next
decreases-loop-next l = measure l.cur l.goal
