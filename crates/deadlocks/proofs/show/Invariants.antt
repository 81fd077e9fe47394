-- `show` meets its contract. The invariant: `Writing` of ShowLaws. Assumes nothing.
use Rattle.deadlocks.proofs.ShowLaws.{Writing}
use Rattle.deadlocks.proofs.show.Given as goal

abbrev pub invariant-loop-i : goal.invariant-loop-i
invariant-loop-i l = Writing l.yard l.low l.count l.initial.out l.b l.i l.out
