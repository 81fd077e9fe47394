-- `fill_highs` meets its contract. The invariant: the goal towers of the clear blocks below b are filled in. Assumes nothing.
use Rattle.towers.proofs.HighLaws.{Raising}
use Rattle.towers.proofs.fill_highs.Given as goal

abbrev pub invariant-loop-b : goal.invariant-loop-b
invariant-loop-b l = Raising l.goal l.initial.yard l.yard l.b
