-- `fill_towers` meets its contract. The invariant: the towers of the clear blocks below b are filled in. Assumes nothing.
use Rattle.towers.proofs.FillLaws.{Walking}
use Rattle.towers.proofs.fill_towers.Given as goal

abbrev pub invariant-loop-b : goal.invariant-loop-b
invariant-loop-b l = Walking l.s l.loads l.bottoms l.initial.yard l.b l.yard
