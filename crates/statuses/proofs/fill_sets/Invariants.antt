-- `fill_sets` meets its contract. The invariant: the sets hold their tests below the block b, and nothing from it on. Assumes nothing.
use Rattle.statuses.proofs.SetsLaws.{Filling}
use Rattle.statuses.proofs.fill_sets.Given as goal

abbrev pub invariant-loop-b : goal.invariant-loop-b
invariant-loop-b l = Filling l.mode l.cur l.goal l.yard l.b l.sets
