-- `place_all` meets its contract. The invariant: what is left, finished, is the whole, finished. Assumes nothing.
use Rattle.training.proofs.ArrangeLaws.{Going}
use Rattle.training.proofs.place_all.Given as goal

abbrev pub invariant-loop-loose : goal.invariant-loop-loose
invariant-loop-loose l = Going l.initial.state l.initial.load l.r l.loose l.progress l.state l.load
