-- `nth_free` meets its contract. The invariant: of the numbers below t as many are free as were passed, and none is number q. Assumes nothing.
use Rattle.training.specs.Placing.{freeᵇ}
use Rattle.training.proofs.FindLaws.{Finding}
use Rattle.training.proofs.nth_free.Given as goal

abbrev pub invariant-loop-t : goal.invariant-loop-t
invariant-loop-t l = Finding (freeᵇ l.load l.own) l.n l.q l.t l.passed
