-- `top_of` meets its contract. The invariant: as many steps of the climb as turns are left, at `at`. Assumes nothing.
use Rattle.training.proofs.TopLaws.{Climbing}
use Rattle.training.proofs.top_of.Given as goal

abbrev pub invariant-loop : goal.invariant-loop
invariant-loop l = Climbing l.state l.block l.end l.counter l.at
