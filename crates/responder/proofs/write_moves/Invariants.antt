-- `write_moves` meets its contract: `Writing` holds at each turn. Assumes nothing.
use Rattle.responder.proofs.MoveLaws.{Writing}
use Rattle.responder.proofs.write_moves.Given as goal

abbrev pub invariant-loop-i : goal.invariant-loop-i
invariant-loop-i l = Writing l.count l.pairs l.initial.out l.start l.out l.at l.i
