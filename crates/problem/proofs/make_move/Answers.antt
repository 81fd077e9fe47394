-- The three stores make the state and the loads that a legal move leaves. Assumes nothing.
use borrow.Author.Rules.{rules}
use Rattle.problem.proofs.MoveLaws.{moved_to}
use Rattle.problem.proofs.make_move.Goals as goal

pub returns : goal.returns
returns c = search (rules, moved_to)
