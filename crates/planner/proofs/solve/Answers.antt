-- `solve` meets its contract: what is misplaced is counted before the first move. Assumes nothing.
use borrow.Author.Rules.{rules}
use Rattle.planner.proofs.SolveLaws.{solved}
use Rattle.planner.proofs.solve.Goals as goal

pub returns : goal.returns
returns c = search (rules, solved)
