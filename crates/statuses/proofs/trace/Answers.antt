-- `trace` meets its contract: nothing is asked of the towers, or they follow the move. Assumes nothing.
use borrow.Author.Rules.{rules}
use Rattle.statuses.proofs.TurnLaws.{shifting, raisable, traced}
use Rattle.statuses.proofs.trace.Goals as goal

pub shift-requires : goal.shift-requires
shift-requires c = search (rules, shifting)

pub raise-requires : goal.raise-requires
raise-requires c = search (rules, raisable)

pub returns : goal.returns
returns c = search (rules, traced)
