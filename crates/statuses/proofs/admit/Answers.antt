-- `admit` meets its contract: each set takes the block in where its test says so. Assumes nothing.
use borrow.Author.Rules.{rules}
use Rattle.statuses.proofs.TestLaws.{readable}
use Rattle.statuses.proofs.RefreshLaws.{offerable, not_admitted, admitted}
use Rattle.statuses.proofs.admit.Goals as goal

pub offer-requires : goal.offer-requires
offer-requires c = search (rules, offerable)

pub is_loose-requires : goal.is_loose-requires
is_loose-requires c = search (rules, readable)

pub returns-then-is_loose : goal.returns-then-is_loose
returns-then-is_loose c = search (rules, admitted)

pub returns-else-is_loose : goal.returns-else-is_loose
returns-else-is_loose c = search (rules, not_admitted)
