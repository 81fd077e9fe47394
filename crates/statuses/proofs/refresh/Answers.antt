-- `refresh` meets its contract: each set is assigned what its test answers. Assumes nothing.
use borrow.Author.Rules.{rules}
use Rattle.statuses.proofs.TestLaws.{readable, goal_readable}
use Rattle.statuses.proofs.RefreshLaws.{refreshed}
use Rattle.statuses.proofs.refresh.Goals as goal

pub is_ready-requires : goal.is_ready-requires
is_ready-requires c = search (rules, goal_readable)

pub is_loose-requires : goal.is_loose-requires
is_loose-requires c = search (rules, readable)

pub returns : goal.returns
returns c = search (rules, refreshed)
