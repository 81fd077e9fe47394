-- `check` meets its contract. Assumes nothing.
use borrow.Author.Rules.{rules}
use Rattle.rows.proofs.RowLaws.{fresh_new}
use Rattle.lengths.proofs.check.Goals as goal

pub examine-requires : goal.examine-requires
examine-requires c = search (rules, fresh_new)
