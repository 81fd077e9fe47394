-- `too_long` meets its contract: x is the table, which takes any block, or the two lengths decide. Assumes nothing.
use borrow.Author.Rules.{rules}
use Rattle.lengths.proofs.MeasureLaws.{table_takes, block_takes}
use Rattle.lengths.proofs.too_long.Goals as goal

pub returns-then-x-eq0 : goal.returns-then-x-eq0
returns-then-x-eq0 c = search (rules, table_takes)

pub returns : goal.returns
returns c = search (rules, block_takes)
