-- `is_perched` meets its contract: what waits is a block, so its support can be read. Assumes nothing.
use borrow.Author.Rules.{rules}
use Rattle.statuses.proofs.TestLaws.{block_low, entry_within}
use Rattle.statuses.proofs.is_perched.Goals as goal

pub overflow_sub-result : goal.overflow_sub-result
overflow_sub-result c = search (rules, block_low)

pub bounds-cur-b : goal.bounds-cur-b
bounds-cur-b c = search (rules, entry_within)
