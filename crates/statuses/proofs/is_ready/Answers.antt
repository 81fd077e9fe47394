-- `is_ready` meets its contract: what waits is a block, so its goal support can be read. Assumes nothing.
use borrow.Author.Rules.{rules}
use Rattle.statuses.proofs.TestLaws.{block_low, entry_within}
use Rattle.statuses.proofs.is_ready.Goals as goal

pub overflow_sub-b : goal.overflow_sub-b
overflow_sub-b c = search (rules, block_low)

pub bounds-goal-b : goal.bounds-goal-b
bounds-goal-b c = search (rules, entry_within)
