-- `write_row` meets its contract: one write behind the other. Assumes nothing.
use borrow.Author.Rules.{rules}
use Rattle.deadlocks.proofs.ShowLaws.{second_in}
use Rattle.deadlocks.proofs.write_row.Goals as goal

pub bounds-out-k-2 : goal.bounds-out-k-2
bounds-out-k-2 c = search (rules, second_in)
