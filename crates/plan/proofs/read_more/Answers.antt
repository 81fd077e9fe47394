-- `plan::read_more` meets its contract. Assumes nothing.
use borrow.Author.Rules.{rules}
use Rattle.plan.proofs.ReadLaws.{end_fits, end_room}
use Rattle.plan.proofs.read_more.Goals as goal

pub overflow_add-n : goal.overflow_add-n
overflow_add-n c = search (rules, end_fits)

pub slice_bounds-read-end : goal.slice_bounds-read-end
slice_bounds-read-end c = search (rules, end_room)
