-- `decided_by` meets its contract. Assumes nothing.
use borrow.Author.Rules.{rules}
use Rattle.responder.proofs.WantedLaws.{whole_fits}
use Rattle.responder.proofs.decided_by.Goals as goal

pub overflow_add-result : goal.overflow_add-result
overflow_add-result c = search (rules, whole_fits)
