use borrow.Author.Rules.{rules}
use Rattle.training.proofs.FindLaws.{find_begin, find_is, find_past, find_over, find_none}
use Rattle.training.proofs.nth_free.Goals as goal
use Rattle.training.proofs.nth_free.Goals.{then-is_free+else-passed-q, else-is_free}

pub loop-t-init : goal.loop-t-init
loop-t-init c = search (rules, find_begin)

pub returns-then-passed-q : goal.returns-then-passed-q
returns-then-passed-q c = search (rules, find_is)

pub loop-t-preserved : goal.loop-t-preserved
loop-t-preserved c = elim c.if-is_free.branch [ then-is_free+else-passed-q w ↦ search (rules, find_past) | else-is_free w ↦ search (rules, find_over) ]

pub returns : goal.returns
returns c = search (rules, find_none)
