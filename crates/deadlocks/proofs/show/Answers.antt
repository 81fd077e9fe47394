use borrow.Author.Rules.{rules}
use Rattle.deadlocks.proofs.ShowLaws.{writing_begin, may_find, may_write, writing_next, writing_end}
use Rattle.deadlocks.proofs.show.Goals as goal

pub loop-i-init : goal.loop-i-init
loop-i-init c = search (rules, writing_begin)

pub find-found-requires : goal.find-found-requires
find-found-requires c = search (rules, may_find)

pub write_row-requires : goal.write_row-requires
write_row-requires c = may_write c.loop-i.invariant c.loop-i-test.true c.find-found.ensures

pub loop-i-preserved : goal.loop-i-preserved
loop-i-preserved c = search (rules, writing_next)

pub returns : goal.returns
returns c = search (rules, writing_end)
