use borrow.Author.Rules.{rules}
use Rattle.towers.proofs.WalkLaws.{sink_next, sink_less, sink_end}
use Rattle.towers.proofs.bottom_of.Goals as goal

pub returns-then-x-eq0 : goal.returns-then-x-eq0
returns-then-x-eq0 c = search (rules, sink_end)

pub loop-b-smaller : goal.loop-b-smaller
loop-b-smaller c = search (rules, sink_less)

pub loop-b-preserved : goal.loop-b-preserved
loop-b-preserved c = search (rules, sink_next)
