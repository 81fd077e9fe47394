use borrow.Author.Rules.{rules}
use Rattle.towers.proofs.WalkLaws.{mark_begin, mark_next, walk_less, mark_end}
use Rattle.towers.proofs.mark_tower.Goals as goal

pub loop-c-init : goal.loop-c-init
loop-c-init c = search (rules, mark_begin)

pub loop-c-smaller : goal.loop-c-smaller
loop-c-smaller c = search (rules, walk_less)

pub loop-c-preserved : goal.loop-c-preserved
loop-c-preserved c = search (rules, mark_next)

pub returns : goal.returns
returns c = search (rules, mark_end)
