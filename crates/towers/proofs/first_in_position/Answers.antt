use borrow.Author.Rules.{rules}
use Rattle.towers.proofs.WalkLaws.{seek_begin, seek_next, seek_less}
use Rattle.towers.proofs.first_in_position.Goals as goal

pub loop-c-init : goal.loop-c-init
loop-c-init c = search (rules, seek_begin)

pub loop-c-smaller : goal.loop-c-smaller
loop-c-smaller c = search (rules, seek_less)

pub loop-c-preserved : goal.loop-c-preserved
loop-c-preserved c = search (rules, seek_next)
