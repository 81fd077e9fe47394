use borrow.Author.Rules.{rules}
use Rattle.problem.proofs.ClimbLaws.{rise_begin, rise_end, rise_step, rise_fewer}
use Rattle.problem.proofs.climb.Goals as goal

pub loop-i-init : goal.loop-i-init
loop-i-init c = rise_begin _ c.requires (search rules)

pub loop-block-smaller : goal.loop-block-smaller
loop-block-smaller c = search (rules, rise_fewer)

pub loop-block-preserved : goal.loop-block-preserved
loop-block-preserved c = search (rules, rise_step)

pub returns : goal.returns
returns c = search (rules, rise_end)
