use borrow.Author.Rules.{rules}
use Rattle.lists.proofs.ScanLaws.{sweep_begin, sweep_next, sweep_end}
use Rattle.blocks.specs.Question.{outsideᵇ, first_outside}
use Rattle.problem.proofs.any_outside.Goals as goal

pub loop-x-init : goal.loop-x-init
loop-x-init c = search (rules, sweep_begin)

pub loop-x-preserved : goal.loop-x-preserved
unfolding outsideᵇ
loop-x-preserved c = search (rules, sweep_next)

pub returns : goal.returns
unfolding first_outside
returns c = search (rules, sweep_end)
