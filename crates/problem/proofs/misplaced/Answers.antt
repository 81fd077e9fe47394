use borrow.Author.Rules.{rules}
use Rattle.problem.proofs.CountLaws.{misplacing_begin, misplacing_next}
use Rattle.problem.proofs.misplaced.Goals as goal

pub loop-i-init : goal.loop-i-init
loop-i-init c = search (rules, misplacing_begin)

pub loop-i-preserved : goal.loop-i-preserved
loop-i-preserved c = search (rules, misplacing_next)
