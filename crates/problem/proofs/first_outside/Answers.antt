use borrow.Author.Rules.{rules}
use Rattle.problem.proofs.CountLaws.{inside_next, inside_found, inside_all}
use Rattle.problem.proofs.first_outside.Goals as goal

pub returns-then-n-from : goal.returns-then-n-from
returns-then-n-from c = search (rules, inside_found)

pub loop-i-preserved : goal.loop-i-preserved
loop-i-preserved c = search (rules, inside_next)

pub returns : goal.returns
returns c = search (rules, inside_all)
