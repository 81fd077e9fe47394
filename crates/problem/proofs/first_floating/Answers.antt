use borrow.Author.Rules.{rules}
use Rattle.problem.proofs.CountLaws.{reached_found, reached_all}
use Rattle.problem.proofs.first_floating.Goals as goal

pub returns-then-stands-i-eq0 : goal.returns-then-stands-i-eq0
returns-then-stands-i-eq0 c = reached_found c.loop-i.invariant (search rules) (search rules)

pub returns : goal.returns
returns c = reached_all c.loop-i.invariant (search rules)
