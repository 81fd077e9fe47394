use borrow.Author.Rules.{rules}
use Rattle.problem.proofs.CountLaws.{compared_found, compared_all}
use Rattle.problem.proofs.first_difference.Goals as goal

pub returns-then-x-goal : goal.returns-then-x-goal
returns-then-x-goal c = search (rules, compared_found)

pub returns : goal.returns
returns c = search (rules, compared_all)
