use borrow.Author.Rules.{rules}
use Rattle.training.proofs.ArrangeLaws.{going_next, going_end}
use Rattle.training.proofs.place_all.Goals as goal

pub loop-loose-preserved : goal.loop-loose-preserved
loop-loose-preserved c = search (rules, going_next)

pub returns : goal.returns
returns c = search (rules, going_end)
