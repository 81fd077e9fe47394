use borrow.Author.Rules.{rules}
use Rattle.choices.proofs.SpanLaws.{lower_next}
use Rattle.choices.proofs.lowest_in.Goals as goal

pub loop-b-preserved : goal.loop-b-preserved
loop-b-preserved c = search (rules, lower_next)
