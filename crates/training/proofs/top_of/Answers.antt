use borrow.Author.Rules.{rules}
use Rattle.training.proofs.TopLaws.{climb_top, climb_next, climb_end}
use Rattle.training.proofs.top_of.Goals as goal

pub returns-then-above-eq0 : goal.returns-then-above-eq0
returns-then-above-eq0 c = search (rules, climb_top)

pub loop-preserved : goal.loop-preserved
loop-preserved c = search (rules, climb_next)

pub returns : goal.returns
returns c = search (rules, climb_end)
