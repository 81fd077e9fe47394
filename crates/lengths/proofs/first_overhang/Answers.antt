use borrow.Author.Rules.{rules}
use Rattle.lengths.proofs.MeasureLaws.{support_within, resting_next, resting_found, resting_all}
use Rattle.lengths.proofs.first_overhang.Goals as goal

pub too_long-requires : goal.too_long-requires
too_long-requires c = search (rules, support_within)

pub returns-then-too_long : goal.returns-then-too_long
returns-then-too_long c = search (rules, resting_found)

pub loop-i-preserved : goal.loop-i-preserved
loop-i-preserved c = search (rules, resting_next)

pub returns : goal.returns
returns c = search (rules, resting_all)
