-- `plan::read_input` meets its contract and ends. Assumes nothing.
use borrow.Author.Rules.{rules}
use Rattle.plan.proofs.ReadLaws.{next_within, next_fits, fewer_left}
use Rattle.plan.proofs.read_input.Goals as goal

pub overflow_add-n : goal.overflow_add-n
overflow_add-n c = let got = c.in-Some.ensures.some in search (rules, next_fits)

pub loop-got-smaller : goal.loop-got-smaller
loop-got-smaller c = let got = c.in-Some.ensures.some in search (rules, fewer_left)

pub loop-got-preserved : goal.loop-got-preserved
loop-got-preserved c = let got = c.in-Some.ensures.some in search (rules, next_within)
