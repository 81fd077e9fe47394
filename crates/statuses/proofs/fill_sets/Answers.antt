use borrow.Author.Rules.{rules}
use native.Mathlib.Omega.{arith}
use Rattle.statuses.proofs.SetsLaws.{filling_begin, filling_next, filling_end}
use Rattle.statuses.proofs.fill_sets.Goals as goal

pub loop-b-init : goal.loop-b-init
loop-b-init c = search (rules, filling_begin)

pub returns : goal.returns
returns c = search (rules, filling_end)

pub returns-2 : goal.returns-2
returns-2 c = filling_end (filling_next c.loop-b.invariant c.admit.ensures) (omega arith)
