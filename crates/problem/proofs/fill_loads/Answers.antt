use borrow.Author.Rules.{rules}
use Rattle.problem.proofs.FillLaws.{filling_begin, entry_in, filling_found, filling_next, filling_end}
use Rattle.problem.proofs.fill_loads.Goals as goal

pub loop-i-init : goal.loop-i-init
loop-i-init c = search (rules, filling_begin)

pub taken-requires : goal.taken-requires
taken-requires c = search (rules, entry_in)

pub returns-then-taken : goal.returns-then-taken
returns-then-taken c = search (rules, filling_found)

pub bounds-load-x : goal.bounds-load-x
bounds-load-x c = search (rules, entry_in)

pub loop-i-preserved : goal.loop-i-preserved
loop-i-preserved c = search (rules, filling_next)

pub returns : goal.returns
returns c = search (rules, filling_end)
