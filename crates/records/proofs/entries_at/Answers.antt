-- `entries_at` meets its contract. Assumes nothing.
use borrow.Author.Rules.{rules}
use Rattle.std.proofs.lemmas.List.{set-get_or}
use Rattle.records.proofs.EntryLaws.{entering_fits, entering_next, entering_missing, entering_end}
use Rattle.records.proofs.entries_at.Goals as goal

pub returns-in_default : goal.returns-in_default
returns-in_default c = rw set-get_or (search (rules, entering_missing))

pub overflow_add-place : goal.overflow_add-place
overflow_add-place c = search (rules, entering_fits)

pub loop-i-preserved : goal.loop-i-preserved
loop-i-preserved c = entering_next c.loop-i.invariant c.loop-i-test.true c.in-Some.ensures

pub returns : goal.returns
returns c = search (rules, entering_end)
