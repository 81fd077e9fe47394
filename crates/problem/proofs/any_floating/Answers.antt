use borrow.Author.Rules.{rules}
use native.Mathlib.Numerals.{add-one}
use Rattle.lists.proofs.ScanLaws.{sweep_begin, sweep_next}
use Rattle.problem.proofs.any_floating.Goals as goal

pub loop-i-init : goal.loop-i-init
loop-i-init c = search (rules, sweep_begin)

pub loop-i-preserved : goal.loop-i-preserved
loop-i-preserved c = search (rules, sweep_next, add-one)
