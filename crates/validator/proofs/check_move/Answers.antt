-- One law for each way out. Assumes nothing.
use borrow.Author.Rules.{rules}
use Rattle.validator.proofs.FaultLaws.{no_block, above_blocks, outside, covered, already, itself, occupied, legal}
use Rattle.validator.proofs.check_move.Goals as goal

pub returns-then-a-lt1 : goal.returns-then-a-lt1
returns-then-a-lt1 c = search (rules, no_block)

pub returns-then-n-a : goal.returns-then-n-a
returns-then-n-a c = search (rules, above_blocks)

pub returns-then-n-x : goal.returns-then-n-x
returns-then-n-x c = search (rules, outside)

pub returns-then-loads-a-ne0 : goal.returns-then-loads-a-ne0
returns-then-loads-a-ne0 c = search (rules, covered)

pub returns-then-x-from : goal.returns-then-x-from
returns-then-x-from c = search (rules, already)

pub returns-then-x-a : goal.returns-then-x-a
returns-then-x-a c = search (rules, itself)

pub returns-then-taken : goal.returns-then-taken
returns-then-taken c = search (rules, occupied)

pub returns : goal.returns
returns c = search (rules, legal)
