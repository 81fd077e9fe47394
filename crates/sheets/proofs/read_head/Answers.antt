-- `read_head` meets its contract: one law for each way out. Assumes nothing.
use borrow.Author.Rules.{rules}
use Rattle.sheets.proofs.ReadLaws.{plain_way, measured_way, missing_way}
use Rattle.sheets.proofs.read_head.Goals as goal

pub returns-in-Some : goal.returns-in-Some
returns-in-Some c = search (rules, plain_way)

pub returns-in_err-first : goal.returns-in_err-first
returns-in_err-first c = rw c.from_residual.ensures (search (rules, missing_way))

pub returns : goal.returns
returns c = search (rules, measured_way)
