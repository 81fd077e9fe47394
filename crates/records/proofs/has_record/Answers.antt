-- `has_record` meets its contract. Assumes nothing.
use borrow.Author.Rules.{rules}
use native.Mathlib.Omega.{arith}
use Rattle.records.proofs.ReadLaws.{has_short, has_other, has_mark}
use Rattle.records.proofs.has_record.Goals.{then-bytes-at-via-then-bytes-at, then-bytes-at-via-else-bytes-at+then-bytes-at-2}
use Rattle.records.proofs.has_record.Goals as goal

pub returns-then-bytes-at : goal.returns-then-bytes-at
returns-then-bytes-at c =
    has_short _ _ _
    (elim c.then-bytes-at.branch [ then-bytes-at-via-then-bytes-at w ↦ omega arith | then-bytes-at-via-else-bytes-at+then-bytes-at-2 w ↦ omega arith ])

pub returns-then-bytes-at-3 : goal.returns-then-bytes-at-3
returns-then-bytes-at-3 c = search (rules, has_mark)

pub returns-else-bytes-at-3 : goal.returns-else-bytes-at-3
returns-else-bytes-at-3 c = search (rules, has_other)
