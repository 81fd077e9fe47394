-- `deadlock` meets its contract: a law for each way out. Assumes nothing.
use borrow.Author.Rules.{rules}
use native.Mathlib.Omega.{arith}
use Rattle.std.proofs.lemmas.Result.{err_from_is_err_and}
use Rattle.rows.proofs.RowLaws.{fresh_new, fresh_front, sized_new}
use Rattle.deadlocks.proofs.TestedLaws.{refused_way, room_way, seekable, test_way}
use Rattle.deadlocks.proofs.deadlock.Goals as goal

pub examine-requires : goal.examine-requires
examine-requires c = fresh_front (fresh_new 9) (omega arith)

pub returns-in_err-examine : goal.returns-in_err-examine
returns-in_err-examine c =
    let p = err_from_is_err_and c.from_residual.result c.from_residual.ensures.1 in
    rw (p.1, p.2) (refused_way _ _ c.in_err-examine.ensures)

pub returns-then-out-sheet : goal.returns-then-out-sheet
returns-then-out-sheet c = room_way _ _ c.in_ok-examine.ensures (search rules) c.refused.ensures

pub test-requires : goal.test-requires
test-requires c = seekable c.in_ok-examine.ensures sized_new (fresh_new 9) (search rules)

pub returns : goal.returns
returns c = test_way _ _ c.in_ok-examine.ensures (search rules) c.test.ensures
