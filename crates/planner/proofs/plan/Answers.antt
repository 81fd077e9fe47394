-- `plan` meets its contract: a law for each way out. Assumes nothing.
use borrow.Author.Rules.{rules}
use native.Mathlib.Omega.{arith}
use Rattle.std.proofs.lemmas.Result.{err_from_is_err_and}
use Rattle.rows.proofs.RowLaws.{fresh_new, fresh_front, sized_new}
use Rattle.planner.proofs.PlanLaws.{unknown_way, limit_way, refused_way, room_way, solvable, made_way}
use Rattle.planner.proofs.plan.Goals as goal

pub examine-requires : goal.examine-requires
examine-requires c = fresh_front (fresh_new 9) (omega arith)

pub solve-requires : goal.solve-requires
solve-requires c = solvable c.in_ok-examine.ensures sized_new (fresh_new 9) (search rules)

pub returns-in_err-method : goal.returns-in_err-method
returns-in_err-method c =
    let p = err_from_is_err_and c.from_residual.result c.from_residual.ensures.1 in
    rw (p.1, p.2) (unknown_way _ _ _ c.in_err-method.ensures)

pub returns-then-beyond : goal.returns-then-beyond
returns-then-beyond c = limit_way _ _ _ _ c.in_ok-method.ensures c.beyond.ensures c.if-beyond.true c.refused.ensures

pub returns-in_err-examine : goal.returns-in_err-examine
returns-in_err-examine c =
    let p = err_from_is_err_and c.from_residual-in_err-examine.result c.from_residual-in_err-examine.ensures.1 in
    rw (p.1, p.2) (refused_way _ _ _ _ c.in_ok-method.ensures c.beyond.ensures c.if-beyond.false c.in_err-examine.ensures)

pub returns-then-out-sheet : goal.returns-then-out-sheet
returns-then-out-sheet c = room_way _ _ _ _ c.in_ok-method.ensures c.beyond.ensures c.if-beyond.false c.in_ok-examine.ensures (search rules) c.refused-then-out-sheet.ensures

pub returns : goal.returns
returns c = made_way _ _ _ _ c.in_ok-method.ensures c.beyond.ensures c.if-beyond.false c.in_ok-examine.ensures (search rules) c.solve.ensures
