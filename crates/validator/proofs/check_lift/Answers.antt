-- `check_lift` meets its contract: a law for each way out. Assumes nothing.
use Rattle.std.proofs.lemmas.Result.{err_from_is_err_and}
use Rattle.validator.proofs.BadLaws.{bad_move}
use Rattle.validator.proofs.LiftLaws.{unmeasured, lift_within, long, fitting}
use Rattle.validator.proofs.check_lift.Goals as goal

pub returns-in_err-check_move : goal.returns-in_err-check_move
returns-in_err-check_move c =
    let p = err_from_is_err_and c.from_residual.result c.from_residual.ensures.1 in
    rw (p.1, p.2) (bad_move _ _ _ _ _ c.in_err-check_move.ensures)

pub returns-in_default : goal.returns-in_default
returns-in_default c = rw c.in_default.is (unmeasured _ _ _ c.in_ok-check_move.ensures)

pub too_long-requires : goal.too_long-requires
too_long-requires c = lift_within _ _ _ c.in_ok-check_move.ensures _ (rw c.in-Some.is at c.requires.1)

pub returns-then-too_long : goal.returns-then-too_long
returns-then-too_long c = rw c.in-Some.is (long _ _ _ c.in_ok-check_move.ensures _ c.too_long.ensures c.if-too_long.true)

pub returns : goal.returns
returns c = rw c.in-Some.is (fitting _ _ _ c.in_ok-check_move.ensures _ c.too_long.ensures c.if-too_long.false)
