-- `examine` meets its contract: a law for each way out. Assumes nothing.
use Rattle.std.proofs.lemmas.Result.{err_from_is_err_and}
use Rattle.problem.proofs.CheckLaws.{accepted}
use Rattle.lengths.proofs.ExamineLaws.{refused_way, accepted_way, plain_way}
use Rattle.std.proofs.Common.{refl}
use Rattle.std.proofs.Math.Option.{some}
use Rattle.blocks.specs.Sheet.{measured_by}
use Rattle.lengths.proofs.examine.Goals as goal

pub returns-in_err-examine : goal.returns-in_err-examine
returns-in_err-examine c =
    let p = err_from_is_err_and c.from_residual.result c.from_residual.ensures.1 in
    rw (p.1, p.2) (refused_way _ c.in_err-examine.ensures)

pub measure-requires : goal.measure-requires
measure-requires c = accepted c.in_ok-examine.ensures refl

pub returns-in-Some : goal.returns-in-Some
returns-in-Some c = rw c.in-Some.is (accepted_way (measured_by (some c.in-Some.lengths.now) c.args.sheet.initial.now c.args.sheet.goal.now) c.in_ok-examine.ensures c.measure.ensures)

pub returns-in-None : goal.returns-in-None
returns-in-None c = rw c.in-None.is (plain_way _ _ c.in_ok-examine.ensures)
