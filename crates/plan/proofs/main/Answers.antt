-- `plan::main` is safe and ends. Assumes nothing.
use native.Mathlib.Omega.{arith}
use Rattle.responder.proofs.SizeLaws.{enough_is}
use Rattle.plan.proofs.main.Goals as goal

pub read_input-n-requires : goal.read_input-n-requires
read_input-n-requires c = omega (arith, enough_is)
