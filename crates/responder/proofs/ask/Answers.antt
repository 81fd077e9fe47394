-- `ask` meets its contract: one law for each way out. Assumes nothing.
use borrow.Author.Rules.{rules}
use mathlib.Core.Path.{refl}
use native.Mathlib.Omega.{arith}
use Rattle.std.proofs.lemmas.Result.{err_from_is_err_and}
use Rattle.responder.proofs.AskLaws.{whole_read, whole_small, unread_way, tail_way, plan_way}
use Rattle.responder.proofs.ask.Goals as goal

pub returns-in_err-n : goal.returns-in_err-n
returns-in_err-n c =
    let p = err_from_is_err_and c.from_residual.result c.from_residual.ensures.1 in
    rw (p.1, p.2) (unread_way c.read_sheet.ensures c.in_err-n.ensures.cases _)

pub overflow_mul-n : goal.overflow_mul-n
overflow_mul-n c = let small = whole_small c.read_sheet.ensures _ c.in_ok-n.ensures.cases in search rules

pub overflow_add-n : goal.overflow_add-n
overflow_add-n c = let small = whole_small c.read_sheet.ensures _ c.in_ok-n.ensures.cases in search rules

pub overflow_add-n-then-input-end : goal.overflow_add-n-then-input-end
overflow_add-n-then-input-end c = let small = whole_small c.read_sheet.ensures _ c.in_ok-n.ensures.cases in search rules

pub overflow_cast-n : goal.overflow_cast-n
overflow_cast-n c = let small = whole_small c.read_sheet.ensures _ c.in_ok-n.ensures.cases in search rules

pub shared_ref_as_front-sheet : goal.shared_ref_as_front-sheet
shared_ref_as_front-sheet c = let small = whole_small c.read_sheet.ensures _ c.in_ok-n.ensures.cases in search rules

pub shared_ref_as_front-sheet-2 : goal.shared_ref_as_front-sheet-2
shared_ref_as_front-sheet-2 c = let small = whole_small c.read_sheet.ensures _ c.in_ok-n.ensures.cases in search rules

pub shared_ref_as_front-then_some : goal.shared_ref_as_front-then_some
shared_ref_as_front-then_some c = let small = whole_small c.read_sheet.ensures _ c.in_ok-n.ensures.cases in search rules

pub returns-then-input-end : goal.returns-then-input-end
returns-then-input-end c =
    tail_way (whole_read c.read_sheet.ensures c.in_ok-n.ensures.cases) c.length_count-k.ensures.0 (λ e. omega arith) c.refused_at-tail.ensures c.refused.ensures _

pub returns : goal.returns
returns c =
    plan_way (whole_read c.read_sheet.ensures c.in_ok-n.ensures.cases) c.length_count-k.ensures.0 _ (omega arith) c.requires c.then_some.ensures refl c.plan.ensures
