-- `read_sheet` meets its contract: one law for each way out. Assumes nothing.
use borrow.Author.Rules.{rules}
use mathlib.Core.Path.{sym, ◌∙◌}
use native.Mathlib.Omega.{arith}
use Rattle.std.proofs.lemmas.Result.{err_from_is_err_and}
use Rattle.sheets.proofs.ReadLaws.{headless_way, long_way, now_missing_way, goal_missing_way, length_missing_way, whole_way}
use Rattle.sheets.proofs.read_sheet.Goals as goal

pub returns-in_err-measured : goal.returns-in_err-measured
returns-in_err-measured c =
    let p = err_from_is_err_and c.from_residual.result c.from_residual.ensures.1 in
    rw (p.1, p.2) (headless_way _ _ _ c.read_head.ensures c.in_err-measured.ensures.ok_part c.in_err-measured.ensures.value)

pub returns-then-n-gt-MOST : goal.returns-then-n-gt-MOST
returns-then-n-gt-MOST c = long_way _ _ (sym c.in_ok-measured.ensures.ok_part ∙ c.read_head.ensures) c.from-n.ensures _ (omega arith)

pub returns-then-nows-n : goal.returns-then-nows-n
returns-then-nows-n c =
    let is = sym c.in_ok-measured.ensures.ok_part ∙ c.read_head.ensures in
    now_missing_way _ _ is c.from-n.ensures _ (omega arith) (omega arith) c.new.result (search rules) c.entries-nows.ensures (omega arith)

pub returns-then-goals-n : goal.returns-then-goals-n
returns-then-goals-n c =
    let is = sym c.in_ok-measured.ensures.ok_part ∙ c.read_head.ensures in
    goal_missing_way _ _ is c.from-n.ensures _ (omega arith)
    (omega arith) c.new.result (search rules) c.entries-nows.ensures (omega arith)
    (omega arith) c.new-2.result (search rules) c.entries-goals.ensures (omega arith)

pub returns-then-measures-k : goal.returns-then-measures-k
returns-then-measures-k c =
    let is = sym c.in_ok-measured.ensures.ok_part ∙ c.read_head.ensures in
    length_missing_way _ _ is c.from-n.ensures _ (omega arith)
    (omega arith) c.new.result (search rules) c.entries-nows.ensures (omega arith)
    (omega arith) c.new-2.result (search rules) c.entries-goals.ensures (omega arith)
    c.length_count-k.ensures.0 (omega arith) c.new-3.result (search rules) c.entries-measures.ensures (omega arith)

pub returns : goal.returns
returns c =
    let is = sym c.in_ok-measured.ensures.ok_part ∙ c.read_head.ensures in
    whole_way _ _ is c.from-n.ensures _ (omega arith)
    (omega arith) c.new.result (search rules) c.entries-nows.ensures (omega arith)
    (omega arith) c.new-2.result (search rules) c.entries-goals.ensures (omega arith)
    c.length_count-k.ensures.0 (omega arith) c.new-3.result (search rules) c.entries-measures.ensures (omega arith)
    c.end_at.ensures
