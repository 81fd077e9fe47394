-- One law for each way out. Assumes nothing.
use borrow.Author.Rules.{rules}
use Rattle.std.proofs.lemmas.Result.{err_from_is_err_and}
use Rattle.rows.proofs.RowLaws.{fresh_new}
use Rattle.validator.proofs.ValidateLaws.{refused_way, odd_way, followable, judged_way}
use Rattle.validator.proofs.validate.Goals as goal

pub examine-requires : goal.examine-requires
examine-requires c = search (rules, fresh_new)

pub returns-in_err-examine : goal.returns-in_err-examine
returns-in_err-examine c =
    let p = err_from_is_err_and c.from_residual.result c.from_residual.ensures.1 in
    rw (p.1, p.2) (refused_way _ c.in_err-examine.ensures)

pub returns-then-moves-ne0 : goal.returns-then-moves-ne0
returns-then-moves-ne0 c = odd_way c.in_ok-examine.ensures c.refused.ensures (search rules)

pub judge-requires : goal.judge-requires
judge-requires c = followable c.in_ok-examine.ensures (search rules)

pub returns : goal.returns
returns c = judged_way c.in_ok-examine.ensures (search rules) c.judge.ensures
