-- `wanted` meets its contract: one law for each way out. Assumes nothing.
use borrow.Author.Rules.{rules}
use mathlib.Core.Path.{sym, ◌∙◌}
use Rattle.responder.proofs.WantedLaws.{headless_way, unknown_way, wanting_way, decided_way}
use Rattle.responder.proofs.wanted.Goals.{then-is_err-via-then-is_err, then-is_err-via-else-is_err+then-decided_by-input}
use Rattle.responder.proofs.wanted.Goals as goal

pub returns-in_default : goal.returns-in_default
returns-in_default c = search (rules, headless_way)

pub returns-then-is_err : goal.returns-then-is_err
returns-then-is_err c =
    elim c.then-is_err.branch [
      | then-is_err-via-then-is_err w ↦ unknown_way _ c.in-Some.ensures c.try_from.ensures (sym c.is_err.ensures.value ∙ w.if-is_err.true)
      | then-is_err-via-else-is_err+then-decided_by-input w ↦ decided_way _ c.in-Some.ensures w.decided_by.ensures w.if-decided_by-input.true
    ]

pub returns : goal.returns
returns c =
    let called = sym c.is_err.ensures.value ∙ c.if-is_err.false in
    let behind = wanting_way _ c.in-Some.ensures c.try_from.ensures called c.decided_by.ensures c.if-decided_by-input.false in
    behind c.from-n.ensures c.length_count-k.ensures.0 c.size-2.ensures c.size-3.ensures c.saturating_sub-2.ensures
