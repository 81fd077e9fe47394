-- `put_record` meets its contract. Assumes nothing.
use borrow.Author.Rules.{rules}
use mathlib.Core.Path.{◌∙◌}
use Rattle.records.proofs.MarkLaws.{fields_low}
use Rattle.records.proofs.WriteLaws.{put_one, put_two}
use Rattle.records.proofs.put_record.Goals.{then-mark-eq2, else-mark-eq2}
use Rattle.records.proofs.put_record.Goals as goal

pub put_field-requires : goal.put_field-requires
put_field-requires c = search (rules, fields_low)

pub returns : goal.returns
returns c =
    elim c.if-mark-eq2.branch [
      | then-mark-eq2 w ↦ let written = w.bytes-is ∙ w.put_field-then-mark-eq2.ensures in search (rules, put_two)
      | else-mark-eq2 w ↦ let written = w.bytes-is ∙ c.put_field.ensures in search (rules, put_one)
    ]
