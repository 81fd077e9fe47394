-- `record_at` meets its contract. Assumes nothing.
use borrow.Author.Rules.{rules}
use Rattle.records.proofs.ReadLaws.{room_one, room_two, no_record, one_field, two_fields}
use Rattle.records.proofs.record_at.Goals as goal

pub returns-then-not-has_record : goal.returns-then-not-has_record
returns-then-not-has_record c = search (rules, no_record)

pub overflow_add-at : goal.overflow_add-at
overflow_add-at c = search (rules, room_one)

pub field_at-first-requires : goal.field_at-first-requires
field_at-first-requires c = search (rules, room_one)

pub overflow_add-at-then-mark-eq2 : goal.overflow_add-at-then-mark-eq2
overflow_add-at-then-mark-eq2 c = search (rules, room_two)

pub field_at-second-requires : goal.field_at-second-requires
field_at-second-requires c = search (rules, room_two)

pub returns-then-mark-eq2 : goal.returns-then-mark-eq2
returns-then-mark-eq2 c = search (rules, two_fields)

pub returns-else-mark-eq2 : goal.returns-else-mark-eq2
returns-else-mark-eq2 c = search (rules, one_field)
