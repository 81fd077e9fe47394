-- `shift` meets its contract: the three stores make the rows of the state after the move. Assumes nothing.
use borrow.Author.Rules.{rules}
use Rattle.towers.proofs.ShiftLaws.{left_within, left_scaled, joined_within, joined_scaled, joined_fits, shifted_rows}
use Rattle.towers.proofs.shift.Goals as goal

pub offset_bounds-yard-left : goal.offset_bounds-yard-left
offset_bounds-yard-left c = search (rules, left_scaled)

pub bounds-yard-left : goal.bounds-yard-left
bounds-yard-left c = search (rules, left_within)

pub offset_bounds-yard-joined : goal.offset_bounds-yard-joined
offset_bounds-yard-joined c = search (rules, joined_scaled)

pub bounds-yard-joined : goal.bounds-yard-joined
bounds-yard-joined c = search (rules, joined_within)

pub overflow_cast-yard-3 : goal.overflow_cast-yard-3
overflow_cast-yard-3 c = search (rules, joined_fits)

pub returns : goal.returns
returns c = search (rules, shifted_rows)
