-- `unlock` meets its contract: the loop is walked, and the walk cut at its lowest block. Assumes nothing.
use borrow.Author.Rules.{rules}
use Rattle.rows.proofs.RowLaws.{scaled}
use Rattle.choices.proofs.UnlockLaws.{low_in, unlocked}
use Rattle.choices.proofs.unlock.Goals as goal

pub offset_bounds-yard-low : goal.offset_bounds-yard-low
offset_bounds-yard-low c = search (rules, scaled, low_in)

pub bounds-yard-low : goal.bounds-yard-low
bounds-yard-low c = search (rules, low_in)

pub returns : goal.returns
returns c = search (rules, unlocked)
