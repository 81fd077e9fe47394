-- `find` meets its contract: each value looked up is the one that the rows are known to hold there. Assumes nothing.
use borrow.Author.Rules.{rules}
use Rattle.rows.proofs.RowLaws.{scaled}
use Rattle.towers.proofs.FindLaws.{askable, above_is, asked_in, high_in, way_is, way_in, bottom_in_lem, next_is}
use Rattle.towers.proofs.find.Goals as goal

pub nearest-above-requires : goal.nearest-above-requires
nearest-above-requires c = search (rules, askable)

pub offset_bounds-yard-b : goal.offset_bounds-yard-b
offset_bounds-yard-b c = search (rules, scaled, asked_in)

pub bounds-yard-b : goal.bounds-yard-b
bounds-yard-b c = search (rules, asked_in)

pub in_the_way-by-requires : goal.in_the_way-by-requires
in_the_way-by-requires c = search (rules, above_is, high_in)

pub offset_bounds-yard-by : goal.offset_bounds-yard-by
offset_bounds-yard-by c = search (rules, scaled, above_is, way_in)

pub bounds-yard-by : goal.bounds-yard-by
bounds-yard-by c = search (rules, above_is, way_in)

pub bounds-yard-from : goal.bounds-yard-from
bounds-yard-from c = search (rules, above_is, bottom_in_lem)

pub returns : goal.returns
returns c = λ s g w m. record { above = search (rules, above_is); by = search (rules, above_is, way_is w m); next = search (rules, above_is, next_is w m) }
