use Rattle.std.proofs.Common.{ap, not}
use borrow.Author.Rules.{rules}
use native.Mathlib.Omega.{arith}
use Rattle.rows.proofs.RowLaws.{scaled}
use Rattle.choices.proofs.WalkLaws.{resumable, resumed_in_lem, follows_begin, seeable, block_in, count_in, block_fits, count_fits, findable, follows_next, walked}
use Rattle.choices.proofs.walk.Goals as goal

pub resumed-k-requires : goal.resumed-k-requires
resumed-k-requires c = search (rules, resumable)

pub visit-b-requires : goal.visit-b-requires
visit-b-requires c = search (rules, resumed_in_lem)

pub loop-yard-init : goal.loop-yard-init
loop-yard-init c = search (rules, follows_begin)

pub is_seen-requires : goal.is_seen-requires
is_seen-requires c = search (rules, seeable)

pub overflow_cast-yard : goal.overflow_cast-yard
overflow_cast-yard c = search (rules, count_fits)

pub offset_bounds-yard-b : goal.offset_bounds-yard-b
offset_bounds-yard-b c = search (rules, scaled, block_in)

pub bounds-yard-b : goal.bounds-yard-b
bounds-yard-b c = search (rules, block_in)

pub overflow_cast-yard-in-loop-yard : goal.overflow_cast-yard-in-loop-yard
overflow_cast-yard-in-loop-yard c = search (rules, block_fits)

pub offset_bounds-yard-k : goal.offset_bounds-yard-k
offset_bounds-yard-k c = search (rules, scaled, count_in)

pub bounds-yard-k : goal.bounds-yard-k
bounds-yard-k c = search (rules, count_in)

pub overflow_add-k : goal.overflow_add-k
overflow_add-k c = record { fits = omega (arith, count_in c.loop-yard.invariant) }

pub find-b-requires : goal.find-b-requires
find-b-requires c = search (rules, findable)

pub loop-yard-smaller : goal.loop-yard-smaller
loop-yard-smaller c = omega (arith, count_in c.loop-yard.invariant)

pub loop-yard-preserved : goal.loop-yard-preserved
loop-yard-preserved c = search (rules, follows_next)

pub offset_bounds-yard-b-2 : goal.offset_bounds-yard-b-2
offset_bounds-yard-b-2 c = search (rules, scaled, block_in)

pub bounds-yard-b-after-loop-yard : goal.bounds-yard-b-after-loop-yard
bounds-yard-b-after-loop-yard c = search (rules, block_in)

pub returns : goal.returns
returns c = walked c.loop-yard.invariant c.is_seen.ensures (ap not c.loop-yard-test.false) c.from.ensures
