-- `look` meets its contract: nothing waits, or the loop is walked and shown. Assumes nothing.
use Rattle.std.proofs.Common.{refl}
use Rattle.deadlocks.proofs.LookLaws.{loose_may, none_way, walkable, in_order, part_within, part_scaled, part_some, showable, loop_way}
use Rattle.deadlocks.proofs.look.Goals as goal

pub lowest-requires : goal.lowest-requires
lowest-requires c = loose_may c.requires

pub returns-in_err-start : goal.returns-in_err-start
returns-in_err-start c = rw c.from_residual.ensures (none_way c.requires c.in_err-start.ensures)

pub walk-part-requires : goal.walk-part-requires
walk-part-requires c = walkable c.requires c.in_ok-start.ensures

pub overflow_sub-count : goal.overflow_sub-count
overflow_sub-count c = in_order c.requires c.in_ok-start.ensures c.walk-part.ensures

pub offset_bounds-yard-part : goal.offset_bounds-yard-part
offset_bounds-yard-part c = part_scaled c.requires c.in_ok-start.ensures c.walk-part.ensures

pub slice_bounds-lowest_in-start : goal.slice_bounds-lowest_in-start
slice_bounds-lowest_in-start c = in_order c.requires c.in_ok-start.ensures c.walk-part.ensures

pub slice_bounds-lowest_in-end : goal.slice_bounds-lowest_in-end
slice_bounds-lowest_in-end c = part_within c.requires c.in_ok-start.ensures c.walk-part.ensures

pub slice_bounds-lowest_in-count : goal.slice_bounds-lowest_in-count
slice_bounds-lowest_in-count c = in_order c.requires c.in_ok-start.ensures c.walk-part.ensures

pub lowest_in-low-requires : goal.lowest_in-low-requires
lowest_in-low-requires c = part_some c.requires c.in_ok-start.ensures c.walk-part.ensures

pub show-requires : goal.show-requires
show-requires c = showable c.requires c.in_ok-start.ensures c.walk-part.ensures c.lowest_in-low.ensures refl

pub returns : goal.returns
returns c = loop_way c.requires c.in_ok-start.ensures c.walk-part.ensures c.lowest_in-low.ensures refl c.show.ensures
