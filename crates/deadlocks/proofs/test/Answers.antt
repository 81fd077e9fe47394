-- `test` meets its contract: a copy of the state is built, and looked at. Assumes nothing.
use borrow.Author.Rules.{rules}
use mathlib.Core.Path.{ap, ◌∙◌}
use lib.ListN.{length}
use lib.Seq.{length-take-le}
use Rattle.deadlocks.proofs.SeekLaws.{may_begin, first_steppable, loose_may, clean_way, lookable, look_way}
use Rattle.deadlocks.proofs.test.Goals as goal

pub slice_bounds-cur-end : goal.slice_bounds-cur-end
slice_bounds-cur-end c = search (rules, length-take-le)

pub begin-sets-requires : goal.begin-sets-requires
begin-sets-requires c = may_begin c.requires (search (rules, length-take-le))

pub run-requires : goal.run-requires
run-requires c = search (rules, first_steppable)

pub lowest-requires : goal.lowest-requires
lowest-requires c = loose_may c.requires c.begin-sets.ensures c.run.ensures

pub returns-in_err-lowest : goal.returns-in_err-lowest
returns-in_err-lowest c = rw c.from_residual.ensures (clean_way c.requires c.begin-sets.ensures c.run.ensures c.in_err-lowest.ensures)

pub look-requires : goal.look-requires
look-requires c = lookable c.requires c.begin-sets.ensures c.run.ensures (c.run.auto.cur ∙ ap length c.begin-sets.ensures.state) c.fit-sets.ensures

pub returns : goal.returns
returns c = look_way c.requires c.begin-sets.ensures c.run.ensures (c.run.auto.cur ∙ ap length c.begin-sets.ensures.state) c.fit-sets.ensures c.look.ensures
