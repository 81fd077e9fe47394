-- `run_method` meets its contract: the state is copied, and one run is made or two. Assumes nothing.
use borrow.Author.Rules.{rules}
use lib.Seq.{length-take-le}
use Rattle.std.proofs.Common.{◌≡◌, false, ap}
use Rattle.planner.specs.Answers.{as_method, is_us}
use Rattle.planner.proofs.SolveLaws.{not_us, may_begin, first_steppable, one_way, second_steppable, two_way}
use Rattle.planner.proofs.run_method.Goals as goal

pub slice_bounds-cur-end : goal.slice_bounds-cur-end
slice_bounds-cur-end c = search (rules, length-take-le)

pub begin-sets-requires : goal.begin-sets-requires
begin-sets-requires c = may_begin c.requires (search (rules, length-take-le))

pub run-k-requires : goal.run-k-requires
run-k-requires c = first_steppable c.requires (as_method c.args.method) c.mode-mode.ensures c.begin-sets.ensures

pub run-requires : goal.run-requires
run-requires c = second_steppable c.requires (as_method c.args.method) c.mode-mode.ensures c.begin-sets.ensures c.run-k.ensures (ap (λ m. is_us (as_method m)) c.in-Us.is)

pub returns-in-Us : goal.returns-in-Us
returns-in-Us c = two_way c.requires (as_method c.args.method) c.mode-mode.ensures c.begin-sets.ensures c.run-k.ensures (ap (λ m. is_us (as_method m)) c.in-Us.is) c.run.ensures

pub returns-in-Gn1 : goal.returns-in-Gn1
returns-in-Gn1 c =
    let no : is_us (as_method c.args.method) ≡ false = not_us c.args.method c.in-Gn1.is in
    one_way c.requires (as_method c.args.method) c.mode-mode.ensures c.begin-sets.ensures c.run-k.ensures no
