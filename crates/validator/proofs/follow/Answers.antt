use borrow.Author.Rules.{rules}
use Rattle.validator.proofs.FollowLaws.{bad_way, movable, next, differs_way, arrives_way}
use Rattle.validator.proofs.follow.Goals as goal

pub returns-in-Err : goal.returns-in-Err
returns-in-Err c = bad_way c.loop-k.invariant.0 (search rules) c.from-a.ensures c.from-x.ensures c.in-Err.ensures

pub make_move-requires : goal.make_move-requires
make_move-requires c = movable c.loop-k.invariant.0 (search rules) c.from-a.ensures c.from-x.ensures c.in_default.ensures

pub loop-k-preserved : goal.loop-k-preserved
loop-k-preserved c = (
  next c.loop-k.invariant.0 (search rules) c.from-a.ensures c.from-x.ensures c.in_default.ensures c.make_move.ensures,
  search rules,
  search rules,
)

pub returns-in-Some : goal.returns-in-Some
returns-in-Some c = differs_way c.loop-k.invariant.0 (search rules) c.in-Some.ensures

pub returns-in-None : goal.returns-in-None
returns-in-None c = arrives_way c.loop-k.invariant.0 (search rules) c.in-None.ensures
