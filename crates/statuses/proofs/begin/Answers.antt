use Rattle.std.proofs.Common.{◌≡◌, arith}
use Rattle.std.proofs.lemmas.Grind.{same_number_lists}
use Rattle.statuses.proofs.BeginLaws.{known_start, begun}
use Rattle.statuses.proofs.begin.Goals.{After-loop-i}
use Rattle.statuses.proofs.begin.Goals as goal

copied : (c : After-loop-i) → c.loop-i.cur ≡ c.args.initial.now
copied c = same_number_lists c.loop-i.cur c.args.initial.now (omega arith) (λ k h. c.loop-i.invariant k (omega arith))

pub fit-requires : goal.fit-requires
fit-requires c = known_start c.requires (copied (goal.at.fit-requires c).After-loop-i)

pub returns : goal.returns
returns c = begun (copied (goal.at.returns c).After-loop-i) c.fit.ensures
