-- `turn` meets its contract: towers, standings, state, loads and sets, one after the other. Assumes nothing.
use borrow.Author.Rules.{rules}
use Rattle.statuses.proofs.TurnLaws.{movable, moving, turned}
use Rattle.statuses.proofs.turn.Goals as goal

pub make_move-requires : goal.make_move-requires
make_move-requires c = search (rules, movable)

pub refresh_four-requires : goal.refresh_four-requires
refresh_four-requires c = search (rules, moving)

pub returns : goal.returns
returns c = search (rules, turned)
