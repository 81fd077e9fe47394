-- `place` meets its contract where a block goes to a tower: the code stores what the definition puts. Assumes nothing.
use borrow.Author.Rules.{rules}
use Rattle.training.proofs.PlaceLaws.{place_stack}
use Rattle.training.proofs.place.Goals as goal

pub returns : goal.returns
returns c = search (rules, place_stack)
