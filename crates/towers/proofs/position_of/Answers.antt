-- `position_of` meets its contract: a law for each of its two answers. Assumes nothing.
use borrow.Author.Rules.{rules}
use Rattle.towers.proofs.FindLaws.{right_way, wrong_way, ask_root}
use Rattle.towers.proofs.position_of.Goals as goal

pub returns-then-in_position : goal.returns-then-in_position
returns-then-in_position c = λ s g w h. search (rules, right_way w h)

pub bounds-yard-r : goal.bounds-yard-r
bounds-yard-r c = search (rules, ask_root)

pub returns : goal.returns
returns c = λ s g w h. search (rules, wrong_way w h)
