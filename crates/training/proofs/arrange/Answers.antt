-- `arrange` meets its contract: the blocks are taken on a list of its own, which is copied to the front of the lent one. Assumes nothing.
use borrow.Author.Rules.{rules}
use Rattle.training.proofs.ArrangeLaws.{start_placing, arrange_whole}
use Rattle.training.proofs.arrange.Goals as goal

pub place_all-requires : goal.place_all-requires
place_all-requires c = search (rules, start_placing)

pub returns : goal.returns
returns c = search (rules, arrange_whole)
