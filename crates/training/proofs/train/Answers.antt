-- `train` meets its contract: its four ways out. Assumes nothing.
use borrow.Author.Rules.{rules}
use Rattle.training.proofs.TrainLaws.{too_many, too_high, too_short, trained}
use Rattle.training.proofs.train.Goals as goal

pub returns-then-n-gt-HELD : goal.returns-then-n-gt-HELD
returns-then-n-gt-HELD c = search (rules, too_many)

pub returns-then-count_of-r : goal.returns-then-count_of-r
returns-then-count_of-r c = search (rules, too_high)

pub returns-then-out-n : goal.returns-then-out-n
returns-then-out-n c = search (rules, too_short)

pub returns : goal.returns
returns c = search (rules, trained)
