-- `draw` meets its contract: its four ways out. Assumes nothing.
use borrow.Author.Rules.{rules}
use Rattle.training.proofs.TrainLaws.{some_count, drawn_too_many, drawn_from_zero, drawn_too_short, drawn_numbered, drawn}
use Rattle.training.proofs.draw.Goals as goal

pub returns-then-n-gt-HELD : goal.returns-then-n-gt-HELD
returns-then-n-gt-HELD c = search (rules, drawn_too_many)

pub returns-then-generator-eq0 : goal.returns-then-generator-eq0
returns-then-generator-eq0 c = search (rules, drawn_from_zero)

pub returns-then-out-n : goal.returns-then-out-n
returns-then-out-n c = search (rules, drawn_too_short)

pub nonzero_rem-drawn : goal.nonzero_rem-drawn
nonzero_rem-drawn c = search (rules, some_count)

pub arrange-requires : goal.arrange-requires
arrange-requires c = search (rules, drawn_numbered)

pub returns : goal.returns
returns c = search (rules, drawn)
