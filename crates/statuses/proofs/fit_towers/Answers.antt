-- `fit_towers` meets its contract: no towers are kept, or those of both states are filled. Assumes nothing.
use borrow.Author.Rules.{rules}
use Rattle.statuses.proofs.BeginLaws.{climbable, fitted}
use Rattle.statuses.proofs.fit_towers.Goals as goal

pub fill_highs-requires : goal.fill_highs-requires
fill_highs-requires c = search (rules, climbable)

pub returns : goal.returns
returns c = search (rules, fitted)
