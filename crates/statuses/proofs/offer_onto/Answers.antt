-- `offer_onto` meets its contract: a block goes onto u, or none does, and the table is not ready. Assumes nothing.
use mathlib.Core.Path.{sym, ◌∙◌}
use Rattle.statuses.proofs.RefreshLaws.{none_offered}
use Rattle.statuses.proofs.offer_onto.Goals as goal

pub returns-in_default : goal.returns-in_default
returns-in_default c = none_offered c.args.u c.requires.1 (sym c.onto.ensures ∙ c.in_default.is)
