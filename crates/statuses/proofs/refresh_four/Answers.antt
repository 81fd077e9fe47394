-- `refresh_four` meets its contract: two blocks are decided anew, or four. Assumes nothing.
use mathlib.Core.Path.{refl}
use Rattle.statuses.proofs.RefreshLaws.{may_offer, two, may_admit, may_offer_next, four}
use Rattle.statuses.proofs.refresh_four.Goals as goal

pub offer_onto-requires : goal.offer_onto-requires
offer_onto-requires c = may_offer c.requires c.refresh.ensures

pub returns-then-u-eq0 : goal.returns-then-u-eq0
returns-then-u-eq0 c = two c.requires c.refresh.ensures c.offer_onto.ensures refl c.if-u-eq0.true

pub admit-requires : goal.admit-requires
admit-requires c = may_admit c.requires c.refresh.ensures c.offer_onto.ensures refl

pub offer_onto-requires-2 : goal.offer_onto-requires-2
offer_onto-requires-2 c = may_offer_next c.requires c.refresh.ensures c.offer_onto.ensures refl c.admit.ensures

pub returns : goal.returns
returns c = four c.requires c.refresh.ensures c.offer_onto.ensures refl c.admit.ensures c.if-u-eq0.false c.offer_onto-2.ensures refl
