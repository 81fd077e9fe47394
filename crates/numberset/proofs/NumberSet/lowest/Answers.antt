-- `lowest` meets its contract. Assumes nothing.
use Rattle.numberset.proofs.MemberLaws.{lowest_found}
use Rattle.numberset.proofs.NumberSet.lowest.Goals as goal

pub returns : goal.returns
returns c =
    let out = rw (← c.self.view_is) at c.requires in
    rw (← c.self.view_is) (lowest_found _ c.self.invariant out c.if-summary-eq0.false)
