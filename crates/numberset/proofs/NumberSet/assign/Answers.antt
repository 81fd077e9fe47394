-- `assign` meets its contract: the word of x and then the summary are written, each with one bit changed. Assumes nothing.
use borrow.Author.Rules.{rules}
use Rattle.numberset.proofs.MemberLaws.{assigned_valid, assigned}
use Rattle.numberset.proofs.NumberSet.assign.Goals as goal

pub invariant_of-self : goal.invariant_of-self
invariant_of-self c = search (rules, assigned_valid)

pub returns : goal.returns
returns c = rw (← c.self.view_is) (search (rules, assigned))
