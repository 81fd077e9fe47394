-- `resumed` meets its contract. The invariant: what is left to be looked at has the same last misplaced block. Assumes nothing.
use Rattle.std.proofs.Common.{◌≡◌, ◌≤◌}
use Rattle.choices.specs.Visits.{kept_of, last_wrong}
use Rattle.choices.proofs.resumed.Given as goal

abbrev pub invariant-loop-k : goal.invariant-loop-k
invariant-loop-k l = (l.k ≤ kept_of l.yard) × (last_wrong l.yard l.k ≡ last_wrong l.yard (kept_of l.yard))
