-- `entries_at` meets its contract. The invariant: what is still to be read completes what was written. Assumes nothing.
use Rattle.records.proofs.EntryLaws.{Entering}
use Rattle.records.proofs.entries_at.Given as goal

abbrev pub invariant-loop-i : goal.invariant-loop-i
invariant-loop-i l = Entering l.kind l.bytes l.at l.initial.out l.step l.out l.place l.i
