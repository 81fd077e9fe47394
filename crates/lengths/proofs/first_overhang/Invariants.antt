-- `first_overhang` meets its contract. The invariant: the blocks from 1 to i do not overhang. Assumes nothing.
use lib.ListN.{length}
use Rattle.lengths.proofs.MeasureLaws.{Resting}
use Rattle.lengths.proofs.first_overhang.Given as goal

abbrev pub invariant-loop-i : goal.invariant-loop-i
invariant-loop-i l = Resting l.s l.lengths (length l.s) l.i
