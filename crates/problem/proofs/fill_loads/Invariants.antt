-- `fill_loads` meets its contract. The invariant: no block from 1 to i rests where a lower one rests, and their loads are filled in. Assumes nothing.
use Rattle.problem.proofs.FillLaws.{Filling}
use lib.ListN.{length}
use Rattle.problem.proofs.fill_loads.Given as goal

abbrev pub invariant-loop-i : goal.invariant-loop-i
invariant-loop-i l = Filling l.s l.initial.load (length l.s) l.load l.i
