-- `climb` meets its contract. The invariants: `Rising` of ClimbLaws, between the towers and on the way up one. Assumes nothing.
use Prim.Native.Nat.{◌+◌}
use lib.ListN.{length}
use Rattle.rows.specs.Rows.{row}
use Rattle.problem.proofs.ClimbLaws.{Rising, begun, left}
use Rattle.problem.proofs.climb.Given as goal

abbrev pub invariant-loop-i : goal.invariant-loop-i
invariant-loop-i l = Rising l.s l.goal l.loads (begun l.loads l.fn.rows) (length l.s) 0 l.i 2 l.rows

abbrev pub invariant-loop-block : goal.invariant-loop-block
invariant-loop-block l = Rising l.s l.goal l.loads (begun l.loads l.fn.rows) (length l.s) l.block (l.i + 1) l.below l.rows

abbrev pub decreases-loop-block : goal.decreases-loop-block
decreases-loop-block l = left l.s (row l.rows (l.loads + 1)) (l.i + 1)
