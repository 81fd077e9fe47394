-- The invariant: what is left to follow gives what the whole gives, and the current state and its loads are known. Assumes nothing.
use mathlib.Core.Path.{◌≡◌}
use lib.ListN.{length}
use Rattle.blocks.specs.Sheet.{measured_by}
use Rattle.lengths.specs.Checks.{given_in}
use Rattle.validator.proofs.FollowLaws.{Following}
use Rattle.validator.proofs.follow.Given as goal

abbrev pub invariant-loop-k : goal.invariant-loop-k
invariant-loop-k l = Following (measured_by (given_in l.lengths) l.initial.cur l.goal) l.moves l.count l.k l.cur l.loads × (length l.cur ≡ length l.initial.cur) × (length l.loads ≡ length l.initial.loads)
