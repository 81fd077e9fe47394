-- `lowest_in` meets its contract. The invariant: `low` is one of the blocks, and none of those passed is lower. Assumes nothing.
use Rattle.choices.proofs.SpanLaws.{Lowering}
use Rattle.choices.proofs.lowest_in.Given as goal

abbrev pub invariant-loop-b : goal.invariant-loop-b
invariant-loop-b l = Lowering l.blocks l.b-index l.low
