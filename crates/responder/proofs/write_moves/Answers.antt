use borrow.Author.Rules.{rules}
use Rattle.responder.proofs.MoveLaws.{writing_begin, pair_first, pair_second, record_room, writing_next, writing_end}
use Rattle.responder.proofs.write_moves.Goals as goal

pub loop-i-init : goal.loop-i-init
loop-i-init c = search (rules, writing_begin)

pub bounds-pairs-i : goal.bounds-pairs-i
bounds-pairs-i c = search (rules, pair_first)

pub bounds-pairs-i-in-loop-i : goal.bounds-pairs-i-in-loop-i
bounds-pairs-i-in-loop-i c = search (rules, pair_second)

pub put_record-at-requires : goal.put_record-at-requires
put_record-at-requires c = search (rules, record_room)

pub loop-i-preserved : goal.loop-i-preserved
loop-i-preserved c = search (rules, writing_next)

pub returns : goal.returns
returns c = search (rules, writing_end)
