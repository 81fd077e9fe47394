-- `write_answer` meets its contract: one law for each case. Assumes nothing.
use borrow.Author.Rules.{rules}
use Rattle.responder.proofs.ReplyLaws.{no_room, refused_written, plan_written}
use Rattle.responder.proofs.write_answer.Goals as goal

pub put_record-requires : goal.put_record-requires
put_record-requires c = search (rules, no_room)

pub returns-in-Ok : goal.returns-in-Ok
returns-in-Ok c = search (rules, plan_written)

pub returns-in-Err : goal.returns-in-Err
returns-in-Err c = search (rules, refused_written)
