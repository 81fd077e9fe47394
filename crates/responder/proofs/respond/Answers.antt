-- `respond` meets its contract: one law for each way out. Assumes nothing.
use borrow.Author.Rules.{rules}
use Rattle.responder.proofs.ReplyLaws.{roomy, cramped_way, written_way}
use Rattle.responder.proofs.respond.Goals as goal

pub returns-then-out-lt-LONGEST_ANSWER : goal.returns-then-out-lt-LONGEST_ANSWER
returns-then-out-lt-LONGEST_ANSWER c = search (rules, cramped_way)

pub write_answer-requires-clause-roomy : goal.write_answer-requires-clause-roomy
write_answer-requires-clause-roomy c = search (rules, roomy)

pub returns : goal.returns
returns c = search (rules, written_way)
