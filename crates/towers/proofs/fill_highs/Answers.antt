use borrow.Author.Rules.{rules}
use Rattle.std.proofs.Common.{◌+◌, arith}
use Rattle.towers.proofs.HighLaws.{Raising, root_in, raising_skip, raising_next, raising_end}
use Rattle.towers.proofs.fill_highs.Goals.{Joined-yard-b-eq0, then-yard-b-eq0, else-yard-b-eq0}
use Rattle.towers.proofs.fill_highs.Goals as goal

pub bounds-yard-r : goal.bounds-yard-r
bounds-yard-r c = search (rules, root_in)

-- one block further
further : (c : Joined-yard-b-eq0) → Raising c.args.goal.now c.args.yard.now c.if-yard-b-eq0.yard (c.loop-b.b + 1)
further c =
    elim c.if-yard-b-eq0.branch [
      | then-yard-b-eq0 w ↦ rw w.yard-is (search (rules, raising_next))
      | else-yard-b-eq0 w ↦ rw w.yard-is (search (rules, raising_skip))
    ]

pub loop-b-preserved : goal.loop-b-preserved
loop-b-preserved c = further (goal.at.loop-b-preserved c).Joined-yard-b-eq0

pub returns-after-yard-b-eq0 : goal.returns-after-yard-b-eq0
returns-after-yard-b-eq0 c = raising_end (further (goal.at.returns-after-yard-b-eq0 c).Joined-yard-b-eq0) (omega arith)
