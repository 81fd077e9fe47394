use borrow.Author.Rules.{rules}
use Rattle.rows.proofs.RowLaws.{scaled}
use Rattle.std.proofs.Common.{◌+◌, arith}
use Rattle.towers.proofs.FillLaws.{Walking, walking_skip, walking_next, walking_end, next_markable, bottom_small}
use Rattle.towers.proofs.fill_towers.Goals.{Joined-yard-loads-eq0, then-yard-loads-eq0, else-yard-loads-eq0}
use Rattle.towers.proofs.fill_towers.Goals as goal

pub mark_tower-requires : goal.mark_tower-requires
mark_tower-requires c = search (rules, next_markable)

pub offset_bounds-yard-r : goal.offset_bounds-yard-r
offset_bounds-yard-r c = search (rules, scaled, bottom_small)

pub bounds-yard-r : goal.bounds-yard-r
bounds-yard-r c = search (rules, bottom_small)

-- one block further
further : (c : Joined-yard-loads-eq0) → Walking c.args.s.now c.args.loads c.args.bottoms c.args.yard.now (c.loop-b.b + 1) c.if-yard-loads-eq0.yard
further c =
    elim c.if-yard-loads-eq0.branch [
      | then-yard-loads-eq0 w ↦ rw w.yard-is (search (rules, walking_next))
      | else-yard-loads-eq0 w ↦ rw w.yard-is (search (rules, walking_skip))
    ]

pub loop-b-preserved : goal.loop-b-preserved
loop-b-preserved c = further (goal.at.loop-b-preserved c).Joined-yard-loads-eq0

pub returns-after-yard-loads-eq0 : goal.returns-after-yard-loads-eq0
returns-after-yard-loads-eq0 c = walking_end (further (goal.at.returns-after-yard-loads-eq0 c).Joined-yard-loads-eq0) (omega arith)
