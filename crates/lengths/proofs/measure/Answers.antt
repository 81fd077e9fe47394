-- `measure` meets its contract: a law for each way out. Assumes nothing.
use borrow.Author.Rules.{rules}
use Rattle.lengths.proofs.MeasureLaws.{initial_measurable, goal_measurable, overhang_fits, count_way, initial_way, goal_way, level_way}
use Rattle.lengths.proofs.measure.Goals as goal

pub returns-then-lengths-initial : goal.returns-then-lengths-initial
returns-then-lengths-initial c = search (rules, count_way)

pub overflow_cast-block : goal.overflow_cast-block
overflow_cast-block c = overhang_fits (initial_measurable c.requires (search rules)) c.in-Some.ensures

pub returns-in-Some : goal.returns-in-Some
returns-in-Some c = initial_way _ _ _ (search rules) c.refused_at.ensures c.in-Some.ensures

pub overflow_cast-block-in-Some-first_overhang : goal.overflow_cast-block-in-Some-first_overhang
overflow_cast-block-in-Some-first_overhang c = overhang_fits (goal_measurable c.requires (search rules)) c.in-Some-first_overhang.ensures

pub returns-in-Some-first_overhang : goal.returns-in-Some-first_overhang
returns-in-Some-first_overhang c =
    goal_way _ _ _ (search rules) c.in_default.ensures c.refused_at-in-Some-first_overhang.ensures c.in-Some-first_overhang.ensures

pub returns : goal.returns
returns c = level_way _ _ _ (search rules) c.in_default.ensures c.in_default-first_overhang.ensures
