-- Every way out answers what the questions come to; the states are surveyed one after the other. Assumes nothing.
use borrow.Author.Rules.{rules}
use Rattle.problem.proofs.CheckLaws.{sound_turned, long_way, uneven_way, initial_turned, goal_turned}
use Rattle.std.proofs.lemmas.Result.{err_from_is_err_and}
use Rattle.problem.proofs.examine.Goals as goal

pub returns-then-initial-gt-MOST : goal.returns-then-initial-gt-MOST
returns-then-initial-gt-MOST c = search (rules, long_way)

pub returns-then-goal-initial : goal.returns-then-goal-initial
returns-then-goal-initial c = search (rules, uneven_way)

pub returns-in_err-map_err : goal.returns-in_err-map_err
returns-in_err-map_err c =
    let p = err_from_is_err_and c.from_residual.result c.from_residual.ensures.1 in
    rw (p.1, p.2) (initial_turned (search rules) (search rules) _ _ c.survey.ensures c.map_err.ensures.cases c.in_err-map_err.was (λ x q k. search rules))

pub returns : goal.returns
returns c = goal_turned (search rules) (search rules) _ _ (sound_turned _ c.survey.ensures c.in_ok-map_err.ensures.variant) c.survey-2.ensures c.map_err-2.ensures.cases (λ x q k. search rules)
