-- Each question is asked by a function of its own; the ways out are laws. Assumes nothing.
use borrow.Author.Rules.{rules}
use Rattle.problem.proofs.SurveyLaws.{outside_fits, shared_fits, lowest_fits, outside_way, shared_way, floating_way, sound_way}
use Rattle.problem.proofs.survey.Goals as goal

pub overflow_cast-result : goal.overflow_cast-result
overflow_cast-result c = search (rules, outside_fits)

pub returns-in-Some : goal.returns-in-Some
returns-in-Some c = search (rules, outside_way)

pub overflow_cast-result-in-Some-fill_loads : goal.overflow_cast-result-in-Some-fill_loads
overflow_cast-result-in-Some-fill_loads c = search (rules, shared_fits)

pub returns-in-Some-fill_loads : goal.returns-in-Some-fill_loads
returns-in-Some-fill_loads c = shared_way c.requires c.in_default.ensures c.fill_loads.auto.load c.in-Some-fill_loads.ensures

pub overflow_cast-result-in-Some-first_floating : goal.overflow_cast-result-in-Some-first_floating
overflow_cast-result-in-Some-first_floating c = search (rules, lowest_fits)

pub returns-in-Some-first_floating : goal.returns-in-Some-first_floating
returns-in-Some-first_floating c = floating_way c.requires c.in_default.ensures c.fill_loads.auto.load c.in_default-fill_loads.ensures c.climb.ensures c.in-Some-first_floating.ensures

pub returns : goal.returns
returns c = sound_way c.requires c.in_default.ensures c.fill_loads.auto.load c.in_default-fill_loads.ensures c.climb.ensures c.in_default-first_floating.ensures
