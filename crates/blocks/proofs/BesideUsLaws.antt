-- Document 02, Job 4: US writes as many moves as the measure says, and no method writes more. Assumes nothing.
use mathlib.Core.Path.{◌≡◌, refl, ap, subst}
use mathlib.Core.List.{List}
use mathlib.Core.Option.{some}
use Prim.Native.Nat.{ℕ, ◌≤◌}
use native.Mathlib.Omega.{arith}
use lib.ListN.{length}
use Rattle.lists.specs.Search.{count}
use Rattle.lists.proofs.SearchLaws.{count_counts}
use Rattle.blocks.specs.State.{State}
use Rattle.blocks.specs.Position.{Problem}
use Rattle.blocks.specs.Move.{Plan}
use Rattle.blocks.specs.Tests.{misplaced_count, twiceᵇ, measure}
use Rattle.blocks.specs.Stall.{Twice}
use Rattle.blocks.specs.Method.{Method, Us, method_of}
use Rattle.blocks.specs.Steps.{By}
use Rattle.blocks.specs.Answer.{plan_answer, plan_space}
use Rattle.blocks.specs.Sheet.{Sheet, goal_state, Call}
use Rattle.blocks.specs.Demands.{AllDownTakes}
use Rattle.blocks.specs.SheetDemands.{Plannable, BesideUs}
use Rattle.blocks.proofs.MeasureLaws.{misplaced_counts, twice_test}
use Rattle.blocks.proofs.MethodLaws.{Written, method_written, method_only}
use Rattle.blocks.proofs.GoalStateLaws.{bounded}
use Rattle.blocks.proofs.AnsweredLaws.{named, written_is, count_is}

pub all_down_lem : (s g : State) → Problem s g → AllDownTakes s g (measure s g)
unfolding measure
all_down_lem s g p =
    record {
      once = misplaced_count s g;
      again = count (twiceᵇ s g) (length s);
      misplaced = misplaced_counts s g p.initial;
      twice = count_counts (Twice s g) (twiceᵇ s g) (twice_test s g p.initial) (length s);
      sum = refl;
    }

-- a plan that the words of a method give is the one that it writes
written_by : (m : Method) (s g : State) → Problem s g → (p : Plan) → By m s g p → Written m s g p
written_by m s g i p k = let w = method_written m s g i in subst (Written m s g) (method_only m i w.2.told k) w.2

pub us_exact : (s g : State) → Problem s g → (p : Plan) → By Us s g p → length p ≡ measure s g
us_exact s g i p k = (written_by Us s g i p k).exact refl

pub no_more_than_us : (m : Method) (s g : State) → Problem s g → (p q : Plan) → By m s g p → By Us s g q → length p ≤ length q
no_more_than_us m s g i p q k u = omega (arith, (written_by m s g i p k).bound, (written_by Us s g i q u).exact refl)

module _ (h : Sheet) (c d : Call) (one space : List ℕ) (first : c.method ≡ 1) (v : Plannable c h one) (w : Plannable d h space) where
  pub beside_us : BesideUs h (plan_answer c h one) (plan_space c h one) (plan_answer d h space) (plan_space d h space)
  beside_us =
      let problem = (bounded v.accepted).problem in
      let m = named d.method w.method in
      let us-named : method_of c.method ≡ some Us = ap method_of first in
      let us = (method_written Us h.initial (goal_state h) problem).2 in
      let any = (method_written m.0 h.initial (goal_state h) (bounded w.accepted).problem).2 in
      let us-list = ap length (written_is c h one v Us us-named) in
      let any-list = ap length (written_is d h space w m.0 m.1) in
      let us-count = count_is c h one v Us us-named in
      let any-count = count_is d h space w m.0 m.1 in
      record {
        exact = omega (arith, us-list, us.exact refl);
        exact_count = omega (arith, us-count, us.exact refl);
        no_more = omega (arith, us-list, any-list, us.exact refl, any.bound);
        no_more_count = omega (arith, us-count, any-count, us.exact refl, any.bound);
      }
