-- Demand 3, and what the count of misplaced blocks promises, whatever plans arrive: it is enough that what the methods write arrives, and that a plan that
-- arrives is no shorter than one that solves the problem. Assumes nothing.
use mathlib.Core.Path.{◌≡◌}
use Prim.Native.Nat.{◌≤◌}
use native.Mathlib.Omega.{arith}
use lib.ListN.{length}
use Rattle.blocks.specs.State.{State}
use Rattle.blocks.specs.Position.{Problem}
use Rattle.blocks.specs.Move.{Plan, Solves}
use Rattle.blocks.specs.Tests.{misplaced_count}
use Rattle.blocks.specs.Method.{Method, Gn1}
use Rattle.blocks.specs.Demands.{NoDeadlock, Promise, Fewest, HeadCount}
use Rattle.blocks.proofs.BoundLaws as bounds
use Rattle.blocks.proofs.MeasureLaws.{measure_le, misplaced_counts}
use Rattle.blocks.proofs.MethodLaws.{Written, gn1_other, method_written}

-- Which plans arrive for the problem of s and g.
pub record Arrival (Arrives : Plan → Type 0) (s g : State) : Type 0 where
  pub problem : Problem s g
  pub written : (m : Method) (p : Plan) → Written m s g p → Arrives p
  pub shorter : (q : Plan) → Arrives q → (r : Plan) × Solves s g r × (length r ≤ length q)

-- those that solve it
pub solving : {s g : State} → Problem s g → Arrival (Solves s g) s g
solving p = record { problem = p; written = λ m q w. w.solves; shorter = λ q w. (q, w, omega arith) }

module _ {Arrives : Plan → Type 0} {s g : State} (a : Arrival Arrives s g) where
  floor : (q : Plan) → Arrives q → misplaced_count s g ≤ length q
  floor q w = let r = a.shorter q w in omega (arith, r.2, bounds.lower_bound r.0 a.problem r.1)

  pub promised : (m : Method) (p : Plan) → Written m s g p → Promise Arrives m s g p
  promised m p w =
      record {
        arrives = a.written m p w;
        twice = λ q k. omega (arith, w.bound, measure_le s g a.problem.initial, floor q k);
        once = λ other free q k. omega (arith, w.once other free, floor q k);
        costs = λ l d q k. let r = a.shorter q k in omega (arith, r.2, bounds.deadlock_costs r.0 a.problem r.1 d.holds);
      }

  -- without a deadlock method 2 moves each misplaced block once; with one, every plan has a move more
  pub head_count : HeadCount Arrives s g (misplaced_count s g)
  head_count =
      record {
        counts = misplaced_counts s g a.problem.initial;
        floor = floor;
        fewest = (free_of, λ free. record { some = once free; least = floor });
      }
    where
      free_of : Fewest Arrives (misplaced_count s g) → NoDeadlock s g
      free_of f l d =
          let w = method_written Gn1 s g a.problem in
          omega (arith, f.some.2, (promised Gn1 w.0 w.2).costs l d f.some.0 f.some.1)

      once : NoDeadlock s g → (q : Plan) × Arrives q × (length q ≡ misplaced_count s g)
      once free =
          let w = method_written Gn1 s g a.problem in
          (w.0, a.written Gn1 w.0 w.2, w.2.once gn1_other free)
