-- The theorems of specs/Demands, proved: each is a law of one of the files beside this one. Assumes nothing.
use mathlib.Core.Path.{◌≡◌, ap}
use mathlib.Core.Logic.{◌↔◌}
use mathlib.Core.Bool.{Bool, true}
use Prim.Native.Nat.{◌*◌, ◌≤◌}
use native.Mathlib.Omega.{arith}
use lib.ListN.{length}
use Rattle.blocks.specs.State.{State}
use Rattle.blocks.specs.Position.{Problem}
use Rattle.blocks.specs.Move.{Plan, Solves}
use Rattle.blocks.specs.Method.{Method, plan, outcome}
use Rattle.blocks.specs.Demands.{Promise, Economy, Theorems}
use Rattle.lists.proofs.ReflectLaws.{Reflects, from_true, to_true}
use Rattle.blocks.proofs.GroundLaws as ground
use Rattle.blocks.proofs.ClearLaws as clear
use Rattle.blocks.proofs.PositionLaws as positions
use Rattle.blocks.proofs.NearestLaws as names
use Rattle.blocks.proofs.MovedLaws as moved
use Rattle.blocks.proofs.MeasureLaws.{measure_le, misplaced_le}
use Rattle.blocks.proofs.StallLaws as stalls
use Rattle.blocks.proofs.LoopLaws as loops
use Rattle.blocks.proofs.LoopToldLaws as told
use Rattle.blocks.proofs.MethodLaws.{Written, method_written, method_only, method_told}
use Rattle.blocks.proofs.PromiseLaws.{solving, promised, head_count}
use Rattle.blocks.proofs.DeadlockTestLaws as deadlocks
use Rattle.blocks.proofs.DeadlockToldLaws as words
use Rattle.blocks.proofs.FlatLaws as flats
use Rattle.blocks.proofs.BesideUsLaws as beside

-- a test that reflects a property, said as an equivalence
pub exactly : {P : Type 0} {t : Bool} → Reflects P t → (t ≡ true) ↔ P
exactly r = (λ e. from_true r e, λ q. to_true r q)

thrifty : (m : Method) (s g : State) (p : Plan) → Written m s g p → Economy m s g p
thrifty m s g p w =
    record {
      careful = w.careful;
      only = moved.careful_moves_only p s g w.solves.legal w.careful;
      bound = w.bound;
      exact = w.exact;
      one_each = w.once;
    }

demand : (m : Method) (s g : State) → Problem s g → (p : Plan) × (outcome m s g ≡ plan p) × Promise (Solves s g) m s g p × Economy m s g p
demand m s g q = let w = method_written m s g q in (w.0, w.1, promised (solving q) m w.0 w.2, thrifty m s g w.0 w.2)

-- 2 × n moves at most
plan_fits : (m : Method) (s g : State) → Problem s g → (p : Plan) → outcome m s g ≡ plan p → 2 * length p ≤ 4 * length s
plan_fits m s g q p e =
    let w = method_written m s g q in
    let same : w.0 ≡ p = cc w.1 in
    let short : length w.0 ≡ length p = ap length same in
    omega (arith, short, w.2.bound, measure_le s g q.initial, misplaced_le s g)

pub theorems : Theorems
theorems =
    record {
      position_test = λ s g p b. exactly (positions.position_test s g p b);
      position_told = names.position_told;
      names_none = names.names_none;
      clear_test = λ s b. exactly (clear.clear_test s b);
      ready_test = λ s g p b. exactly (positions.ready_test s g p b);
      waiting_test = λ s g p b. exactly (positions.waiting_test s g p b);
      perched_test = λ s g p b. exactly (positions.perched_test s g p b);
      grounded_test = λ s h b l. exactly (ground.grounded_test s h b l);
      pairs_back = flats.pairs_back;
      pairs_forth = flats.pairs_forth;
      methods = method_told;
      methods_only = λ m s g p q r. method_only m p;
      loop_told = λ s g p h. told.loop_told p h.none_ready h.misplaced;
      last_misplaced_lem = λ s g p. stalls.last_misplaced_lem p;
      successor_waits = λ s g p. stalls.successor_waits p;
      loop_closed = λ s g p h b m. loops.loop_closed p h m;
      deadlock_none = λ s g p. deadlocks.deadlock_none p;
      deadlock_shown = λ s g p. deadlocks.deadlock_shown p;
      third_only = words.third_only;
      deadlock_told = words.deadlock_told;
      deadlock_fits = deadlocks.deadlock_fits;
      demand = demand;
      plan_fits = plan_fits;
      moves_all = λ s g p q. moved.moves_all q s g;
      head_count = λ s g p. head_count (solving p);
      all_down_lem = beside.all_down_lem;
      us_exact = beside.us_exact;
      no_more_than_us = beside.no_more_than_us;
    }
