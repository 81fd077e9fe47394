-- The deadlock test agrees with the definition at the start (docs/WHY.md, step 3): constructive moves keep every deadlock and make none. Assumes nothing.
use mathlib.Core.Path.{◌≡◌, refl, sym, ap, ◌∙◌, subst}
use mathlib.Core.Logic.{◌≢◌, ◌↔◌}
use mathlib.Core.Bool.{Bool, cond}
use mathlib.Core.List.{List, [], ◌∷◌}
use Prim.Native.Nat.{ℕ, zero, suc, ◌+◌, ◌*◌, ◌≤◌, ◌<◌}
use native.Mathlib.Omega.{arith}
use native.Mathlib.Nat.{le_of_suc-le-suc}
use lib.ListN.{length, get_or}
use Rattle.blocks.specs.State.{State}
use Rattle.blocks.specs.Position.{Problem, Nearest}
use Rattle.blocks.specs.Move.{Plan, after}
use Rattle.blocks.specs.Tests.{nearest, misplaced_count}
use Rattle.blocks.specs.Deadlock.{Deadlock}
use Rattle.blocks.specs.Loop.{loop, blocker, onward, blocked_rows, shown_width}
use Rattle.blocks.specs.Method.{end_of, built, deadlock_loop, deadlock_rows}
use Rattle.blocks.specs.Demands.{NoDeadlock, Shown}
use Rattle.blocks.specs.Stall.{IsLoop, NoneReady}
use Rattle.blocks.specs.Steps.{Builds}
use Rattle.lists.proofs.ReflectLaws.{Reflects, holds, fails, eqb_reflects}
use Rattle.blocks.proofs.DeadlockLaws.{deadlock_stands, deadlock_old}
use Rattle.blocks.proofs.NearestLaws.{nearest_is}
use Rattle.blocks.proofs.MisplacedLaws.{none_misplaced, some_misplaced}
use Rattle.blocks.proofs.LoopLaws.{loop_closed, loop_short, onward_closed, onward_length, onward_lowest, loop_deadlock}
use Rattle.blocks.proofs.RunLaws.{Run, run_end, run_told, run_with, run_back}
use Rattle.blocks.proofs.StepLaws.{builds_constructive}
use Rattle.blocks.proofs.MethodLaws.{building_runs, enough}

-- the run of constructive moves to the built state
abbrev pub Building : State → State → Plan → Type 0
Building g s p = Run (λ t. Problem t g) (Builds g) (λ t. NoneReady t g) s p

pub built_run : {s g : State} → Problem s g → (p : Plan) × (built s g ≡ after s p) × Building g s p
unfolding built
built_run {s} {g} p = let r = building_runs _ s g p (enough p) in (r.0, ap (end_of s) r.1, r.2)

-- the built state is stalled or the goal, and has just the deadlocks of the start
pub record Built (s g t : State) : Type 0 where
  pub problem : Problem t g
  pub stalled : NoneReady t g
  pub keeps : {k : ℕ} {b d : ℕ → ℕ} → Deadlock s g k b d → Deadlock t g k b d
  pub had : {k : ℕ} {b d : ℕ → ℕ} → Deadlock t g k b d → Deadlock s g k b d

pub built_is : {s g : State} → Problem s g → Built s g (built s g)
built_is {s} {g} p = let r = built_run p in subst (Built s g) (sym r.1) (at r.0 r.2)
  where
    at : (q : Plan) → Building g s q → Built s g (after s q)
    at q r =
        record {
          problem = (run_end r).0;
          stalled = (run_end r).1;
          keeps = λ {k} {b} {d} h. (run_end (run_with (λ t. Deadlock t g k b d) (λ t a x i c w. deadlock_stands i w (builds_constructive c)) h r)).0.1;
          had = λ {k} {b} {d} h. run_back (λ t. Deadlock t g k b d) (λ t a x i c w. deadlock_old (builds_constructive c) w) r h;
        }

-- ---- the rows

pub rows_at : (s g : State) (l : List ℕ) (i : ℕ) → i < length l
    → (get_or (blocked_rows s g l) (shown_width * i) 0 ≡ get_or l i 0) × (get_or (blocked_rows s g l) (shown_width * i + 1) 0 ≡ blocker s g (get_or l i 0))
    × (get_or (blocked_rows s g l) (shown_width * i + 2) 0 ≡ nearest s g (get_or l i 0))
unfolding blocked_rows
rows_at s g [] i h = absurd (omega arith)
rows_at s g (b ∷ l) zero h = (refl, refl, refl)
rows_at s g (b ∷ l) (suc i) h =
    let r = rows_at s g l i (le_of_suc-le-suc h) in
    let w = shown_width in (
      behind (w * suc i) (w * i) (omega arith) ∙ r.0,
      behind (w * suc i + 1) (w * i + 1) (omega arith) ∙ r.1,
      behind (w * suc i + 2) (w * i + 2) (omega arith) ∙ r.2,
    )
  where
    -- one row lies before
    behind : (k j : ℕ) → k ≡ suc (suc (suc j)) → get_or (b ∷ blocker s g b ∷ nearest s g b ∷ blocked_rows s g l) k 0 ≡ get_or (blocked_rows s g l) j 0
    behind k j e = ap (λ k. get_or (b ∷ blocker s g b ∷ nearest s g b ∷ blocked_rows s g l) k 0) e

pub rows_length : (s g : State) (l : List ℕ) → length (blocked_rows s g l) ≡ shown_width * length l
unfolding blocked_rows
rows_length s g [] = refl
rows_length s g (b ∷ l) = let r = rows_length s g l in omega arith

-- ---- the test

module _ {s g : State} (p : Problem s g) where
  w : Built s g (built s g)
  w = built_is p

  -- what the test gives: nothing where nothing is misplaced in the built state, else its loop from the lowest number onward
  pub data Test : List ℕ → Type 0 where
    clean : misplaced_count (built s g) g ≡ 0 → Test []
    looped : misplaced_count (built s g) g ≢ 0 → Test (onward (built s g) (loop (built s g) g))

  tested : Test (deadlock_loop s g)
  unfolding deadlock_loop
  tested = by (eqb_reflects (misplaced_count (built s g) g) 0)
    where
      by : {c : Bool} → Reflects (misplaced_count (built s g) g ≡ 0) c → Test (cond c [] (onward (built s g) (loop (built s g) g)))
      by (holds e) = clean e
      by (fails n) = looped n

  closed : misplaced_count (built s g) g ≢ 0 → IsLoop (built s g) g (loop (built s g) g)
  closed n = loop_closed w.problem w.stalled (some_misplaced w.problem n).1

  -- nothing misplaced, nothing deadlocked
  none : misplaced_count (built s g) g ≡ 0 → NoDeadlock s g
  none e l k = let h = w.keeps k.holds in h.misplaced 0 h.some (none_misplaced w.problem e (get_or l 0 0))

  found : (n : misplaced_count (built s g) g ≢ 0)
      → Shown s g (onward (built s g) (loop (built s g) g)) (blocked_rows (built s g) g (onward (built s g) (loop (built s g) g)))
  found n =
      let l = onward (built s g) (loop (built s g) g) in
      let k = loop_deadlock w.problem w.stalled (onward_closed w.problem (closed n)) in
      let run = built_run p in
      record {
        d = k.0;
        deadlock = w.had k.1;
        slab = λ i h. (rows_at (built s g) g l i h).0;
        beside = λ i h. (rows_at (built s g) g l i h).1 ∙ sym (k.2 i h);
        moves = run.0;
        stalls = run_told run.2;
        third = λ i h.
            let c = nearest_is w.problem (get_or l i 0) ((onward_closed w.problem (closed n)).waiting i h).0 in
            subst (λ t. Nearest t g (get_or l i 0) (get_or (blocked_rows (built s g) g l) (shown_width * i + 2) 0)) run.1
            (subst (Nearest (built s g) g (get_or l i 0)) (sym (rows_at (built s g) g l i h).2) c);
        lowest = λ i h. onward_lowest w.problem (closed n) i (rw (onward_length (built s g) (loop (built s g) g)) at h);
      }

  pub deadlock_none : (length (deadlock_loop s g) ≡ 0) ↔ NoDeadlock s g
  deadlock_none = by tested
    where
      by : {l : List ℕ} → Test l → (length l ≡ 0) ↔ NoDeadlock s g
      by (clean e) = (λ _. none e, λ _. refl)
      by (looped n) =
          let k = found n in
          (λ z. absurd (omega (arith, z, k.deadlock.some)), λ free. absurd (free (onward (built s g) (loop (built s g) g)) (record { d = k.d; holds = k.deadlock })))

  pub deadlock_shown : length (deadlock_loop s g) ≢ 0 → Shown s g (deadlock_loop s g) (deadlock_rows s g)
  unfolding deadlock_rows
  deadlock_shown = by tested
    where
      by : {l : List ℕ} → Test l → length l ≢ 0 → Shown s g l (blocked_rows (built s g) g l)
      by (clean e) h = absurd (h refl)
      by (looped n) h = found n

  pub deadlock_short : length (deadlock_loop s g) ≤ length s
  deadlock_short = by tested
    where
      by : {l : List ℕ} → Test l → length l ≤ length s
      by (clean e) = omega arith
      by (looped n) =
          omega (
            arith,
            onward_length (built s g) (loop (built s g) g),
            loop_short w.problem w.stalled (some_misplaced w.problem n).1,
            p.same,
            w.problem.same,
          )

pub deadlock_fits : (s g : State) → Problem s g → length (deadlock_rows s g) ≤ shown_width * length s
unfolding deadlock_rows
deadlock_fits s g p = omega (arith, rows_length (built s g) g (deadlock_loop s g), deadlock_short p)

-- how many numbers the rows have
pub rows_size : (s g : State) → length (deadlock_rows s g) ≡ shown_width * length (deadlock_loop s g)
unfolding deadlock_rows
rows_size s g = rows_length (built s g) g (deadlock_loop s g)
