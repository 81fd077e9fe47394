-- The three methods arrive (docs/WHY.md, steps 5, 6 and 8): their runs, what they put down, where they end, and how many moves they write.
-- Source: document 001, sections 3.1 and 3.2. Assumes nothing.
use mathlib.Core.Path.{◌≡◌, refl, sym, ap, ◌∙◌, subst}
use mathlib.Core.Logic.{◌≢◌, ◌↔◌}
use mathlib.Core.List.{List, ◌++◌}
use Prim.Native.Nat.{ℕ, zero, suc, ◌+◌, ◌≤◌}
use native.Mathlib.Omega.{arith}
use lib.ListN.{length, length-append}
use Rattle.blocks.specs.State.{State, support, put, down, Clear}
use Rattle.blocks.specs.Position.{Problem, Misplaced}
use Rattle.blocks.specs.Move.{Plan, Constructive, CarefulPlan, Solves, after}
use Rattle.blocks.specs.Deadlock.{Deadlocked}
use Rattle.lists.specs.Search.{Lowest}
use Rattle.blocks.specs.Tests.{misplaced_count, measure}
use Rattle.blocks.specs.Loop.{loop, top, successor}
use Rattle.blocks.specs.Method.{plan, precede, and_then, iterate, fuel, lowest_perched, lowest_on_loop, clearing, building, solving, Method, Us, Gn1, Gn2, outcome}
use Rattle.blocks.specs.Stall.{IsLoop, NoneReady, Perched, Waiting, Moves}
use Rattle.blocks.specs.Steps.{Steps, On, LoopOf, Builds, Clears, Unlocks, Stalled, NoneMisplaced, ByUs, Solving, builds, clears, By}
use Rattle.lists.proofs.ReflectLaws.{not-not, eqb_reflects}
use Rattle.lists.proofs.SearchLaws.{lowest_only}
use Rattle.blocks.proofs.StateLaws.{support_put_other, down_table}
use Rattle.blocks.proofs.FrameLaws.{problem_moved, position_frame, clear_frame}
use Rattle.blocks.proofs.TowerLaws.{Reaches}
use Rattle.blocks.proofs.PositionLaws.{position_moved, position_table, misplaced_block}
use Rattle.blocks.proofs.DeadlockLaws.{deadlock_old}
use Rattle.blocks.proofs.MisplacedLaws.{some_misplaced, misplaced_none, none_misplaced_is_goal}
use Rattle.blocks.proofs.StallLaws.{top_clear, waiting_above, successor_waits, above_off_table}
use Rattle.blocks.proofs.LoopLaws.{loop_closed, loop_deadlock, loop_perched, lowest_on}
use Rattle.blocks.proofs.LoopToldLaws.{loop_is, loop_only}
use Rattle.blocks.proofs.MeasureLaws.{measure_le, misplaced_le, fewer, measure_once}
use Rattle.blocks.proofs.RunLaws.{Run, runs, run_told, steps_only, steps_kept, run_end, run_legal, run_careful, run_takes, run_bound, run_with, after_append, legal_append, careful_append}
use Rattle.blocks.proofs.StepLaws.{Chooses, Picks, chooses_picks, clearing_steps, building_steps, solving_steps, solving_moves, builds_constructive, clears_moves}
use Rattle.blocks.proofs.StepLaws.{moves_legal, moves_misplaced, moves_careful, moves_measure, clears_measure, perched_none, perched_lowest}

-- ---- what is misplaced, and what is put down

-- in a stalled state with a misplaced block some block is perched: the successor of a misplaced clear one
pub perched_exists : {s g : State} → Problem s g → NoneReady s g → {b : ℕ} → Misplaced s g b → (c : ℕ) × Perched s g c
perched_exists {s} {g} p h {b} m =
    let w = successor_waits p h (top s (length s) b) (waiting_above p b m) in
    (successor s g (top s (length s) b), (w.0, above_off_table w.1))

-- method 2 puts down the lowest perched block
gn1_chooses : (g : State) → Chooses g lowest_perched Clears
gn1_chooses g =
    record {
      picks = λ s p h. record { lowest = found s p h (lowest_perched s g) refl; table = refl };
      perched = λ s a x p h w. (w.lowest.holds, w.table);
      only = λ s a b x y p v w. lowest_only v.lowest w.lowest;
    }
  where
    found : (s : State) → Problem s g → Stalled s g → (b : ℕ) → lowest_perched s g ≡ b → Lowest (Perched s g) (length s) b
    found s p h zero e = let w = perched_exists p h.none_ready h.misplaced in absurd (perched_none p e w.0 w.1)
    found s p h (suc i) e = perched_lowest p i e

pub perched_picked : (g : State) → Picks g lowest_perched
perched_picked g = chooses_picks (gn1_chooses g)

-- method 3 puts down the lowest block of the loop, which is perched
gn2_chooses : (g : State) → Chooses g lowest_on_loop Unlocks
unfolding lowest_on_loop
gn2_chooses g =
    record {
      picks = λ s p h. record { loop = loop s g; is = loop_is p h.none_ready h.misplaced; lowest = lowest_on p (closed s p h); table = refl };
      perched = λ s a x p h w. (on s a p h w.loop w.is w.lowest.holds, w.table);
      only = λ s a b x y p v w. lowest_only v.lowest (subst (λ l. Lowest (On l) (length s) b) (loop_only p.initial w.is v.is) w.lowest);
    }
  where
    closed : (s : State) → Problem s g → Stalled s g → IsLoop s g (loop s g)
    closed s p h = loop_closed p h.none_ready h.misplaced

    on : (s : State) (a : ℕ) → Problem s g → Stalled s g → (l : List ℕ) → LoopOf s g l → On l a → Perched s g a
    on s a p h l w o =
        let same : On (loop s g) a = subst (λ k. On k a) (loop_only p.initial w (loop_is p h.none_ready h.misplaced)) o in
        rw same.2 (loop_perched p h.none_ready (closed s p h) same.0 same.1)

pub loop_picked : (g : State) → Picks g lowest_on_loop
loop_picked g = chooses_picks (gn2_chooses g)

-- ---- the state after the first loop of US: every misplaced block is clear and on the table

pub Spread : State → State → Type 0
Spread s g = (b : ℕ) → Misplaced s g b → (support s b ≡ 0) × Clear s b

-- Idea: the top of a misplaced block's tower is misplaced, so it stands on the table, and is that block.
spread_begins : {s g : State} → Problem s g → ((b : ℕ) → ¬ Perched s g b) → Spread s g
unfolding Spread
spread_begins {s} {g} p none b m = by t.1.0 t.1.1
  where
    w : Waiting s g (top s (length s) b)
    w = waiting_above p b m

    t : Clear s (top s (length s) b) × Reaches s (top s (length s) b) b
    t = let k = misplaced_block p.same m in top_clear p b (λ z. absurd (omega (arith, z, k.low))) k.high

    floor : support s (top s (length s) b) ≡ 0
    floor = not-not (eqb_reflects (support s (top s (length s) b)) 0) (λ n. none (top s (length s) b) (w, n))

    by : (k : ℕ) → down s k (top s (length s) b) ≡ b → (support s b ≡ 0) × Clear s b
    by zero e = (subst (λ y. support s y ≡ 0) e floor, subst (Clear s) e t.0)
    by (suc k) e = absurd (m (rw (sym e ∙ ap (down s k) floor ∙ down_table s k) (position_table s g)))

spread_kept : {s g : State} {a x : ℕ} → Constructive s g a x → Spread s g → Spread (put s a x) g
unfolding Spread
spread_kept {s} {g} {a} {x} c h b m =
    (support_put_other s a x b other ∙ (h b before).0, clear_frame c.legal away (h b before).1)
  where
    other : b ≢ a
    other e = m (rw e (position_moved c))

    before : Misplaced s g b
    before i = m (position_frame c.legal other i)

    away : b ≢ x
    away e = before (rw e c.position)

-- there a constructive move exists while anything is misplaced: a successor would be off the table
spread_ends : {s g : State} → Problem s g → Spread s g → NoneReady s g → misplaced_count s g ≡ 0
unfolding Spread
spread_ends {s} {g} p h stalled =
    not-not (eqb_reflects (misplaced_count s g) 0) (λ n.
    let w = perched_exists p stalled (some_misplaced p n).1 in
    w.1.1 (h w.0 w.1.0.0).0)

-- ---- the runs

-- the measure is within the fuel
pub enough : {s g : State} → Problem s g → measure s g ≤ fuel s
unfolding fuel
enough {s} {g} p = omega (arith, measure_le s g p.initial, misplaced_le s g)

-- with nothing misplaced nothing is left of the measure
measure_ends : {s g : State} → Problem s g → misplaced_count s g ≡ 0 → measure s g ≡ 0
measure_ends {s} {g} p e = omega (arith, e, measure_le s g p.initial)

pub clearing_runs : (s g : State) → Problem s g
    → (p : Plan) × (iterate (clearing g) (fuel s) s ≡ plan p) × Run (λ t. Problem t g) (Clears g) (λ t. (b : ℕ) → ¬ Perched t g b) s p
clearing_runs s g p =
    runs (clearing g) (λ t. Problem t g) (Clears g) (λ t. (b : ℕ) → ¬ Perched t g b) (λ t. measure t g)
    (λ t q. clearing_steps q)
    (λ t a x q w. problem_moved (moves_legal q (clears_moves w)) q)
    (λ t a x q w. moves_measure q (clears_moves w))
    (fuel s) s p (enough p)

pub building_runs : (f : ℕ) (s g : State) → Problem s g → measure s g ≤ f
    → (p : Plan) × (iterate (building g) f s ≡ plan p) × Run (λ t. Problem t g) (Builds g) (λ t. NoneReady t g) s p
building_runs f s g p h =
    runs (building g) (λ t. Problem t g) (Builds g) (λ t. NoneReady t g) (λ t. measure t g)
    (λ t q. building_steps q)
    (λ t a x q w. problem_moved (builds_constructive w).legal q)
    (λ t a x q w. moves_measure q (Moves.builds (builds_constructive w)))
    f s p h

-- ---- what a method writes

-- a plan of a method: it is made as the words say, it arrives, its moves are careful, and it is no longer than the measure
pub record Written (m : Method) (s g : State) (p : Plan) : Type 0 where
  pub told : By m s g p
  pub solves : Solves s g p
  pub careful : CarefulPlan s g p
  pub bound : length p ≤ measure s g
  -- US writes as many moves as the measure says
  pub exact : m ≡ Us → length p ≡ measure s g
  -- without a deadlock methods 2 and 3 write as many moves as blocks are misplaced
  pub once : m ≢ Us → ((l : List ℕ) → ¬ Deadlocked s g l) → length p ≡ misplaced_count s g

module _ {g : State} (putDown : State → State → ℕ) (PutsDown : State → State → ℕ → ℕ → Type 0) (chooses : Chooses g putDown PutsDown) where
  moves_of : (t : State) (a x : ℕ) → Problem t g → Solving PutsDown g t a x → Moves t g a x
  moves_of t a x q w = solving_moves putDown PutsDown chooses q w

  solving_runs : (s : State) → Problem s g
      → (p : Plan) × (iterate (solving putDown g) (fuel s) s ≡ plan p) × Run (λ t. Problem t g) (Solving PutsDown g) (NoneMisplaced g) s p
  solving_runs s p =
      runs (solving putDown g) (λ t. Problem t g) (Solving PutsDown g) (NoneMisplaced g) (λ t. measure t g)
      (λ t q. solving_steps putDown PutsDown chooses q)
      (λ t a x q w. problem_moved (moves_legal q (moves_of t a x q w)) q)
      (λ t a x q w. moves_measure q (moves_of t a x q w))
      (fuel s) s p (enough p)

  NoDeadlock : State → Type 0
  NoDeadlock t = (l : List ℕ) → ¬ Deadlocked t g l

  -- where nothing is deadlocked nothing is put down: a stalled state shows its loop
  never : (t : State) → Problem t g → NoDeadlock t → Stalled t g → ⊥
  unfolding NoDeadlock
  never t q none h =
      let k = loop_deadlock q h.none_ready (loop_closed q h.none_ready h.misplaced) in
      none (loop t g) (record { d = k.0; holds = k.1 })

  deadlock_free : (t : State) (a x : ℕ) → Problem t g → Solving PutsDown g t a x → NoDeadlock t → NoDeadlock (put t a x)
  unfolding NoDeadlock
  deadlock_free t a x q (builds w) none l k = none l (record { d = k.d; holds = deadlock_old (builds_constructive w) k.holds })
  deadlock_free t a x q (clears h w) none l k = never t q none h

  one_fewer : (t : State) (a x : ℕ) → Problem t g × NoDeadlock t → Solving PutsDown g t a x → misplaced_count t g ≡ suc (misplaced_count (put t a x) g)
  one_fewer t a x i (builds w) = fewer i.0 (builds_constructive w)
  one_fewer t a x i (clears h w) = absurd (never t i.0 i.1 h)

  solving_written : (m : Method) → m ≢ Us → {s : State} {p : Plan} → (Steps (Solving PutsDown g) (NoneMisplaced g) s p → By m s g p)
      → Run (λ t. Problem t g) (Solving PutsDown g) (NoneMisplaced g) s p → Written m s g p
  unfolding NoDeadlock
  solving_written m other by r =
      let last = run_end r in
      let home = misplaced_none last.0 last.1 in
      record {
        told = by (run_told r);
        solves = record { legal = run_legal (λ t a x q w. moves_legal q (moves_of t a x q w)) r; arrives = none_misplaced_is_goal last.0 home };
        careful = run_careful g (λ t a x q w. moves_careful q (moves_of t a x q w)) r;
        bound = omega (arith, run_bound (λ t. measure t g) (λ t a x q w. moves_measure q (moves_of t a x q w)) r);
        exact = λ e. absurd (other e);
        once = λ _ none. omega (arith, run_takes (λ t. misplaced_count t g) one_fewer (run_with (λ t. NoDeadlock t) deadlock_free none r), home);
      }

spread_table : {s g : State} {b : ℕ} → Spread s g → Misplaced s g b → support s b ≡ 0
unfolding Spread
spread_table {b = b} h m = (h b m).0

us_written : (s g : State) → Problem s g → (p : Plan) × (outcome Us s g ≡ plan p) × Written Us s g p
unfolding outcome
us_written s g p = (p₁ ++ p₂, same, written)
  where
    first : (q : Plan) × (iterate (clearing g) (fuel s) s ≡ plan q) × Run (λ t. Problem t g) (Clears g) (λ t. (b : ℕ) → ¬ Perched t g b) s q
    first = clearing_runs s g p

    p₁ : Plan
    p₁ = first.0

    r₁ : Run (λ t. Problem t g) (Clears g) (λ t. (b : ℕ) → ¬ Perched t g b) s p₁
    r₁ = first.2

    mid : State
    mid = after s p₁

    problem : Problem mid g
    problem = (run_end r₁).0

    took₁ : measure s g ≡ length p₁ + measure mid g
    took₁ = run_takes (λ t. measure t g) (λ t a x q w. clears_measure q w.lowest.holds w.table) r₁

    second : (q : Plan) × (iterate (building g) (fuel s) mid ≡ plan q) × Run (λ t. Problem t g) (Builds g) (λ t. NoneReady t g) mid q
    second = building_runs (fuel s) mid g problem (omega (arith, took₁, enough p))

    p₂ : Plan
    p₂ = second.0

    r₂ : Run (λ t. Problem t g × Spread t g) (Builds g) (λ t. NoneReady t g) mid p₂
    r₂ = run_with (λ t. Spread t g) (λ t a x q w h. spread_kept (builds_constructive w) h) (spread_begins problem (run_end r₁).1) second.2

    last : Problem (after mid p₂) g
    last = (run_end r₂).0.0

    ended : misplaced_count (after mid p₂) g ≡ 0
    ended = spread_ends last (run_end r₂).0.1 (run_end r₂).1

    -- a misplaced block stands on the table, so a constructive move takes exactly 1
    took₂ : measure mid g ≡ length p₂ + measure (after mid p₂) g
    took₂ = run_takes (λ t. measure t g) (λ t a x i w. let c = builds_constructive w in measure_once i.0 c (λ k. k.1.0 (spread_table i.1 c.misplaced))) r₂

    total : length (p₁ ++ p₂) ≡ measure s g
    total = omega (arith, length-append p₁ p₂, took₁, took₂, measure_ends last ended)

    same : and_then s (iterate (clearing g) (fuel s) s) (λ t. iterate (building g) (fuel s) t) ≡ plan (p₁ ++ p₂)
    same = ap (λ o. and_then s o (λ t. iterate (building g) (fuel s) t)) first.1 ∙ ap (precede p₁) second.1

    written : Written Us s g (p₁ ++ p₂)
    written =
        record {
          told = record { first = p₁; then = p₂; whole = refl; clearing = run_told r₁; building = run_told second.2 };
          solves =
              record {
                legal =
                    legal_append s p₁ p₂ (run_legal (λ t a x q w. moves_legal q (clears_moves w)) r₁) (run_legal (λ t a x q w. (builds_constructive w).legal) second.2);
                arrives = after_append s p₁ p₂ ∙ none_misplaced_is_goal last ended;
              };
          careful =
              careful_append s g p₁ p₂ (run_careful g (λ t a x q w. moves_careful q (clears_moves w)) r₁)
              (run_careful g (λ t a x q w. moves_careful q (Moves.builds (builds_constructive w))) second.2);
          bound = omega (arith, total);
          exact = λ _. total;
          once = λ n. absurd (n refl);
        }

pub gn1_other : Gn1 ≢ Us
gn1_other e = let z : ◌≡◌ {A = ℕ} 0 1 = cc in absurd (omega arith)

gn2_other : Gn2 ≢ Us
gn2_other e = let z : ◌≡◌ {A = ℕ} 0 1 = cc in absurd (omega arith)

-- every method gives a plan for every problem, and never is at a loss for a block to put down
pub method_written : (m : Method) (s g : State) → Problem s g → (p : Plan) × (outcome m s g ≡ plan p) × Written m s g p
unfolding outcome
method_written Us s g p = us_written s g p
method_written Gn1 s g p =
    let r = solving_runs lowest_perched Clears (gn1_chooses g) s p in
    (r.0, r.1, solving_written lowest_perched Clears (gn1_chooses g) Gn1 gn1_other (λ k. k) r.2)
method_written Gn2 s g p =
    let r = solving_runs lowest_on_loop Unlocks (gn2_chooses g) s p in
    (r.0, r.1, solving_written lowest_on_loop Unlocks (gn2_chooses g) Gn2 gn2_other (λ k. k) r.2)

-- ---- the words leave no choice

builds_only : {g s : State} {a b x y : ℕ} → Builds g s a x → Builds g s b y → (a ≡ b) × (x ≡ y)
builds_only {g} v w = let same = lowest_only v.lowest w.lowest in (same, v.home ∙ ap (support g) same ∙ sym w.home)

clears_only : {g s : State} {a b x y : ℕ} → Clears g s a x → Clears g s b y → (a ≡ b) × (x ≡ y)
clears_only v w = (lowest_only v.lowest w.lowest, v.table ∙ sym w.table)

module _ {g : State} (putDown : State → State → ℕ) (PutsDown : State → State → ℕ → ℕ → Type 0) (chooses : Chooses g putDown PutsDown) where
  solving_only : (s : State) (a b x y : ℕ) → Problem s g → Solving PutsDown g s a x → Solving PutsDown g s b y → (a ≡ b) × (x ≡ y)
  solving_only s a b x y p (builds v) (builds w) = builds_only v w
  solving_only s a b x y p (builds v) (clears h w) = absurd (h.none_ready a v.lowest.holds)
  solving_only s a b x y p (clears h v) (builds w) = absurd (h.none_ready b w.lowest.holds)
  solving_only s a b x y p (clears h v) (clears k w) =
      (chooses.only s a b x y p v w, (chooses.perched s a x p h v).1 ∙ sym (chooses.perched s b y p k w).1)

  solving_told_only : {s : State} {p q : Plan} → Problem s g → Steps (Solving PutsDown g) (NoneMisplaced g) s p → Steps (Solving PutsDown g) (NoneMisplaced g) s q → p ≡ q
  solving_told_only =
      steps_only (λ t. Problem t g) (Solving PutsDown g) (NoneMisplaced g)
      (λ t a x i w. problem_moved (moves_legal i (moves_of putDown PutsDown chooses t a x i w)) i)
      solving_only
      (λ t a x i e w. e a (moves_misplaced (moves_of putDown PutsDown chooses t a x i w)))

-- runs of constructive moves: where they lead to is a problem, and there is one
module _ {s g : State} {p : Plan} (i : Problem s g) (v : Steps (Builds g) (λ t. NoneReady t g) s p) where
  keeps : (t : State) (a x : ℕ) → Problem t g → Builds g t a x → Problem (put t a x) g
  keeps t a x j k = problem_moved (builds_constructive k).legal j

  pub building_kept : Problem (after s p) g
  building_kept = steps_kept (λ t. Problem t g) (Builds g) (λ t. NoneReady t g) keeps i v

  pub building_only : {q : Plan} → Steps (Builds g) (λ t. NoneReady t g) s q → p ≡ q
  building_only =
      steps_only (λ t. Problem t g) (Builds g) (λ t. NoneReady t g) keeps (λ t a b x y j k l. builds_only k l) (λ t a x j e k. e a k.lowest.holds) i v

-- and likewise of put-downs
module _ {s g : State} {p : Plan} (i : Problem s g) (v : Steps (Clears g) (λ t. (b : ℕ) → ¬ Perched t g b) s p) where
  clears_keeps : (t : State) (a x : ℕ) → Problem t g → Clears g t a x → Problem (put t a x) g
  clears_keeps t a x j k = problem_moved (moves_legal j (clears_moves k)) j

  clearing_kept : Problem (after s p) g
  clearing_kept = steps_kept (λ t. Problem t g) (Clears g) (λ t. (b : ℕ) → ¬ Perched t g b) clears_keeps i v

  clearing_only : {q : Plan} → Steps (Clears g) (λ t. (b : ℕ) → ¬ Perched t g b) s q → p ≡ q
  clearing_only =
      steps_only (λ t. Problem t g) (Clears g) (λ t. (b : ℕ) → ¬ Perched t g b) clears_keeps (λ t a b x y j k l. clears_only k l)
      (λ t a x j e k. e a k.lowest.holds) i v

us_only : {s g : State} {p q : Plan} → Problem s g → ByUs s g p → ByUs s g q → p ≡ q
us_only {s} {g} {p} {q} i v w =
    let front : v.first ≡ w.first = clearing_only i v.clearing w.clearing in
    let there = subst (λ r. Steps (Builds g) (λ t. NoneReady t g) (after s r) w.then) (sym front) w.building in
    let back : v.then ≡ w.then = building_only (clearing_kept i v.clearing) v.building there in
    v.whole ∙ ap (λ r. r ++ v.then) front ∙ ap (λ r. w.first ++ r) back ∙ sym w.whole

pub method_only : (m : Method) {s g : State} {p q : Plan} → Problem s g → By m s g p → By m s g q → p ≡ q
method_only Us i v w = us_only i v w
method_only Gn1 {g = g} i v w = solving_told_only lowest_perched Clears (gn1_chooses g) i v w
method_only Gn2 {g = g} i v w = solving_told_only lowest_on_loop Unlocks (gn2_chooses g) i v w

-- a method gives a plan exactly where the plan is made as the words say
pub method_told : (m : Method) (s g : State) → Problem s g → (p : Plan) → (outcome m s g ≡ plan p) ↔ By m s g p
method_told m s g i p =
    let w = method_written m s g i in
    (λ e. let same : w.0 ≡ p = cc w.1 in subst (By m s g) same w.2.told, λ k. w.1 ∙ ap plan (method_only m i w.2.told k))
