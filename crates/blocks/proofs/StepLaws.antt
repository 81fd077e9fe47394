-- What the steps of the methods are: constructive moves, and moves of perched blocks to the table. Assumes nothing.
use mathlib.Core.Path.{◌≡◌, refl, sym, subst}
use mathlib.Core.Logic.{inl, inr, ◌≢◌}
use mathlib.Core.Bool.{Bool, cond}
use Prim.Native.Nat.{ℕ, zero, suc, ◌≤◌}
use native.Mathlib.Omega.{arith}
use lib.ListN.{length}
use Rattle.lists.specs.Search.{Lowest}
use Rattle.blocks.specs.State.{State, support, put}
use Rattle.blocks.specs.Position.{Problem, InPosition, Misplaced}
use Rattle.blocks.specs.Move.{Legal, Constructive, Careful}
use Rattle.blocks.specs.Tests.{readyᵇ, perchedᵇ, misplaced_count, measure}
use Rattle.blocks.specs.Method.{stop, no_block, to_table, to_goal, lowest_perched, lowest_ready, clearing, building, solving}
use Rattle.blocks.specs.Stall.{Ready, NoneReady, Perched, Moves}
use Rattle.blocks.specs.Steps.{Builds, Clears, Stalled, NoneMisplaced, Solving, builds, clears}
use Rattle.lists.proofs.ReflectLaws.{Reflects, holds, fails, from_false, eqb_reflects}
use Rattle.lists.proofs.SearchLaws.{lowest_none, lowest_found}
use Rattle.blocks.proofs.ClearLaws.{clear_table}
use Rattle.blocks.proofs.PositionLaws.{perched_test, ready_test, position_table, misplaced_block}
use Rattle.blocks.proofs.MisplacedLaws.{none_misplaced, some_misplaced}
use Rattle.blocks.proofs.MeasureLaws.{measure_constructive, measure_table}
use Rattle.blocks.proofs.RunLaws.{Stepping, goes, stops}

-- ---- the lowest ready and the lowest perched block

module _ {s g : State} (p : Problem s g) where
  pub ready_lowest : (i : ℕ) → lowest_ready s g ≡ suc i → Lowest (Ready s g) (length s) (suc i)
  unfolding lowest_ready
  ready_lowest i e =
      subst (Lowest (Ready s g) (length s)) e
      (lowest_found (Ready s g) (readyᵇ s g) (length s) (λ b _ _. ready_test s g p b) (λ z. absurd (omega (arith, z, e))))

  pub ready_found : (i : ℕ) → lowest_ready s g ≡ suc i → Constructive s g (suc i) (support g (suc i))
  ready_found i e = (ready_lowest i e).holds

  pub ready_none : lowest_ready s g ≡ 0 → NoneReady s g
  unfolding lowest_ready
  ready_none e b c =
      from_false (ready_test s g p b) (lowest_none (readyᵇ s g) (length s) e b c.legal.block.low c.legal.block.high) c

  pub perched_lowest : (i : ℕ) → lowest_perched s g ≡ suc i → Lowest (Perched s g) (length s) (suc i)
  unfolding lowest_perched
  perched_lowest i e =
      subst (Lowest (Perched s g) (length s)) e
      (lowest_found (Perched s g) (perchedᵇ s g) (length s) (λ b _ _. perched_test s g p.initial b) (λ z. absurd (omega (arith, z, e))))

  pub perched_found : (i : ℕ) → lowest_perched s g ≡ suc i → Perched s g (suc i)
  perched_found i e = (perched_lowest i e).holds

  pub perched_none : lowest_perched s g ≡ 0 → (b : ℕ) → ¬ Perched s g b
  unfolding lowest_perched
  perched_none e b w =
      let k = misplaced_block p.same w.0.0 in
      from_false (perched_test s g p.initial b) (lowest_none (perchedᵇ s g) (length s) e b k.low k.high) w

  -- a perched block may go to the table
  pub perched_legal : {a : ℕ} → Perched s g a → Legal s a 0
  perched_legal {a} w =
      let k = misplaced_block p.same w.0.0 in
      record {
        block = k;
        inside = omega arith;
        clear = w.0.1;
        free = clear_table s;
        apart = λ e. absurd (omega (arith, e, k.low));
        changes = λ e. w.1 (sym e);
      }

-- ---- moves

-- a method moves a misplaced block, and onto what is in position
pub moves_misplaced : {s g : State} {a x : ℕ} → Moves s g a x → Misplaced s g a
moves_misplaced (Moves.builds c) = c.misplaced
moves_misplaced (Moves.clears w e) = w.0.0

pub moves_landed : {s g : State} {a x : ℕ} → Moves s g a x → InPosition s g x
moves_landed (Moves.builds c) = c.position
moves_landed {s} {g} (Moves.clears w e) = subst (InPosition s g) (sym e) (position_table s g)

module _ {s g : State} {a x : ℕ} (p : Problem s g) where
  pub moves_legal : Moves s g a x → Legal s a x
  moves_legal (Moves.builds c) = c.legal
  moves_legal (Moves.clears w e) = subst (Legal s a) (sym e) (perched_legal p w)

  pub moves_careful : Moves s g a x → Careful s g a x
  moves_careful (Moves.builds c) = record { misplaced = c.misplaced; target = inr c.home }
  moves_careful (Moves.clears w e) = record { misplaced = w.0.0; target = inl e }

  -- a put-down takes exactly 1 from the measure, and every move takes some
  pub clears_measure : Perched s g a → x ≡ 0 → measure s g ≡ suc (measure (put s a x) g)
  clears_measure w e =
      subst (λ y. measure s g ≡ suc (measure (put s a y) g)) (sym e) (measure_table p (perched_legal p w) w.0.0 w.1)

  pub moves_measure : Moves s g a x → suc (measure (put s a x) g) ≤ measure s g
  moves_measure (Moves.builds c) = measure_constructive p c
  moves_measure (Moves.clears w e) = omega (arith, clears_measure w e)

-- ---- steps

-- the first loop of US puts perched blocks down until there is none
pub clearing_steps : {s g : State} → Problem s g → Stepping (Clears g s) ((b : ℕ) → ¬ Perched s g b) (clearing g s)
unfolding clearing
clearing_steps {s} {g} p = by (lowest_perched s g) refl
  where
    by : (b : ℕ) → lowest_perched s g ≡ b → Stepping (Clears g s) ((c : ℕ) → ¬ Perched s g c) (to_table b stop)
    by zero e = stops (perched_none p e)
    by (suc i) e = goes (record { lowest = perched_lowest p i e; table = refl })

-- constructive moves alone go on until no block has one
pub building_steps : {s g : State} → Problem s g → Stepping (Builds g s) (NoneReady s g) (building g s)
unfolding building
building_steps {s} {g} p = by (lowest_ready s g) refl
  where
    by : (b : ℕ) → lowest_ready s g ≡ b → Stepping (Builds g s) (NoneReady s g) (to_goal g b stop)
    by zero e = stops (ready_none p e)
    by (suc i) e = goes (record { lowest = ready_lowest p i e; home = refl })

pub builds_constructive : {g s : State} {a x : ℕ} → Builds g s a x → Constructive s g a x
builds_constructive {g} {s} {a} w = subst (Constructive s g a) (sym w.home) w.lowest.holds

pub clears_moves : {g s : State} {a x : ℕ} → Clears g s a x → Moves s g a x
clears_moves w = Moves.clears w.lowest.holds w.table

-- methods 2 and 3: a block is put down only in a stalled state. What is asked of the function that chooses it and of the words for it: in a stalled state
-- it chooses as the words say, a block that is perched, and the words leave no choice
pub record Chooses (g : State) (putDown : State → State → ℕ) (PutsDown : State → State → ℕ → ℕ → Type 0) : Type 0 where
  pub picks : (s : State) → Problem s g → Stalled s g → PutsDown g s (putDown s g) 0
  pub perched : (s : State) (a x : ℕ) → Problem s g → Stalled s g → PutsDown g s a x → Perched s g a × (x ≡ 0)
  pub only : (s : State) (a b x y : ℕ) → Problem s g → PutsDown g s a x → PutsDown g s b y → a ≡ b

module _ (putDown : State → State → ℕ) (PutsDown : State → State → ℕ → ℕ → Type 0) {g : State} (chooses : Chooses g putDown PutsDown) {s : State} (p : Problem s g) where
  pub solving_moves : {a x : ℕ} → Solving PutsDown g s a x → Moves s g a x
  solving_moves (builds w) = Moves.builds (builds_constructive w)
  solving_moves {a} {x} (clears h w) = let k = chooses.perched s a x p h w in Moves.clears k.0 k.1

  pub solving_steps : Stepping (Solving PutsDown g s) (NoneMisplaced g s) (solving putDown g s)
  unfolding solving
  solving_steps = first (eqb_reflects (misplaced_count s g) 0)
    where
      third : Stalled s g → (b : ℕ) → putDown s g ≡ b → Stepping (Solving PutsDown g s) (NoneMisplaced g s) (to_table b no_block)
      third h zero e = absurd ((chooses.perched s 0 0 p h (subst (λ b. PutsDown g s b 0) e (chooses.picks s p h))).0.0.0 (position_table s g))
      third h (suc i) e = goes (clears h (subst (λ b. PutsDown g s b 0) e (chooses.picks s p h)))

      second : misplaced_count s g ≢ 0 → (b : ℕ) → lowest_ready s g ≡ b
          → Stepping (Solving PutsDown g s) (NoneMisplaced g s) (to_goal g b (to_table (putDown s g) no_block))
      second n zero e = let m = some_misplaced p n in third (record { block = m.0; misplaced = m.1; none_ready = ready_none p e }) (putDown s g) refl
      second n (suc i) e = goes (builds (record { lowest = ready_lowest p i e; home = refl }))

      first : {t : Bool} → Reflects (misplaced_count s g ≡ 0) t
          → Stepping (Solving PutsDown g s) (NoneMisplaced g s) (cond t stop (to_goal g (lowest_ready s g) (to_table (putDown s g) no_block)))
      first (holds e) = stops (λ b m. m (none_misplaced p e b))
      first (fails n) = second n (lowest_ready s g) refl

-- what is put down is a perched block, wherever the state is stalled with something misplaced
abbrev pub Picks : State → (State → State → ℕ) → Type 0
Picks g putDown = (s : State) → Problem s g → NoneReady s g → misplaced_count s g ≢ 0 → Perched s g (putDown s g)

pub chooses_picks : {g : State} {putDown : State → State → ℕ} {PutsDown : State → State → ℕ → ℕ → Type 0} → Chooses g putDown PutsDown → Picks g putDown
chooses_picks {g} {putDown} c s p h n =
    let m = some_misplaced p n in
    let k : Stalled s g = record { block = m.0; misplaced = m.1; none_ready = h } in
    (c.perched s (putDown s g) 0 p k (c.picks s p k)).0
