-- The choice of the next move from the sets: one law for each way out. Assumes nothing.
use Prim.Native.Nat.{ℕ, zero, suc, ◌-◌, ◌≤◌, ◌<◌}
use mathlib.Core.Path.{◌≡◌, refl, sym, ap, ◌∙◌, subst}
use mathlib.Core.Logic.{◌⊎◌, inl, inr, ◌≢◌}
use mathlib.Core.Bool.{Bool, true, false, true≢false}
use mathlib.Core.List.{List}
use native.Mathlib.Omega.{arith}
use lib.ListN.{length, get_or}
use Rattle.rows.specs.Rows.{Yard, Within}
use Rattle.rows.proofs.RowLaws.{within_none}
use Rattle.std.specs.Prelude.{Option, Some, None, IfSome}
use Rattle.lists.specs.Search.{lowest, nonzero}
use Rattle.lists.proofs.ReflectLaws.{Reflects, to_false, from_true, from_false}
use Rattle.lists.proofs.NonzeroLaws.{none_zero, some_is, some_nonzero}
use Rattle.lists.proofs.SearchLaws.{lowest_ext, lowest_beyond, lowest_passes, lowest_none}
use Rattle.blocks.specs.State.{State, most, support}
use Rattle.blocks.specs.Position.{Problem, Misplaced}
use Rattle.blocks.specs.Move.{Constructive}
use Rattle.blocks.specs.Stall.{Waiting, Perched, NoneReady}
use Rattle.blocks.specs.Tests.{waitingᵇ, misplaced_count}
use Rattle.blocks.specs.Method.{lowest_ready, lowest_perched, lowest_on_loop, clearing, building, solving}
use Rattle.blocks.proofs.StateLaws.{support_at}
use Rattle.blocks.proofs.PositionLaws.{misplaced_block, position_table, ready_test, perched_test, waiting_test}
use Rattle.blocks.proofs.StepLaws.{ready_found, ready_none, perched_found, perched_none}
use Rattle.blocks.proofs.MethodLaws.{perched_picked, loop_picked}
use Rattle.numberset.specs.Members.{member, highest}
use Rattle.towers.specs.Linked.{Linked}
use Rattle.statuses.specs.Modes.{step_of, buildsᵇ, puts_downᵇ, walksᵇ}
use Rattle.statuses.specs.Kept.{Holds, Kept}
use Rattle.statuses.specs.declared.Mode.{Mode}
use Rattle.statuses.specs.declared.Sets.{Sets}
use Rattle.statuses.specs.declared.Mode.TheVariants.{Clearing, Building, Gn1, Gn2}
use Rattle.statuses.proofs.BeginLaws.{known_within}
use Rattle.statuses.proofs.LooseLaws.{loose_by, perched_held, waiting_held}
use Rattle.choices.specs.Choices.{after, Pickable, Picks}
use Rattle.choices.specs.declared.Move.{Move}
use Rattle.choices.specs.Walks.{KeptTrail, KeptWalk, Starts, Walkable, Unlocked}
use Rattle.choices.proofs.ChoiceLaws.{Chosen, move, counted, none_perched, none_waits, clear_next, clear_stop, build_next, build_stop, solve_build, solve_stop, solve_clear}
use Rattle.choices.proofs.TrailLaws.{nothing_kept, visits_built}
use Rattle.choices.proofs.WalkLaws.{linked_within}

-- a set that holds a test which only blocks pass: its lowest member is the lowest block that passes
held_lowest : {l : List ℕ} {test : ℕ → Bool} (n : ℕ) → n ≤ most → Holds l test → ((c : ℕ) → n < c → test c ≡ false) → lowest (member l) highest ≡ lowest test n
held_lowest {l} {test} n h w none =
    lowest_ext (member l) test highest (λ c _ k. w.same c (omega arith)) ∙ lowest_beyond test n highest (omega arith) none

-- the steps of a run, by what the run does
step_clears : (m : Mode) → buildsᵇ m ≡ false → step_of m ≡ clearing
step_clears Clearing e = refl
step_clears Building e = absurd (true≢false e)
step_clears Gn1 e = absurd (true≢false e)
step_clears Gn2 e = absurd (true≢false e)

step_builds : (m : Mode) → puts_downᵇ m ≡ false → step_of m ≡ building
step_builds Clearing e = absurd (true≢false e)
step_builds Building e = refl
step_builds Gn1 e = absurd (true≢false e)
step_builds Gn2 e = absurd (true≢false e)

step_perched : (m : Mode) → buildsᵇ m ≡ true → puts_downᵇ m ≡ true → walksᵇ m ≡ false → step_of m ≡ solving lowest_perched
step_perched Clearing e f h = absurd (true≢false (sym e))
step_perched Building e f h = absurd (true≢false (sym f))
step_perched Gn1 e f h = refl
step_perched Gn2 e f h = absurd (true≢false h)

step_loop : (m : Mode) → walksᵇ m ≡ true → step_of m ≡ solving lowest_on_loop
step_loop Clearing e = absurd (true≢false (sym e))
step_loop Building e = absurd (true≢false (sym e))
step_loop Gn1 e = absurd (true≢false (sym e))
step_loop Gn2 e = refl

-- ---- what the sets say

module _ {m : Mode} {s g : State} {y : Yard} {z : Sets} (w : Kept m s g y z) where
  problem : Problem s g
  problem = w.known.problem

  -- no number but a block passes a test of misplaced blocks
  beyond : {A : Type 0} {t : Bool} (c : ℕ) → Reflects A t → (A → Misplaced s g c) → length s < c → t ≡ false
  beyond c r f h = to_false r (λ x. let b = misplaced_block problem.same (f x) in absurd (omega (arith, b.high)))

  no_table : {A : Type 0} {t : Bool} → Reflects A t → (A → Misplaced s g 0) → t ≡ false
  no_table r f = to_false r (λ x. f x (position_table s g))

  pub ready_may : member z.ready 0 ≡ false
  ready_may = w.sets.ready.same 0 (omega arith) ∙ no_table (ready_test s g problem 0) (λ c. c.misplaced)

  pub loose_may : member z.loose 0 ≡ false
  loose_may =
      w.sets.loose.same 0 (omega arith)
      ∙ loose_by m s g 0 (λ t. t ≡ false) (no_table (perched_test s g problem.initial 0) (λ c. c.0.0))
      (no_table (waiting_test s g problem.initial 0) (λ c. c.0))

  is_ready : {b : ℕ} → b ≡ lowest (member z.ready) highest → b ≡ lowest_ready s g
  unfolding lowest_ready
  is_ready e = e ∙ held_lowest (length s) w.known.small w.sets.ready (λ c h. beyond c (ready_test s g problem c) (λ r. r.misplaced) h)

  stalled : {b : ℕ} → b ≡ lowest (member z.ready) highest → b ≡ 0 → NoneReady s g
  stalled e q = ready_none problem (sym (is_ready e) ∙ q)

  -- where the loop is not walked the loose blocks are the perched ones
  is_perched : {b : ℕ} → walksᵇ m ≡ false → b ≡ lowest (member z.loose) highest → b ≡ lowest_perched s g
  unfolding lowest_perched
  is_perched h e =
      e ∙ held_lowest (length s) w.known.small (perched_held w.sets h) (λ c q. beyond c (perched_test s g problem.initial c) (λ r. r.0.0) q)

  -- so where there is none and no block is ready, nothing is misplaced
  pub perched_clean : {b : ℕ} → walksᵇ m ≡ false → NoneReady s g → b ≡ lowest (member z.loose) highest → b ≡ 0 → misplaced_count s g ≡ 0
  perched_clean h still e q = none_perched problem still (perched_none problem (sym (is_perched h e) ∙ q))

  builds_at : {b x : ℕ} → b ≡ lowest (member z.ready) highest → b ≢ 0 → x ≡ support g b → Constructive s g b x
  builds_at {b} {x} e n h = by b (is_ready e) n h
    where
      by : (c : ℕ) → c ≡ lowest_ready s g → c ≢ 0 → x ≡ support g c → Constructive s g c x
      by zero f o k = absurd (o refl)
      by (suc i) f o k = subst (Constructive s g (suc i)) (sym k) (ready_found problem i (sym f))

  ready_block : {b : ℕ} → b ≡ lowest (member z.ready) highest → b ≢ 0 → (1 ≤ b) × (b ≤ length s)
  ready_block e n = let r = builds_at e n refl in (r.legal.block.low, r.legal.block.high)

  -- ---- where the loop is walked the loose blocks are those that wait, and the towers are kept

  module _ (deep : walksᵇ m ≡ true) where
    is_waiting : {b : ℕ} → b ≡ lowest (member z.loose) highest → b ≡ lowest (waitingᵇ s g) (length s)
    is_waiting e =
        e ∙ held_lowest (length s) w.known.small (waiting_held w.sets deep) (λ c q. beyond c (waiting_test s g problem.initial c) (λ r. r.0) q)

    pub linked : Linked s g y
    linked = record { known = w.known; towers = w.towers deep }

    module _ {start : ℕ} (e : start ≡ lowest (member z.loose) highest) where
      pub start_waits : start ≢ 0 → Waiting s g start
      start_waits n =
          let h = is_waiting e in
          subst (Waiting s g) (sym h) (from_true (waiting_test s g problem.initial _) (lowest_passes (waitingᵇ s g) (length s) (λ q. n (h ∙ q))))

      -- where there is no start nothing waits, and so nothing is misplaced
      pub start_none : start ≡ 0 → misplaced_count s g ≡ 0
      start_none q = none_waits problem (λ c v.
          let k = misplaced_block problem.same v.0 in
          from_false (waiting_test s g problem.initial c) (lowest_none (waitingᵇ s g) (length s) (sym (is_waiting e) ∙ q) c k.low k.high) v)

      -- the walk of the loop can begin at the lowest waiting block
      pub starts : NoneReady s g → start ≢ 0 → KeptTrail s g y → Starts s g y start
      starts still n t = record { linked = linked; stalled = still; waiting = start_waits n; first = is_waiting e; trail = t }

-- ---- the ways out

module _ {m : Mode} {g : State} {y : Yard} {z : Sets} (w : Pickable m g y z) where
  pub ready_zero : member z.ready 0 ≡ false
  ready_zero = ready_may w.kept

  pub loose_zero : member z.loose 0 ≡ false
  loose_zero = loose_may w.kept

  -- nothing has been walked; where the run walks at all, no block but a ready one is moved
  picks : {r : Option Move} → ((s : State) → Kept m s g y z → Chosen (step_of m g s) s g r)
      → ((s : State) → Kept m s g y z → walksᵇ m ≡ true → IfSome r (λ v. Constructive s g v.block v.destination)) → Picks m g z r y y
  picks {r} f built =
      record {
        chooses = λ s q _. let c = f s q in record { step = c.step_is; move = c.move };
        visits = λ s q v. stay s q v r (built s q) (walksᵇ m) refl;
        within = within_none;
      }
    where
      stay : (s : State) → Kept m s g y z → KeptWalk m s g y → (r : Option Move) → (walksᵇ m ≡ true → IfSome r (λ v. Constructive s g v.block v.destination))
          → (t : Bool) → walksᵇ m ≡ t → KeptWalk m (after r s) g y
      stay s q v None c t e = v
      stay s q v (Some r) c true e = visits_built (problem q) (c e) v
      stay s q v (Some r) c false e = nothing_kept (v.none e)

  -- the set's lowest
  some_low : (l : List ℕ) {b : ℕ} → Some b ≡ nonzero (lowest (member l) highest) → b ≡ lowest (member l) highest
  some_low l e = sym (some_is (lowest (member l) highest) (sym e))

  some_not : (l : List ℕ) {b : ℕ} → Some b ≡ nonzero (lowest (member l) highest) → b ≢ 0
  some_not l e = some_nonzero (lowest (member l) highest) (sym e)

  none_low : (l : List ℕ) → None ≡ nonzero (lowest (member l) highest) → 0 ≡ lowest (member l) highest
  none_low l e = sym (none_zero (lowest (member l) highest) (sym e))

  -- a ready block goes home
  module _ {r : Option ℕ} (e : r ≡ nonzero (lowest (member z.ready) highest)) {b : ℕ} (is : r ≡ Some b) where
    f : Some b ≡ nonzero (lowest (member z.ready) highest)
    f = sym is ∙ e

    pub ready_low : 1 ≤ b
    ready_low = (ready_block w.kept (some_low z.ready f) (some_not z.ready f)).0

    pub ready_within : b - 1 < length g
    ready_within = let r = ready_block w.kept (some_low z.ready f) (some_not z.ready f) in omega (arith, r.0, r.1, w.kept.known.problem.same)

    pub build_way : {x : ℕ} → buildsᵇ m ≡ true → x ≡ get_or g (b - 1) 0 → Picks m g z (move b x) y y
    build_way {x} on h = picks (λ s q. by s q m on) (λ s q _. builds_at q (some_low z.ready f) (some_not z.ready f) home)
      where
        home : x ≡ support g b
        home = h ∙ sym (support_at g b ready_low)

        by : (s : State) → Kept m s g y z → (j : Mode) → buildsᵇ j ≡ true → Chosen (step_of j g s) s g (move b x)
        by s q Clearing i = absurd (true≢false (sym i))
        by s q Building i = build_next (problem q) (is_ready q (some_low z.ready f)) (some_not z.ready f) home
        by s q Gn1 i = solve_build (problem q) lowest_perched (is_ready q (some_low z.ready f)) (some_not z.ready f) home
        by s q Gn2 i = solve_build (problem q) lowest_on_loop (is_ready q (some_low z.ready f)) (some_not z.ready f) home

  -- no constructive move is made: the run makes none, or none is ready
  abbrev pub Stalls : Type 0
  Stalls = (buildsᵇ m ≡ false) ⊎ ((buildsᵇ m ≡ true) × (None ≡ nonzero (lowest (member z.ready) highest)))

  none_ready : (s : State) → Kept m s g y z → None ≡ nonzero (lowest (member z.ready) highest) → lowest_ready s g ≡ 0
  none_ready s q e = sym (is_ready q (none_low z.ready e))

  still : (s : State) → Kept m s g y z → None ≡ nonzero (lowest (member z.ready) highest) → NoneReady s g
  still s q e = ready_none (problem q) (none_ready s q e)

  -- a run that makes no constructive move puts blocks down and does not walk
  downs : (j : Mode) → buildsᵇ j ≡ false → puts_downᵇ j ≡ true
  downs Clearing h = refl
  downs Building h = absurd (true≢false h)
  downs Gn1 h = absurd (true≢false h)
  downs Gn2 h = absurd (true≢false h)

  flat : (j : Mode) → buildsᵇ j ≡ false → walksᵇ j ≡ false
  flat Clearing h = refl
  flat Building h = absurd (true≢false h)
  flat Gn1 h = absurd (true≢false h)
  flat Gn2 h = absurd (true≢false h)

  pub build_end : Stalls → puts_downᵇ m ≡ false → Picks m g z None y y
  build_end (inl off) o = absurd (true≢false (sym (downs m off) ∙ o))
  build_end (inr r) o = picks (λ s q. rw (step_builds m o) (build_stop (problem q) (none_ready s q r.1))) (λ _ _ _. tt)

  module _ (o : puts_downᵇ m ≡ true) where
    -- no block is loose
    pub loose_end : Stalls → None ≡ nonzero (lowest (member z.loose) highest) → Picks m g z None y y
    loose_end (inl off) l = picks (λ s q. rw (step_clears m off) (clear_stop (problem q) (sym (is_perched q (flat m off) (none_low z.loose l))))) (λ _ _ _. tt)
    loose_end (inr r) l = picks (λ s q. by s q (walksᵇ m) refl) (λ _ _ _. tt)
      where
        by : (s : State) → Kept m s g y z → (t : Bool) → walksᵇ m ≡ t → Chosen (step_of m g s) s g None
        by s q true e = rw (step_loop m e) (solve_stop (problem q) lowest_on_loop (start_none q e (none_low z.loose l) refl))
        by s q false e = rw (step_perched m r.0 o e) (solve_stop (problem q) lowest_perched (perched_clean q e (still s q r.1) (none_low z.loose l) refl))

    module _ {low : ℕ} (l : Some low ≡ nonzero (lowest (member z.loose) highest)) where
      pub down_way : Stalls → walksᵇ m ≡ false → Picks m g z (move low 0) y y
      down_way r off = picks (λ s q. by s q r) (λ _ _ deep. absurd (true≢false (sym deep ∙ off)))
        where
          at : (s : State) → Kept m s g y z → low ≡ lowest_perched s g
          at s q = is_perched q off (some_low z.loose l)

          by : (s : State) → Kept m s g y z → Stalls → Chosen (step_of m g s) s g (move low 0)
          by s q (inl i) = rw (step_clears m i) (clear_next (problem q) (at s q) (some_not z.loose l))
          by s q (inr i) =
              rw (step_perched m i.0 o off)
              (solve_clear (problem q) lowest_perched (perched_picked g) (none_ready s q i.1) (counted (problem q) (found s q low (at s q) (some_not z.loose l)).0.0) (at s q))
            where
              found : (s : State) → Kept m s g y z → (c : ℕ) → c ≡ lowest_perched s g → c ≢ 0 → Perched s g c
              found s q zero e n = absurd (n refl)
              found s q (suc j) e n = perched_found (problem q) j (sym e)

      module _ (deep : walksᵇ m ≡ true) where
        begins : None ≡ nonzero (lowest (member z.ready) highest) → (s : State) → Kept m s g y z → KeptWalk m s g y → Starts s g y low
        begins r s q v = starts q deep (some_low z.loose l) (still s q r) (some_not z.loose l) v.trail

        pub walkable : Stalls → Walkable y low
        walkable (inl off) = absurd (true≢false (sym deep ∙ flat m off))
        walkable (inr r) = record { state = w.state; goal = g; starts = begins r.1 w.state w.kept w.visits }

        pub loop_way : {c : ℕ} {y' : Yard} → Stalls → Unlocked low c y y' → Picks m g z (move c 0) y y'
        loop_way (inl off) u = absurd (true≢false (sym deep ∙ flat m off))
        loop_way {c} (inr r) u =
            record {
              chooses = λ s q v. let d = chosen s q v in record { step = ap (λ step. step g s) (step_loop m deep) ∙ d.step_is; move = d.move };
              visits = λ s q v. record { trail = u.trail s g (begins r.1 s q v); none = λ off. absurd (true≢false (sym deep ∙ off)) };
              within = u.within;
            }
          where
            chosen : (s : State) → Kept m s g y z → KeptWalk m s g y → Chosen (solving lowest_on_loop g s) s g (move c 0)
            chosen s q v =
                solve_clear (problem q) lowest_on_loop (loop_picked g) (none_ready s q r.1) (counted (problem q) (start_waits q deep (some_low z.loose l) (some_not z.loose l)).0)
                (u.lowest s g (begins r.1 s q v))

-- what is kept beside the state stays while only the rows of the walk change
pub kept_within : {m : Mode} {s g : State} {y y' : Yard} {z : Sets} → Kept m s g y z → Within 7 9 y y' → Kept m s g y' z
kept_within k w =
    record {
      known = known_within k.known w (omega arith);
      sets = k.sets;
      towers = λ deep. (linked_within (record { known = k.known; towers = k.towers deep }) w).towers;
    }
