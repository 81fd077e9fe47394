-- The deadlock test as the code makes it: constructive moves until none is left come to the state that is looked at. Assumes nothing.
use Prim.Native.Nat.{ℕ, zero, suc, ◌*◌, ◌≤◌}
use mathlib.Core.Path.{◌≡◌, refl, sym, ap, ◌∙◌, subst}
use mathlib.Core.Bool.{false}
use mathlib.Core.List.{List}
use native.Mathlib.Omega.{arith}
use lib.ListN.{length}
use Rattle.std.specs.Prelude.{Option, None}
use Rattle.lists.specs.Search.{lowest, nonzero}
use Rattle.lists.proofs.NonzeroLaws.{none_zero}
use Rattle.rows.specs.Rows.{Yard}
use Rattle.blocks.specs.State.{State, most}
use Rattle.blocks.specs.Position.{Problem}
use Rattle.blocks.specs.Stall.{NoneReady}
use Rattle.blocks.specs.Method.{stop, to_goal, end_of, lowest_ready, building, built, deadlock_loop, deadlock_rows}
use Rattle.blocks.proofs.StepLaws.{ready_none}
use Rattle.blocks.proofs.MethodLaws.{enough}
use Rattle.numberset.specs.Members.{member, highest}
use Rattle.towers.specs.Linked.{Known}
use Rattle.statuses.specs.Kept.{Beginnable, Begun}
use Rattle.statuses.specs.declared.Sets.{Sets}
use Rattle.statuses.specs.declared.Mode.TheVariants.{Building, Gn2}
use Rattle.choices.proofs.TrailLaws.{visits_within}
use Rattle.choices.proofs.PickLaws as pick
use Rattle.runs.specs.Runs.{Steppable, Finished}
use Rattle.runs.proofs.LentLaws as lent
use Rattle.runs.proofs.LentLaws.{run_plan}
use Rattle.deadlocks.specs.Looks.{Looks, Lookable, Looked, Seekable, Sought}
use Rattle.deadlocks.proofs.LookLaws.{nothing}

-- where no constructive move is chosen, no block is ready
none_ready : {s g : State} → Problem s g → building g s ≡ stop → NoneReady s g
unfolding building
none_ready {s} {g} p e = ready_none p (by (lowest_ready s g) e)
  where
    by : (k : ℕ) → to_goal g k stop ≡ stop → k ≡ 0
    by zero f = refl
    by (suc i) f = let z : ◌≡◌ {A = ℕ} 0 1 = cc in absurd (omega arith)

-- ---- the steps of `test`

module _ {s g : State} {y : Yard} {out : List ℕ} (w : Seekable s g y out) where
  whole : Problem s g
  whole = w.problem.problem

  pub may_begin : {cur : List ℕ} → length cur ≡ length s → Beginnable s g cur y
  may_begin e = record { problem = w.problem; state_size = e; sized = w.sized; start = w.start }

  module _ {cur : List ℕ} {y₁ : Yard} {z₁ : Sets} (b : Begun Building s g cur y y₁ z₁) where
    pub first_steppable : {moves : List ℕ} → 4 * most ≤ length moves → Steppable Building cur g y₁ z₁ moves 0
    first_steppable h = lent.first_steppable w.problem w.visits b (omega (arith, w.problem.small, h))

    module _ {moves : List ℕ} {k : ℕ} {t : State} {y₂ : Yard} {z₂ : Sets} {moves₂ : List ℕ} (f : Finished Building cur g 0 moves k t y₂ z₂ moves₂) where
      first : Finished Building s g 0 moves k t y₂ z₂ moves₂
      first = rw b.state at f

      is_built : t ≡ built s g
      unfolding built
      is_built = first.ran.end ∙ ap (end_of s) (sym (run_plan first (enough whole)))

      still : NoneReady t g
      still = none_ready f.ran.kept.known.problem f.ended

      pub loose_may : member z₂.loose 0 ≡ false
      loose_may = pick.loose_may f.ran.kept

      pub sought : {r : Option ℕ} {out' : List ℕ} → Looked t g out r out' → Sought s g out r out'
      unfolding deadlock_loop deadlock_rows
      sought {r} {out'} v = let u = subst (λ i. Looked i g out r out') is_built v in record { count = u.count; written = u.written }

      -- nothing is perched and nothing ready, so nothing is misplaced
      pub clean_way : None ≡ nonzero (lowest (member z₂.loose) highest) → Sought s g out None out
      clean_way e = sought (nothing out (pick.perched_clean f.ran.kept refl still refl (none_zero (lowest (member z₂.loose) highest) (sym e))))

      -- the towers are filled, and the sets anew
      pub refittable : Known t g y₂
      refittable = f.ran.kept.known

      module _ (same : length t ≡ length s) {y₃ : Yard} {z₃ : Sets} (q : Begun Gn2 t g t y₂ y₃ z₃) where
        looks : Looks t g y₃ z₃
        looks = record { kept = q.kept; stalled = still; trail = (visits_within q.within f.ran.visits).trail }

        pub lookable : Lookable y₃ z₃ out
        lookable = record { state = t; goal = g; looks = looks; room = omega (arith, w.room, same) }

        pub look_way : {r : Option ℕ} {out' : List ℕ} → ((i h : State) → Looks i h y₃ z₃ → Looked i h out r out') → Sought s g out r out'
        look_way v = sought (v t g looks)
