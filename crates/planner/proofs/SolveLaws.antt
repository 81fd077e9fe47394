-- The plan of a method as the code makes it: what the runs may rely on, the two ways out, US by two runs and the other methods by one, and what is answered.
-- Assumes nothing.
use Prim.Native.Nat.{ℕ, ◌*◌, ◌≤◌}
use mathlib.Core.Path.{◌≡◌, refl, sym, ap, ap₂, ◌∙◌}
use mathlib.Core.Logic.{◌⊎◌, inl, inr}
use mathlib.Core.Bool.{true, false, true≢false}
use mathlib.Core.List.{List, ◌++◌}
use native.Mathlib.Omega.{arith}
use lib.ListN.{length, length-append}
use lib.Seq.{sets}
use Rattle.lists.specs.Lists.{overwrite}
use Rattle.lists.specs.Search.{count}
use Rattle.lists.proofs.WriteLaws.{sets_front}
use Rattle.rows.specs.Rows.{Yard}
use Rattle.blocks.specs.State.{State}
use Rattle.blocks.specs.Position.{Problem}
use Rattle.blocks.specs.Move.{Plan, after}
use Rattle.blocks.specs.Tests.{measure}
use Rattle.blocks.specs.Method.{Method, Us, Gn1, Gn2, plan, precede, iterate, fuel, building, and_then, outcome}
use Rattle.blocks.specs.Answer.{flat}
use Rattle.blocks.proofs.MethodLaws.{enough}
use Rattle.blocks.proofs.FlatLaws.{length-flat}
use Rattle.problem.specs.Known.{misplaced_in}
use Rattle.problem.proofs.CountLaws.{misplaced_in_lem}
use Rattle.statuses.specs.Modes.{step_of, walksᵇ}
use Rattle.statuses.specs.Kept.{Beginnable, Begun}
use Rattle.statuses.specs.declared.Mode.{Mode}
use Rattle.statuses.specs.declared.Sets.{Sets}
use Rattle.statuses.specs.declared.Mode.TheVariants.{Building}
use Rattle.runs.specs.Runs.{Steppable, Finished}
use Rattle.runs.proofs.RunningLaws.{plans_written}
use Rattle.runs.proofs.LoopRunLaws.{ran_steppable}
use Rattle.runs.proofs.LentLaws as lent
use Rattle.runs.proofs.LentLaws.{twice, run_plan, steps_flat}
use Rattle.planner.specs.declared.Method as declared
use Rattle.planner.specs.Answers.{as_method, mode_of, is_us, Solvable, Ran, Solved}

-- ---- the outcome of a method by its runs

one_run : (m : Method) (s g : State) {p : Plan} → is_us m ≡ false → iterate (step_of (mode_of m) g) (fuel s) s ≡ plan p → outcome m s g ≡ plan p
unfolding outcome
one_run Us s g n e = absurd (true≢false n)
one_run Gn1 s g n e = e
one_run Gn2 s g n e = e

two_runs : (m : Method) (s g : State) (p q : Plan) → is_us m ≡ true → iterate (step_of (mode_of m) g) (fuel s) s ≡ plan p
    → iterate (step_of Building g) (fuel s) (after s p) ≡ plan q → outcome m s g ≡ plan (p ++ q)
unfolding outcome
two_runs Us s g p q u e f = ap (λ o. and_then s o (λ t. iterate (building g) (fuel s) t)) e ∙ ap (precede p) f
two_runs Gn1 s g p q u e f = absurd (true≢false (sym u))
two_runs Gn2 s g p q u e f = absurd (true≢false (sym u))

-- GN1 and GN2 are not US
pub not_us : (m : declared.Method) → (m ≡ declared.TheVariants.Gn1) ⊎ (m ≡ declared.TheVariants.Gn2) → is_us (as_method m) ≡ false
not_us m (inl e) = ap (λ i. is_us (as_method i)) e
not_us m (inr e) = ap (λ i. is_us (as_method i)) e

-- clearing keeps what building keeps
flat_first : (m : Method) → is_us m ≡ true → walksᵇ (mode_of m) ≡ false
flat_first Us u = refl
flat_first Gn1 u = absurd (true≢false (sym u))
flat_first Gn2 u = absurd (true≢false (sym u))

-- ---- the measure bounds the moves, and so the pairs

fits : {s g : State} (out : List ℕ) (p : Plan) → Problem s g → 4 * length s ≤ length out → length p ≤ measure s g → sets out 0 (flat p) ≡ overwrite (flat p) out
fits out p q room short = sets_front (flat p) out (omega (arith, twice q, room, short, length-flat p))

-- ---- the steps of `run_method`

module _ {s g : State} {y : Yard} {out : List ℕ} (w : Solvable s g y out) where
  pub may_begin : {cur : List ℕ} → length cur ≡ length s → Beginnable s g cur y
  may_begin e = record { problem = w.problem; state_size = e; sized = w.sized; start = w.start }

module _ {s g : State} {y : Yard} {out : List ℕ} (w : Solvable s g y out) (m : Method) {d : Mode} (is : d ≡ mode_of m) {cur : List ℕ} {y₁ : Yard} {z₁ : Sets}
    (b : Begun d s g cur y y₁ z₁) where
  pub first_steppable : Steppable d cur g y₁ z₁ out 0
  first_steppable = lent.first_steppable w.problem w.visits b w.room

  module _ {k : ℕ} {t : State} {y₂ : Yard} {z₂ : Sets} {out₂ : List ℕ} (f : Finished d cur g 0 out k t y₂ z₂ out₂) where
    first : Finished (mode_of m) s g 0 out k t y₂ z₂ out₂
    first = rw (b.state, is) at f

    -- one run
    pub one_way : is_us m ≡ false → Ran m s g out k out₂
    one_way n =
        let p = first.ran.moves in
        record {
          moves = p;
          outcome = one_run m s g n (run_plan first (enough w.problem.problem));
          count = omega (arith, first.ran.count);
          written = first.ran.written ∙ fits out p w.problem.problem w.room (omega (arith, first.ran.spent));
        }

    -- two runs
    module _ (us : is_us m ≡ true) where
      pub second_steppable : Steppable Building t g y₂ z₂ out₂ k
      second_steppable = steps_flat (ap walksᵇ is ∙ flat_first m us) refl (ran_steppable first_steppable.room first_steppable.count f.ran)

      pub two_way : {r : ℕ} {t' : State} {y₃ : Yard} {z₃ : Sets} {out₃ : List ℕ} → Finished Building t g k out₂ r t' y₃ z₃ out₃ → Ran m s g out r out₃
      two_way h =
          let p = first.ran.moves in
          let q = h.ran.moves in
          let count : k ≡ length p = omega (arith, first.ran.count) in
          let short : measure t g ≤ fuel s = omega (arith, first.ran.spent, enough w.problem.problem) in
          let second : iterate (step_of Building g) (fuel s) (after s p) ≡ plan q = ap (iterate (step_of Building g) (fuel s)) (sym first.ran.end) ∙ run_plan h short in
          record {
            moves = p ++ q;
            outcome = two_runs m s g p q us (run_plan first (enough w.problem.problem)) second;
            count = omega (arith, first.ran.count, h.ran.count, length-append p q);
            written =
                h.ran.written
                ∙ ap₂ (λ o j. sets o (2 * j) (flat q)) first.ran.written count
                ∙ plans_written out p q
                ∙ fits out (p ++ q) w.problem.problem w.room (omega (arith, first.ran.spent, h.ran.spent, length-append p q));
          }

-- ---- the answer: what is misplaced, counted on the rows as the check left them, and the runs

pub solved : {m : Method} {s g : State} {y : Yard} {out : List ℕ} {d k : ℕ} {out' : List ℕ} → Solvable s g y out
    → d ≡ count (misplaced_in y) (length s) → Ran m s g out k out' → Solved m s g out (record { count = k; misplaced = d }) out'
solved {y = y} w e v = record { ran = v; misplaced = e ∙ misplaced_in_lem y w.problem.problem.initial w.start.stands }
