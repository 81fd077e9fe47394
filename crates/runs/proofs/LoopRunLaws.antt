-- A run as the code's loop makes it: one move more, and the end. Assumes nothing.
use Prim.Native.Nat.{ℕ, ◌+◌, ◌*◌, ◌≤◌, ◌<◌}
use mathlib.Core.Path.{◌≡◌, sym, ap, ◌∙◌, subst}
use mathlib.Core.List.{List, [], ◌∷◌, ◌++◌}
use native.Mathlib.Omega.{arith}
use lib.ListN.{length, set, length-append}
use lib.Seq.{length-sets}
use Rattle.blocks.specs.State.{State}
use Rattle.blocks.specs.Move.{◌⟶◌}
use Rattle.blocks.specs.Tests.{measure}
use Rattle.blocks.specs.Method.{precede, iterate}
use Rattle.blocks.specs.Answer.{flat}
use Rattle.blocks.proofs.FlatLaws.{length-flat}
use Rattle.rows.specs.Rows.{Yard}
use Rattle.std.specs.Prelude.{Some, None}
use Rattle.runs.specs.Runs.{Steppable, Ran, Finished}
use Rattle.statuses.specs.Modes.{step_of}
use Rattle.statuses.specs.Kept.{Turned}
use Rattle.statuses.specs.declared.Mode.{Mode}
use Rattle.statuses.specs.declared.Sets.{Sets}
use Rattle.choices.specs.Choices.{Picks}
use Rattle.choices.specs.Walks.{KeptWalk}
use Rattle.choices.specs.declared.Move.{Move}
use Rattle.choices.proofs.TrailLaws.{visits_within}
use Rattle.choices.proofs.PickLaws.{kept_within}
use Rattle.runs.proofs.StepLaws.{falls}
use Rattle.runs.proofs.RunningLaws.{running_next, pair_written}

module _ {m : Mode} {s g : State} {k₀ : ℕ} {out₀ : List ℕ} {k : ℕ} {t : State} {y : Yard} {z : Sets} {out : List ℕ}
    (room : 2 * k₀ + 2 * measure s g ≤ length out₀) (small : k₀ + measure s g < 65535)
    (w : Ran m s g k₀ out₀ k t y z out) where
  pub ran_steppable : Steppable m t g y z out k
  ran_steppable =
      record {
        kept = w.kept;
        visits = w.visits;
        room = omega (arith, room, w.count, w.spent, ap length w.written ∙ length-sets out₀ (2 * k₀) (flat w.moves));
        count = omega (arith, small, w.count, w.spent);
      }

  -- the move v is made, and written
  module _ {v : Move} {y₁ : Yard} (p : Picks m g z (Some v) y y₁) {t' : State} {y₂ : Yard} {z' : Sets} (u : Turned m t g v.block v.destination t' y₁ y₂ z') where
    pub ran_next : {out' : List ℕ} → out' ≡ set (set out (2 * k) v.block) (2 * k + 1) v.destination → Ran m s g k₀ out₀ (k + 1) t' y₂ z' out'
    ran_next o =
        let a = v.block in
        let x = v.destination in
        let more = running_next (record { end = w.end; reached = w.reached }) (p.chooses t w.kept w.visits).step in
        let long : length (w.moves ++ ((a ⟶ x) ∷ [])) ≡ length w.moves + 1 = length-append w.moves ((a ⟶ x) ∷ []) in
        let at : 2 * k ≡ 2 * k₀ + length (flat w.moves) = omega (arith, w.count, length-flat w.moves) in
        record {
          moves = w.moves ++ ((a ⟶ x) ∷ []);
          end = u.state ∙ more.end;
          reached = λ j. more.reached j ∙ ap (λ q. precede (w.moves ++ ((a ⟶ x) ∷ [])) (iterate (step_of m g) j q)) (sym u.state);
          count = omega (arith, w.count, long);
          written = o ∙ ap (λ l. set (set l (2 * k) a) (2 * k + 1) x) w.written ∙ pair_written out₀ (2 * k₀) (2 * k) w.moves a x at;
          spent = omega (arith, long, w.spent, falls ran_steppable p, ap (λ q. measure q g) u.state);
          kept = u.kept;
          visits = visits_within u.within (subst (λ q. KeptWalk m q g y₁) (sym u.state) (p.visits t w.kept w.visits));
        }

    pub ran_falls : measure t' g < measure t g
    ran_falls = omega (arith, falls ran_steppable p, ap (λ q. measure q g) u.state)

  -- there is none
  pub ran_end : {y₁ : Yard} → Picks m g z None y y₁ → Finished m s g k₀ out₀ k t y₁ z out
  ran_end p = record {
    ran =
        record {
          moves = w.moves;
          end = w.end;
          reached = w.reached;
          count = w.count;
          written = w.written;
          spent = w.spent;
          kept = kept_within w.kept p.within;
          visits = p.visits t w.kept w.visits;
        };
    ended = (p.chooses t w.kept w.visits).step;
  }
