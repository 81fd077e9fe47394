-- The survey of a state: what each of its ways out answers to the three questions. Assumes nothing.
use Prim.Native.Nat.{ℕ, ◌+◌, ◌≤◌}
use Rattle.std.specs.Prelude.{Some, None, Ok, Err}
use mathlib.Core.Path.{◌≡◌, refl, sym, ap, ◌∙◌}
use mathlib.Core.Bool.{Bool, not, cond, not-not}
use mathlib.Core.List.{List, [], ◌∷◌}
use native.Mathlib.Omega.{arith}
use borrow.Author.Tests.{eq-eqb, ne_eqb}
use lib.Dec.{eqb}
use lib.ListN.{length, get_or, set}
use mir.Syntax.{w16}
use mir.Val.{Fits}
use Rattle.rows.specs.Rows.{Yard, row, Within}
use Rattle.rows.proofs.RowLaws.{row_set, within_none, within_set, within_then, within_wider}
use Rattle.blocks.specs.State.{State, most}
use Rattle.lists.specs.Search.{lowest, nonzero}
use Rattle.lists.proofs.NonzeroLaws.{none_zero, some_is, some_nonzero}
use Rattle.blocks.specs.Question.{Asked, all_yes, no', first_no, outsideᵇ, first_outside, sharedᵇ, first_shared, floatingᵇ, first_floating}
use Rattle.blocks.specs.Question.{asks_outside, asks_shared, asks_floating, state_questions}
use Rattle.lists.proofs.ReflectLaws.{reflects_same}
use Rattle.blocks.proofs.DecidedLaws.{entries_yes}
use Rattle.lists.proofs.SearchLaws.{lowest_le, lowest_ext}
use Rattle.blocks.proofs.GroundLaws.{grounded_test}
use Rattle.problem.specs.Known.{Filled, Climbed, Standings}
use Rattle.problem.specs.Checked.{Surveyable, Surveyed}
use Rattle.problem.specs.declared.Fault.TheVariants.{Outside, Shared, Floating}

-- a place is a block, and fits
pub place_fits : {p n : ℕ} → p ≤ n → n ≤ most → Fits w16 p
place_fits l h = record { fits = omega arith }

-- the block that a search for the lowest has found
pub lowest_fits : (P : ℕ → Bool) {p n : ℕ} → Some p ≡ nonzero (lowest P n) → n ≤ most → Fits w16 p
lowest_fits P {p} {n} e h = place_fits (omega (arith, some_is (lowest P n) (sym e), lowest_le P n)) h

pub outside_fits : (s : State) {p : ℕ} → Some p ≡ nonzero (first_outside s) → length s ≤ most → Fits w16 p
unfolding first_outside
outside_fits s e h = lowest_fits (outsideᵇ s) e h

pub shared_fits : {s : State} {p : ℕ} {l : List ℕ} → Filled s (Some p) l → length s ≤ most → Fits w16 p
unfolding first_shared
shared_fits {s} w h = lowest_fits (sharedᵇ s) w.place_is h

-- what was not reached does not come down to the table
pub unreached_is : {s g : State} {st : List ℕ} → first_outside s ≡ 0 → Standings s g st → lowest (λ b. eqb (get_or st b 0) 0) (length s) ≡ first_floating s
unfolding first_floating floatingᵇ
unreached_is {s} {g} {st} e w =
    lowest_ext (λ b. eqb (get_or st b 0) 0) (floatingᵇ s) (length s) (λ b l h.
    sym (not-not (eqb (get_or st b 0) 0))
    ∙ ap not (reflects_same (λ x. x) (λ x. x) (w.reached b l h) (grounded_test s (entries_yes s e) b h)))

-- ---- the ways out

-- a question whose place is a block is answered no, one with place 0 yes
pub no_at : (k : ℕ) {p : ℕ} (q : ℕ) (rest : Asked) → Some p ≡ nonzero q → no' k p ≡ cond (eqb q 0) rest (no' k q)
no_at k {p} q rest e =
    let is : q ≡ p = some_is q (sym e) in
    ap (no' k) (sym is) ∙ ap (λ t. cond t rest (no' k q)) (sym (ne_eqb q 0 (λ z. some_nonzero q (sym e) (sym is ∙ z))))

pub yes_at : (k q : ℕ) (rest : Asked) → None ≡ nonzero q → rest ≡ cond (eqb q 0) rest (no' k q)
yes_at k q rest e = ap (λ t. cond t rest (no' k q)) (sym (eq-eqb q 0 (none_zero q (sym e))))

module _ {s g : State} {y : Yard} {ld : ℕ} (v : Surveyable s g y ld) where
  -- nothing has been written
  pub outside_way : {p : ℕ} → Some p ≡ nonzero (first_outside s) → Surveyed s g (Err (Outside p)) ld y y
  unfolding state_questions asks_outside
  outside_way e =
      record {
        answer = λ k₁ k₂ k₃. no_at k₁ (first_outside s) (first_no (asks_shared k₂ s ∷ asks_floating k₃ s ∷ [])) e;
        known = λ z. cc;
        within = within_none;
      }

  filled_within : (l : List ℕ) → length l ≡ length (row y ld) → Within ld (ld + 2) y (set y ld l)
  filled_within l long = within_set ld l within_none long (omega arith) (omega arith)

  module _ (e : None ≡ nonzero (first_outside s)) where
    first_yes : (k₁ k₂ k₃ : ℕ) → first_no (asks_shared k₂ s ∷ asks_floating k₃ s ∷ []) ≡ first_no (state_questions k₁ k₂ k₃ s)
    unfolding state_questions asks_outside
    first_yes k₁ k₂ k₃ = yes_at k₁ (first_outside s) (first_no (asks_shared k₂ s ∷ asks_floating k₃ s ∷ [])) e

    pub shared_way : {p : ℕ} {l : List ℕ} → length l ≡ length (row y ld) → Filled s (Some p) l → Surveyed s g (Err (Shared p)) ld y (set y ld l)
    unfolding asks_shared
    shared_way {p} {l} long w =
        record {
          answer = λ k₁ k₂ k₃. no_at k₂ (first_shared s) (first_no (asks_floating k₃ s ∷ [])) w.place_is ∙ first_yes k₁ k₂ k₃;
          known = λ z. cc;
          within = filled_within l long;
        }

    module _ {l : List ℕ} (long : length l ≡ length (row y ld)) (w : Filled s None l) {y' : Yard} (c : Climbed s g ld (set y ld l) y') where
      second_yes : (k₁ k₂ k₃ : ℕ) → first_no (asks_floating k₃ s ∷ []) ≡ first_no (state_questions k₁ k₂ k₃ s)
      unfolding asks_shared
      second_yes k₁ k₂ k₃ = yes_at k₂ (first_shared s) (first_no (asks_floating k₃ s ∷ [])) w.place_is ∙ first_yes k₁ k₂ k₃

      climbed_within : Within ld (ld + 2) y y'
      climbed_within = within_then (filled_within l long) (within_wider c.within (omega arith) (omega arith))

      floating_is : nonzero (lowest (λ b. eqb (get_or (row y' (ld + 1)) b 0) 0) (length s)) ≡ nonzero (first_floating s)
      floating_is = ap nonzero (unreached_is (none_zero (first_outside s) (sym e)) c.stands)

      pub floating_way : {r : ℕ} → Some r ≡ nonzero (lowest (λ b. eqb (get_or (row y' (ld + 1)) b 0) 0) (length s)) → Surveyed s g (Err (Floating r)) ld y y'
      unfolding asks_floating
      floating_way f =
          record {
            answer = λ k₁ k₂ k₃. no_at k₃ (first_floating s) all_yes (f ∙ floating_is) ∙ second_yes k₁ k₂ k₃;
            known = λ z. cc;
            within = climbed_within;
          }

      pub sound_way : None ≡ nonzero (lowest (λ b. eqb (get_or (row y' (ld + 1)) b 0) 0) (length s)) → Surveyed s g (Ok tt) ld y y'
      unfolding asks_floating
      sound_way f =
          record {
            answer = λ k₁ k₂ k₃. yes_at k₃ (first_floating s) all_yes (f ∙ floating_is) ∙ second_yes k₁ k₂ k₃;
            known = λ _. (rw (c.within.below ld (omega arith), row_set y ld l (omega (arith, v.sized))) (w.loads refl), c.stands);
            within = climbed_within;
          }
