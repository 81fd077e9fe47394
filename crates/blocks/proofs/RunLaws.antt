-- Repeated steps: a run is the plan that steps give one after the other until there is none. What each step keeps or takes, the run keeps or takes.
-- Assumes nothing.
use mathlib.Core.Path.{◌≡◌, refl, sym, ap, ◌∙◌, subst}
use mathlib.Core.List.{[], ◌∷◌, ◌++◌}
use Prim.Native.Nat.{ℕ, zero, suc, ◌+◌, ◌≤◌}
use native.Mathlib.Omega.{arith}
use lib.ListN.{length}
use Rattle.blocks.specs.State.{State, put}
use Rattle.blocks.specs.Move.{◌⟶◌, Plan, Legal, LegalPlan, Careful, CarefulPlan, after}
use Rattle.blocks.specs.Steps.{Steps, ends}
use Rattle.blocks.specs.Method.{Step, stop, go, plan, precede, follow, iterate}

-- what is known of a step: of a move Go holds, of the end Stop, and it is never at a loss
pub data Stepping (Go : ℕ → ℕ → Type 0) (Stop : Type 0) : Step → Type 0 where
  goes : {a x : ℕ} → Go a x → Stepping Go Stop (go a x)
  stops : Stop → Stepping Go Stop stop

-- a run: Inv holds wherever it comes by, Go of each of its moves, Stop where it ends
pub data Run (Inv : State → Type 0) (Go : State → ℕ → ℕ → Type 0) (Stop : State → Type 0) : State → Plan → Type 0 where
  done : {s : State} → Inv s → Stop s → Run Inv Go Stop s []
  more : {s : State} {a x : ℕ} {p : Plan} → Inv s → Go s a x → Run Inv Go Stop (put s a x) p → Run Inv Go Stop s ((a ⟶ x) ∷ p)

module _ {Inv : State → Type 0} {Go : State → ℕ → ℕ → Type 0} {Stop : State → Type 0} where
  pub run_end : {s : State} {p : Plan} → Run Inv Go Stop s p → Inv (after s p) × Stop (after s p)
  run_end (done i e) = (i, e)
  run_end (more i m r) = run_end r

  -- what holds of every move
  pub run_legal : ((s : State) (a x : ℕ) → Inv s → Go s a x → Legal s a x) → {s : State} {p : Plan} → Run Inv Go Stop s p → LegalPlan s p
  run_legal each (done i e) = tt
  run_legal each (more {s = s} {a = a} {x = x} i m r) = (each s a x i m, run_legal each r)

  pub run_careful : (g : State) → ((s : State) (a x : ℕ) → Inv s → Go s a x → Careful s g a x) → {s : State} {p : Plan}
      → Run Inv Go Stop s p → CarefulPlan s g p
  run_careful g each (done i e) = tt
  run_careful g each (more {s = s} {a = a} {x = x} i m r) = (each s a x i m, run_careful g each r)

  -- a measure from which every move takes exactly 1, or at least 1
  pub run_takes : (μ : State → ℕ) → ((s : State) (a x : ℕ) → Inv s → Go s a x → μ s ≡ suc (μ (put s a x))) → {s : State} {p : Plan}
      → Run Inv Go Stop s p → μ s ≡ length p + μ (after s p)
  run_takes μ each (done i e) = omega arith
  run_takes μ each (more {s = s} {a = a} {x = x} i m r) = omega (arith, each s a x i m, run_takes μ each r)

  pub run_bound : (μ : State → ℕ) → ((s : State) (a x : ℕ) → Inv s → Go s a x → suc (μ (put s a x)) ≤ μ s) → {s : State} {p : Plan}
      → Run Inv Go Stop s p → length p + μ (after s p) ≤ μ s
  run_bound μ each (done i e) = omega arith
  run_bound μ each (more {s = s} {a = a} {x = x} i m r) = omega (arith, each s a x i m, run_bound μ each r)

  -- what every move keeps holds all along; what every move had before it held at the start
  pub run_with : (P : State → Type 0) → ((s : State) (a x : ℕ) → Inv s → Go s a x → P s → P (put s a x)) → {s : State} {p : Plan}
      → P s → Run Inv Go Stop s p → Run (λ t. Inv t × P t) Go Stop s p
  run_with P keeps h (done i e) = done (i, h) e
  run_with P keeps h (more {s = s} {a = a} {x = x} i m r) = more (i, h) m (run_with P keeps (keeps s a x i m h) r)

  pub run_back : (P : State → Type 0) → ((s : State) (a x : ℕ) → Inv s → Go s a x → P (put s a x) → P s) → {s : State} {p : Plan}
      → Run Inv Go Stop s p → P (after s p) → P s
  run_back P was (done i e) h = h
  run_back P was (more {s = s} {a = a} {x = x} i m r) h = was s a x i m (run_back P was r h)

-- a run is made of steps
pub run_told : {Inv : State → Type 0} {Go : State → ℕ → ℕ → Type 0} {Stop : State → Type 0} {s : State} {p : Plan} → Run Inv Go Stop s p → Steps Go Stop s p
run_told (done i e) = ends e
run_told (more i m r) = Steps.goes m (run_told r)

-- where the words for a step leave no choice, and none is left at the end, there is one plan
module _ (Inv : State → Type 0) (Go : State → ℕ → ℕ → Type 0) (Stop : State → Type 0)
    (keeps : (s : State) (a x : ℕ) → Inv s → Go s a x → Inv (put s a x)) where
  pub steps_kept : {s : State} {p : Plan} → Inv s → Steps Go Stop s p → Inv (after s p)
  steps_kept i (ends e) = i
  steps_kept i (Steps.goes {s = s} {a = a} {x = x} m r) = steps_kept (keeps s a x i m) r

  pub steps_only : ((s : State) (a b x y : ℕ) → Inv s → Go s a x → Go s b y → (a ≡ b) × (x ≡ y)) → ((s : State) (a x : ℕ) → Inv s → Stop s → Go s a x → ⊥)
      → {s : State} {p q : Plan} → Inv s → Steps Go Stop s p → Steps Go Stop s q → p ≡ q
  steps_only one over i (ends e) (ends h) = refl
  steps_only one over i (ends e) (Steps.goes {s = s} {a = a} {x = x} m r) = absurd (over s a x i e m)
  steps_only one over i (Steps.goes {s = s} {a = a} {x = x} m r) (ends e) = absurd (over s a x i e m)
  steps_only one over i (Steps.goes {s = s} {a = a} {x = x} {p = p} m r) (Steps.goes {a = b} {x = y} {p = q} n t) =
      let same = one s a b x y i m n in
      let move : (a ⟶ x) ≡ (b ⟶ y) = ap (λ c. c ⟶ x) same.0 ∙ ap (λ z. b ⟶ z) same.1 in
      let there : put s b y ≡ put s a x = ap (λ c. put s c y) (sym same.0) ∙ ap (λ z. put s a z) (sym same.1) in
      ap (λ c. c ∷ p) move ∙ ap (λ l. (b ⟶ y) ∷ l) (steps_only one over (keeps s a x i m) r (subst (λ u. Steps Go Stop u q) there t))

-- where every move takes from a measure, fuel for the measure is enough, and the steps make a run
module _ (step : State → Step) (Inv : State → Type 0) (Go : State → ℕ → ℕ → Type 0) (Stop : State → Type 0) (μ : State → ℕ)
    (each : (s : State) → Inv s → Stepping (Go s) (Stop s) (step s))
    (keeps : (s : State) (a x : ℕ) → Inv s → Go s a x → Inv (put s a x))
    (falls : (s : State) (a x : ℕ) → Inv s → Go s a x → suc (μ (put s a x)) ≤ μ s) where
  pub runs : (f : ℕ) (s : State) → Inv s → μ s ≤ f → (p : Plan) × (iterate step f s ≡ plan p) × Run Inv Go Stop s p
  unfolding iterate
  runs zero s i h = by (each s i)
    where
      by : {w : Step} → Stepping (Go s) (Stop s) w → (p : Plan) × (plan [] ≡ plan p) × Run Inv Go Stop s p
      by (goes {a = a} {x = x} m) = absurd (omega (arith, falls s a x i m))
      by (stops e) = ([], refl, done i e)
  runs (suc f) s i h = by (λ t j l. runs f t j l) (each s i)
    where
      by : {w : Step} → ((t : State) → Inv t → μ t ≤ f → (p : Plan) × (iterate step f t ≡ plan p) × Run Inv Go Stop t p)
          → Stepping (Go s) (Stop s) w → (p : Plan) × (follow w s (λ t. iterate step f t) ≡ plan p) × Run Inv Go Stop s p
      by rest (goes {a = a} {x = x} m) =
          let r = rest (put s a x) (keeps s a x i m) (omega (arith, falls s a x i m)) in
          ((a ⟶ x) ∷ r.0, ap (precede ((a ⟶ x) ∷ [])) r.1, more i m r.2)
      by rest (stops e) = ([], refl, done i e)

-- one plan after another
pub after_append : (s : State) (p q : Plan) → after s (p ++ q) ≡ after (after s p) q
after_append s [] q = refl
after_append s ((a ⟶ x) ∷ p) q = after_append (put s a x) p q

pub legal_append : (s : State) (p q : Plan) → LegalPlan s p → LegalPlan (after s p) q → LegalPlan s (p ++ q)
legal_append s [] q l m = m
legal_append s ((a ⟶ x) ∷ p) q l m = (l.0, legal_append (put s a x) p q l.1 m)

pub careful_append : (s g : State) (p q : Plan) → CarefulPlan s g p → CarefulPlan (after s p) g q → CarefulPlan s g (p ++ q)
careful_append s g [] q l m = m
careful_append s g ((a ⟶ x) ∷ p) q l m = (l.0, careful_append (put s a x) g p q l.1 m)
