-- Lengths: the test of the rule, questions 16 to 18, and why what the methods write fits. Assumes nothing.
use mathlib.Core.Path.{◌≡◌, refl}
use mathlib.Core.Logic.{◌⊎◌, inl, inr, ◌↔◌}
use mathlib.Core.List.{List, [], ◌∷◌}
use mathlib.Core.Option.{none, some}
use Prim.Native.Nat.{ℕ}
use lib.ListN.{length}
use Rattle.blocks.specs.State.{State, support, put}
use Rattle.blocks.specs.Move.{◌⟶◌, Plan, CarefulPlan}
use Rattle.blocks.specs.Question.{None, AllYes}
use Rattle.blocks.specs.Length.{Lengths, Fits, FittingPlan, Overhangs, Level, MeasuredIf}
use Rattle.blocks.specs.Length.{asks_lengths, overhangsᵇ, first_overhang, asks_overhang, overhang_questions, length_questions}
use Rattle.lists.proofs.ReflectLaws.{Reflects, not-not, reflects_not, eqb_reflects}
use Rattle.blocks.proofs.FitsLaws.{fits_test}
use Rattle.blocks.proofs.StateLaws.{supported_block}
use Rattle.blocks.proofs.QuestionLaws.{Decided, Decides, asks_decided, none_decided}

-- ---- the rule

-- the table takes any block
pub fits_table : (ls : Lengths) (a : ℕ) → Fits ls a 0
fits_table none a = tt
fits_table (some l) a = inl refl

-- moves to the table and to the supports of a level goal fit
pub careful_fits : (ls : Lengths) (p : Plan) (s g : State) → Level ls g → CarefulPlan s g p → FittingPlan ls p
careful_fits ls [] s g v c = tt
careful_fits ls ((a ⟶ x) ∷ p) s g v c = (by c.0.target, careful_fits ls p (put s a x) g v c.1)
  where
    by : (x ≡ 0) ⊎ (x ≡ support g a) → Fits ls a x
    by (inl e) = rw e (fits_table ls a)
    by (inr e) = rw e (v.fits a)

-- ---- without lengths every plan fits

pub plan_fits : (p : Plan) → FittingPlan none p
plan_fits [] = tt
plan_fits ((a ⟶ x) ∷ p) = (tt, plan_fits p)

-- ---- questions 16, 17 and 18

pub count_decided : (l : List ℕ) (s : State) → Decided (asks_lengths l s)
unfolding asks_lengths
count_decided l s = asks_decided (eqb_reflects (length l) (length s))

pub overhang_test : (l : List ℕ) (s : State) (b : ℕ) → Reflects (Overhangs (some l) s b) (overhangsᵇ l s b)
unfolding overhangsᵇ
overhang_test l s b = reflects_not (fits_test l b (support s b))

pub overhang_decided : (k : ℕ) (l : List ℕ) (s : State) → Decided (asks_overhang k l s)
unfolding asks_overhang first_overhang
overhang_decided k l s = none_decided (Overhangs (some l) s) (overhangsᵇ l s) (length s) (λ b low high. overhang_test l s b)

pub overhangs_decides : (ls : Lengths) (s g : State) → Decides (overhang_questions ls s g)
unfolding overhang_questions
overhangs_decides none s g = tt
overhangs_decides (some l) s g = (overhang_decided 17 l s, λ _. (overhang_decided 18 l g, λ _. tt))

pub lengths_decides : (ls : Lengths) (s g : State) → Decides (length_questions ls s g)
unfolding length_questions
lengths_decides none s g = tt
lengths_decides (some l) s g = (count_decided l s, λ _. overhangs_decides (some l) s g)

-- a number that is no block rests on the table, so a state is level where no block overhangs
pub level : (l : List ℕ) (s : State) → None (Overhangs (some l) s) (length s) ↔ Level (some l) s
level l s = (λ clean. record { fits = λ b. not-not (fits_test l b (support s b)) (bad clean b) }, λ v b low high over. over (v.fits b))
  where
    bad : None (Overhangs (some l) s) (length s) → (b : ℕ) → ¬ Overhangs (some l) s b
    bad clean b over =
        let w = supported_block s b (λ e. over (inl e)) in
        clean b w.low w.high over

pub lengths_yes : (ls : Lengths) (s g : State) → AllYes (length_questions ls s g) ↔ MeasuredIf ls s g
unfolding length_questions overhang_questions asks_lengths asks_overhang
lengths_yes none s g = (λ y. tt, λ m. tt)
lengths_yes (some l) s g = (
  λ y. record { count = y.0; now = (level l s).0 y.1.0; goal = (level l g).0 y.1.1.0 },
  λ m. (m.count, ((level l s).1 m.now, ((level l g).1 m.goal, tt))),
)

-- the goal of a problem whose lengths are accepted is level
pub goal_level : (ls : Lengths) (s g : State) → MeasuredIf ls s g → Level ls g
goal_level none s g m = record { fits = λ b. tt }
goal_level (some l) s g m = m.goal
