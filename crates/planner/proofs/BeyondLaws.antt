-- Question 19 of the panel's entry: what its test says. Assumes nothing.
use Prim.Native.Nat.{ℕ, ◌≤◌, ◌<◌}
use mathlib.Core.Path.{◌≡◌, ap}
use mathlib.Core.Bool.{Bool, true, false, ◌&&◌, cond}
use mathlib.Core.Option.{none, some}
use native.Mathlib.Omega.{arith}
use lib.Dec.{leb, ltb}
use Rattle.lists.proofs.ReflectLaws.{Reflects, from_true, from_false, not-not, reflects_and, leb_reflects, ltb_reflects}
use Rattle.blocks.specs.State.{most}
use Rattle.blocks.specs.Sheet.{panel_most, Takes}
use Rattle.planner.specs.Answers.{beyondᵇ}

beyond_test : (n : ℕ) → Reflects ((n ≤ most) × (panel_most < n)) (leb n most && ltb panel_most n)
beyond_test n = reflects_and (leb_reflects n most) (ltb_reflects panel_most n)

-- question 19 is answered no, or 2 is, or neither
pub beyond_no : (panel : Bool) (n : ℕ) → beyondᵇ panel n ≡ true → (n ≤ most) × (¬ Takes (cond panel (some panel_most) none) n)
beyond_no false n e = let z : ◌≡◌ {A = ℕ} 0 1 = ap (λ t. cond t 1 0) e in absurd (omega arith)
beyond_no true n e = let w = from_true (beyond_test n) e in (w.0, λ l. omega (arith, w.1, l))

pub beyond_yes : (panel : Bool) (n : ℕ) → beyondᵇ panel n ≡ false → n ≤ most → Takes (cond panel (some panel_most) none) n
beyond_yes false n e l = tt
beyond_yes true n e l = not-not (leb_reflects n panel_most) (λ h. from_false (beyond_test n) e (l, omega (arith, h)))
