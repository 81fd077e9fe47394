-- What the position test names: c of a misplaced block is the first block in position beneath it in the goal, and there is one such block. Assumes nothing.
use mathlib.Core.Path.{◌≡◌, refl, sym, ap, ◌∙◌, subst}
use mathlib.Core.Logic.{◌↔◌}
use Prim.Native.Nat.{ℕ, suc, ◌<◌}
use native.Mathlib.Omega.{arith}
use Rattle.blocks.specs.State.{State, down}
use Rattle.blocks.specs.Position.{Problem, InPosition, Misplaced, Nearest, Position, in_position, misplaced_above, Positioned, right, wrong, named}
use Rattle.blocks.specs.Tests.{position, nearest}
use Rattle.blocks.proofs.PositionedLaws.{position_is}

module _ {s g : State} (p : Problem s g) where
  -- c of a misplaced block
  pub nearest_is : (b : ℕ) → Misplaced s g b → Nearest s g b (nearest s g b)
  unfolding nearest
  nearest_is b m = by (position_is p b)
    where
      by : {r : Position} → Positioned s g b r → Nearest s g b (named r)
      by (right i) = absurd (m i)
      by (wrong k) = k

-- c is met after the same steps
nearest_steps : {s g : State} {b c e : ℕ} (k : Nearest s g b c) (h : Nearest s g b e) → ¬ (k.steps < h.steps)
nearest_steps {s} {g} k h l = h.between (suc k.steps) l (subst (InPosition s g) (sym k.beneath) k.right)

pub same_steps : {s g : State} {b c e : ℕ} (k : Nearest s g b c) (h : Nearest s g b e) → k.steps ≡ h.steps
same_steps k h = omega (arith, nearest_steps k h, nearest_steps h k)

pub nearest_only : {s g : State} {b c e : ℕ} → Nearest s g b c → Nearest s g b e → c ≡ e
nearest_only {g = g} {b} k h = sym k.beneath ∙ ap (λ i. down g (suc i) b) (same_steps k h) ∙ h.beneath

positioned_only : {s g : State} {b : ℕ} {q r : Position} → Positioned s g b q → Positioned s g b r → q ≡ r
positioned_only (right i) (right j) = refl
positioned_only (right i) (wrong k) = absurd (k.between 0 (omega arith) i)
positioned_only (wrong k) (right i) = absurd (k.between 0 (omega arith) i)
positioned_only (wrong k) (wrong h) = ap misplaced_above (nearest_only k h)

-- the test gives an answer exactly where it is true
pub position_told : (s g : State) → Problem s g → (b : ℕ) (r : Position) → (position s g b ≡ r) ↔ Positioned s g b r
position_told s g p b r = (λ e. subst (Positioned s g b) e (position_is p b), λ w. positioned_only (position_is p b) w)

-- of a block in position it names none
pub names_none : (s g : State) → Problem s g → (b : ℕ) → InPosition s g b → nearest s g b ≡ 0
unfolding nearest
names_none s g p b i = ap named ((position_told s g p b in_position).1 (right i))
