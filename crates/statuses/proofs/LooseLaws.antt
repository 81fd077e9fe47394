-- The test of loose blocks is that of waiting or of perched blocks, by the mode of the run. Assumes nothing.
use Prim.Native.Nat.{ℕ}
use mathlib.Core.Path.{◌≡◌, ap, ◌∙◌}
use mathlib.Core.Bool.{Bool, true, false, cond}
use Rattle.blocks.specs.State.{State}
use Rattle.blocks.specs.Tests.{perchedᵇ, waitingᵇ}
use Rattle.statuses.specs.Modes.{walksᵇ, looseᵇ}
use Rattle.statuses.specs.Kept.{Holds, SetsHold}
use Rattle.statuses.specs.declared.Mode.{Mode}
use Rattle.statuses.specs.declared.Sets.{Sets}

-- what holds of both tests holds of this one
pub loose_by : (k : Mode) (s g : State) (b : ℕ) (P : Bool → Type 0) → P (perchedᵇ s g b) → P (waitingᵇ s g b) → P (looseᵇ k s g b)
loose_by k s g b P p w = by (walksᵇ k)
  where
    by : (t : Bool) → P (cond t (waitingᵇ s g b) (perchedᵇ s g b))
    by true = w
    by false = p

-- the set of the loose blocks, told by the kind
module _ {k : Mode} {s g : State} {z : Sets} (w : SetsHold k s g z) where
  pub perched_held : walksᵇ k ≡ false → Holds z.loose (perchedᵇ s g)
  perched_held e = record { same = λ b l. w.loose.same b l ∙ ap (λ t. cond t (waitingᵇ s g b) (perchedᵇ s g b)) e }

  pub waiting_held : walksᵇ k ≡ true → Holds z.loose (waitingᵇ s g)
  waiting_held e = record { same = λ b l. w.loose.same b l ∙ ap (λ t. cond t (waitingᵇ s g b) (perchedᵇ s g b)) e }
