-- Runs of moves. Assumes nothing.
use Rattle.std.specs.Prelude.{ℕ, ◌+◌, ◌*◌, ◌≤◌, ◌<◌, ◌≡◌, List, length}
use Rattle.std.proofs.lemmas.List.Edits.{sets}
use Rattle.rows.specs.Rows.{Yard}
use Rattle.blocks.specs.State.{State}
use Rattle.blocks.specs.Move.{Plan, after}
use Rattle.blocks.specs.Tests.{measure}
use Rattle.blocks.specs.Method.{stop, precede, iterate}
use Rattle.blocks.specs.Answer.{flat}
use Rattle.statuses.specs.Modes.{step_of}
use Rattle.statuses.specs.Kept.{Kept}
use Rattle.statuses.specs.declared.Mode.{Mode}
use Rattle.statuses.specs.declared.Sets.{Sets}
use Rattle.choices.specs.Walks.{KeptWalk}

-- A run can be made: there is room for all pairs that the measure still allows, and they are few enough to be counted.
pub record Steppable (m : Mode) (s g : State) (y : Yard) (z : Sets) (out : List ℕ) (k : ℕ) : Type 0 where
  pub kept : Kept m s g y z
  pub visits : KeptWalk m s g y
  pub room : 2 * k + 2 * measure s g ≤ length out
  pub count : k + measure s g < 65535

-- A run from s, with k₀ pairs written before it: the moves made so far, the state reached, and what is left of the measure.
pub record Ran (m : Mode) (s g : State) (k₀ : ℕ) (out₀ : List ℕ) (k : ℕ) (t : State) (y : Yard) (z : Sets) (out : List ℕ) : Type 0 where
  pub moves : Plan
  pub end : t ≡ after s moves
  pub reached : (j : ℕ) → iterate (step_of m g) (length moves + j) s ≡ precede moves (iterate (step_of m g) j t)
  pub count : k ≡ k₀ + length moves
  pub written : out ≡ sets out₀ (2 * k₀) (flat moves)
  pub spent : length moves + measure t g ≤ measure s g
  pub kept : Kept m t g y z
  pub visits : KeptWalk m t g y

-- A run that has ended.
pub record Finished (m : Mode) (s g : State) (k₀ : ℕ) (out₀ : List ℕ) (k : ℕ) (t : State) (y : Yard) (z : Sets) (out : List ℕ) : Type 0 where
  pub ran : Ran m s g k₀ out₀ k t y z out
  pub ended : step_of m g t ≡ stop
