-- Deadlock as document 01 writes it ("Deadlock"; document 000, section 2). Assumes nothing.
-- That "all are misplaced" is asked for every p: document 000's remark that it follows for p > 1 fails where now and goal are both 0 1 2 3 for blocks 1 to 4.
use Rattle.std.specs.Prelude.{ℕ, suc, ◌≤◌, ◌<◌, Bool, true, false, List, ltb, length, get_or}
use Rattle.blocks.specs.State.{State, Above}
use Rattle.blocks.specs.Position.{Misplaced}

-- The index after i, of the indices 0 to p - 1; after the last comes the first.
abbrev pub wrap : Bool → ℕ → ℕ
wrap true j = j
wrap false j = 0

abbrev pub next : ℕ → ℕ → ℕ
next p i = wrap (ltb (suc i) p) (suc i)

-- document 01: "Slabs b1 to bp, p at least 1, are deadlocked when all are misplaced and there are slabs d1 to dp such that each bi is now above di,
-- and in the goal bi is above the next d, with bp above d1. The ground is no d." Here b and d count from 0, and `Above` asks that d is no table.
pub record Deadlock (s g : State) (p : ℕ) (b d : ℕ → ℕ) : Type 0 where
  pub some : 1 ≤ p
  pub misplaced : (i : ℕ) → i < p → Misplaced s g (b i)
  pub now : (i : ℕ) → i < p → Above s (b i) (d i)
  pub goal : (i : ℕ) → i < p → Above g (b i) (d (next p i))

-- The blocks of the list are deadlocked.
pub record Deadlocked (s g : State) (blocks : List ℕ) : Type 0 where
  pub d : ℕ → ℕ
  pub holds : Deadlock s g (length blocks) (λ i. get_or blocks i 0) d
