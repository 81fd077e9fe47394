-- What the table of counts holds (document 02, Job 7). Assumes nothing.
use Rattle.std.specs.Prelude.{◌≡◌, List, ℕ, ◌+◌, ◌-◌, ◌*◌, ◌≤◌, ◌<◌, length, get_or}
use Rattle.counts.specs.Ways.{ways, held}

-- where the count for 2 * j loose towers and k grounded ones stands: row after row, of which row j has 17 - 2 * j entries
abbrev pub place : ℕ → ℕ → ℕ
place j k = j * (18 - j) + k

abbrev pub entry : List ℕ → ℕ → ℕ → ℕ
entry table j k = get_or table (place j k) 0

-- a count with an even n stands at place i
pub record EvenAt (i : ℕ) : Type 0 where
  pub j : ℕ
  pub k : ℕ
  pub within : 2 * j + k ≤ held
  pub there : place j k ≡ i

-- "Keep only the counts whose n is even"
pub record EvenCounts (table : List ℕ) : Type 0 where
  pub each : (j k : ℕ) → 2 * j + k ≤ held → entry table j k ≡ ways (2 * j) k
  pub only : (i : ℕ) → i < length table → EvenAt i
