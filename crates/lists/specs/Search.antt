-- Searching and counting over the numbers 1 to n. The tie-break "lowest-numbered" of document 01 is `lowest`, here and nowhere else.
-- Assumes nothing.
use Rattle.std.specs.Prelude.{ℕ, zero, suc, ◌+◌, ◌≤◌, ◌<◌, Bool, true, false, Option, Some, None}

-- x where the test passed, 0 where it failed.
abbrev pub pick : Bool → ℕ → ℕ
pick true x = x
pick false x = 0

-- The first number that is not 0, if either is.
abbrev pub or_else : ℕ → ℕ → ℕ
or_else zero y = y
or_else (suc x) y = suc x

-- The lowest number from 1 to n that passes the test; 0 where none does.
unfoldable pub lowest : (ℕ → Bool) → ℕ → ℕ
lowest P zero = 0
lowest P (suc n) = or_else (lowest P n) (pick (P (suc n)) (suc n))

-- A number for which 0 says none, as the code answers it.
abbrev pub nonzero : ℕ → Option ℕ
nonzero zero = None
nonzero (suc x) = Some (suc x)

-- How many numbers from 1 to n pass the test.
unfoldable pub count : (ℕ → Bool) → ℕ → ℕ
count P zero = 0
count P (suc n) = pick (P (suc n)) 1 + count P n

-- c of the numbers from 1 to n have P: `count` said of a property.
pub data Counts (P : ℕ → Type 0) : ℕ → ℕ → Type 0 where
  start : Counts P 0 0
  counted : {n c : ℕ} → Counts P n c → P (suc n) → Counts P (suc n) (suc c)
  passed : {n c : ℕ} → Counts P n c → ¬ P (suc n) → Counts P (suc n) c

-- b is the lowest number from 1 to n of which P holds: `lowest` said of a property.
pub record Lowest (P : ℕ → Type 0) (n b : ℕ) : Type 0 where
  pub low : 1 ≤ b
  pub high : b ≤ n
  pub holds : P b
  pub first : (c : ℕ) → 1 ≤ c → c < b → P c → ⊥
