-- How many ways there are to finish a state (document 02, Job 1; document 001, section 2.2, g). Assumes nothing.
-- Document 01 says pile for tower; a tower is grounded when it stands on the table, else loose.
use Rattle.std.specs.Prelude.{ℕ, zero, suc, ◌+◌, ◌*◌}

-- "the ways to finish a yard with n piles not yet on the ground and k that are: 1 when n is 0,
-- and for n + 1 it is the count for (n, k + 1) plus (n + k) times the count for (n, k)."
unfoldable pub ways : ℕ → ℕ → ℕ
ways zero k = 1
ways (suc n) k = ways n (k + 1) + (n + k) * ways n k

-- The most towers whose count is answered: "for n + k up to 16". Which of these counts are held says `Table`.
abbrev pub held : ℕ
held = 16
