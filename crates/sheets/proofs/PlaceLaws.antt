-- How long the records of a sheet are and where they stand, how many lengths it has and where it ends, in numbers. Assumes nothing.
use Prim.Native.Nat.{ℕ, ◌+◌, ◌*◌, ◌≤◌}
use mathlib.Core.Path.{◌≡◌, refl}
use mathlib.Core.Bool.{Bool, true, false}
use native.Mathlib.Omega.{arith}
use Rattle.records.specs.Marks.{marks, mark_of, size}
use Rattle.records.specs.declared.Kind.TheVariants.{Hd, Nw, Gl, Hl, Ln}
use Rattle.sheets.specs.Sheets.{length_count, nows_at, goals_at, lengths_at, end_at}

pub size_hd : size Hd ≡ 6
unfolding mark_of marks
size_hd = refl

pub size_nw : size Nw ≡ 4
unfolding mark_of marks
size_nw = refl

pub size_gl : size Gl ≡ 4
unfolding mark_of marks
size_gl = refl

pub size_ln : size Ln ≡ 4
unfolding mark_of marks
size_ln = refl

-- HL is as long as HD
pub size_hl : size Hl ≡ size Hd
unfolding mark_of marks
size_hl = refl

-- No more lengths than blocks.
pub length_count_le : (t : Bool) (n : ℕ) → length_count t n ≤ n
length_count_le true n = omega arith
length_count_le false n = omega arith

-- ---- the places of a sheet at a place

pub nows_at_lem : (at : ℕ) → nows_at at ≡ at + 6
unfolding mark_of marks
nows_at_lem at = refl

pub goals_at_lem : (at n : ℕ) → goals_at at n ≡ at + 6 + 4 * n
unfolding mark_of marks
goals_at_lem at n = omega arith

pub lengths_at_lem : (at n : ℕ) → lengths_at at n ≡ at + 6 + 8 * n
unfolding mark_of marks
lengths_at_lem at n = omega arith

pub end_at_lem : (at n k : ℕ) → end_at at n k ≡ at + 6 + 8 * n + 4 * k
unfolding mark_of marks
end_at_lem at n k = omega arith
