-- The next seed has 64 bits. Assumes nothing.
use Prim.Native.Nat.{ℕ, ◌*◌, ◌/◌, ◌%◌, ◌^◌, ◌<◌}
use native.Mathlib.Omega.{arith}
use native.Mathlib.Nat.{mod-lt}
use lib.Bits.{xor_lt}
use Rattle.generator.specs.Shifts.{xor_left, xor_right, next_seed}

left_fits : (k x : ℕ) → x < 2 ^ 64 → xor_left k x < 2 ^ 64
unfolding xor_left
left_fits k x h = xor_lt 64 x (x * 2 ^ k % 2 ^ 64) h (mod-lt (x * 2 ^ k) (omega arith))

right_fits : (x : ℕ) → x < 2 ^ 64 → xor_right 7 x < 2 ^ 64
unfolding xor_right
right_fits x h = xor_lt 64 x (x / 2 ^ 7) h (omega arith)

pub next_fits : (x : ℕ) → x < 2 ^ 64 → next_seed x < 2 ^ 64
unfolding next_seed
next_fits x h = left_fits 17 (xor_right 7 (xor_left 13 x)) (right_fits (xor_left 13 x) (left_fits 13 x h))
