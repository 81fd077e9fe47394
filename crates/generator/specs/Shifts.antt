-- The generator of training numbers (document 02, Job 1): "each draw shifts left 13, right 7, left 17, each time combined by exclusive or
-- with the value before that shift, keeping 64 bits". `bit_xor` is the kit's exclusive or of binary digits. Assumes nothing.
use Rattle.std.specs.Prelude.{ℕ, zero, suc, ◌*◌, ◌/◌, ◌%◌, ◌^◌}
use Rattle.std.specs.Int.Bits.{bit_xor}

-- A shift left, "keeping 64 bits", combined with the value before it.
unfoldable pub xor_left : ℕ → ℕ → ℕ
xor_left k x = bit_xor x (x * 2 ^ k % 2 ^ 64)

-- A shift right, combined with the value before it.
unfoldable pub xor_right : ℕ → ℕ → ℕ
xor_right k x = bit_xor x (x / 2 ^ k)

-- One draw: "that is the next seed".
unfoldable pub next_seed : ℕ → ℕ
next_seed x = xor_left 17 (xor_right 7 (xor_left 13 x))

-- The seed after k draws.
unfoldable pub seed_after : ℕ → ℕ → ℕ
seed_after zero x = x
seed_after (suc k) x = next_seed (seed_after k x)
