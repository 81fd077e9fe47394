-- The next seed is zero where the seed is zero alone.
-- Idea: exclusive or takes a number away by itself alone, and a number that equals its own shift is shifted out. Assumes nothing.
use mathlib.Core.Path.{◌≡◌, refl, sym, ap, ◌∙◌}
use mathlib.Core.Logic.{◌≢◌}
use Prim.Native.Nat.{ℕ, ◌+◌, ◌*◌, ◌/◌, ◌%◌, ◌^◌}
use native.Mathlib.Omega.{arith}
use native.Mathlib.Nat.{add-mul, mul_assoc, mul_right_comm, div-add-mod', mul-add-mod_self_right, mul-mod_left}
use lib.Bits.{bit_xor, xor_add_and, and_le_l, and_le_r}
use Rattle.generator.specs.Shifts.{xor_left, xor_right, next_seed}

xor_same : (a b : ℕ) → bit_xor a b ≡ 0 → a ≡ b
xor_same a b e = omega (arith, xor_add_and a b, and_le_l a b, and_le_r a b)

-- a number that equals its own shift equals its shift by twice as much
doubled : (x m : ℕ) → x ≡ x * m % 2 ^ 64 → x ≡ x * (m * m) % 2 ^ 64
doubled x m e = e ∙ sym (mul-add-mod_self_right (q * m) (2 ^ 64) (x * m)) ∙ ap (λ y. y % 2 ^ 64) (sym squared)
  where
    q : ℕ
    q = x * m / 2 ^ 64

    over : x * m ≡ q * 2 ^ 64 + x
    over = sym (div-add-mod' (x * m) (2 ^ 64)) ∙ ap (λ y. q * 2 ^ 64 + y) (sym e)

    squared : x * (m * m) ≡ q * m * 2 ^ 64 + x * m
    squared = sym (mul_assoc x m m) ∙ ap (λ y. y * m) over ∙ add-mul (q * 2 ^ 64) x m ∙ ap (λ y. y + x * m) (mul_right_comm q (2 ^ 64) m)

-- three times over a shift by 8 bits or more has left 64 bits behind
abbrev square : ℕ → ℕ
square m = m * m

left_zero : (k c x : ℕ) → square (square (square (2 ^ k))) ≡ c * 2 ^ 64 → xor_left k x ≡ 0 → x ≡ 0
unfolding xor_left
left_zero k c x far e =
    doubled x (square (square (2 ^ k))) (doubled x (square (2 ^ k)) (doubled x (2 ^ k) (xor_same x (x * 2 ^ k % 2 ^ 64) e)))
    ∙ ap (λ m. x * m % 2 ^ 64) far
    ∙ ap (λ y. y % 2 ^ 64) (sym (mul_assoc x c (2 ^ 64)))
    ∙ mul-mod_left (x * c) (2 ^ 64)

right_zero : (x : ℕ) → xor_right 7 x ≡ 0 → x ≡ 0
unfolding xor_right
right_zero x e = omega (arith, xor_same x (x / 2 ^ 7) e)

pub next_some : (x : ℕ) → x ≢ 0 → next_seed x ≢ 0
unfolding next_seed
next_some x n e = n (left_zero 13 (2 ^ 40) x refl (right_zero (xor_left 13 x) (left_zero 17 (2 ^ 72) (xor_right 7 (xor_left 13 x)) refl e)))
