-- Laws of the counts. Assumes nothing.
use mathlib.Core.Path.{◌≡◌, ap₂}
use Prim.Native.Nat.{ℕ, zero, suc, ◌+◌, ◌*◌, ◌^◌, ◌≤◌, ◌<◌}
use native.Mathlib.Omega.{arith}
use native.Mathlib.Nat.{mul-le-mul_left, mul-le-mul_right, pow-zero, pow-succ'}
use Rattle.counts.specs.Ways.{ways}

-- there is always a way
pub ways_some : (n k : ℕ) → 0 < ways n k
unfolding ways
ways_some zero k = omega arith
ways_some (suc n) k = omega (arith, ways_some n (k + 1))

-- one step of the rule
pub ways_step : (n k : ℕ) {x y : ℕ} → x ≡ ways n (k + 1) → y ≡ ways n k → x + (n + k) * y ≡ ways (suc n) k
unfolding ways
ways_step n k e f = ap₂ (λ x y. x + (n + k) * y) e f

-- where there are at most `most` towers each loose one has at most `most` places to go to: the table, or one of the others
pub ways_most : (n k : ℕ) {most : ℕ} → n + k ≤ most → ways n k ≤ most ^ n
unfolding ways
ways_most zero k {most} h = rw (pow-zero most) (omega arith)
ways_most (suc n) k {most} h =
    let grounded : ways n (k + 1) ≤ most ^ n = ways_most n (k + 1) (omega arith) in
    let stacked : (n + k) * ways n k ≤ (n + k) * most ^ n = mul-le-mul_left (n + k) (ways_most n k (omega arith)) in
    rw (pow-succ' most n) (omega (arith, grounded, stacked, mul-le-mul_right (most ^ n) h))
