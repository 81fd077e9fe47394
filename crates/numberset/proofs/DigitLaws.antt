-- Laws of a number's binary digits: those of the bitwise operations and of a power of two, a word with one bit put in or taken out, and the lowest bit
-- that is set. Assumes nothing.
use mathlib.Core.Path.{◌≡◌, refl, sym, ap, ◌∙◌}
use mathlib.Core.Logic.{◌⊎◌, inl, inr}
use mathlib.Core.Bool.{Bool, true, false, cond}
use Prim.Native.Nat.{ℕ, zero, suc, ◌+◌, ◌*◌, ◌/◌, ◌%◌, ◌^◌, ◌<◌, min, max}
use native.Mathlib.Nat.{div-eq_of_lt, zero-div, one-mul, pow-suc}
use native.Mathlib.Numerals.{one-add}
use native.Mathlib.Omega.{arith}
use borrow.Author.Tests.{eq-eqb, ne_eqb}
use lib.Dec.{eqb, lit<}
use lib.Pow.{pow-lt, shl_exact, shr-shr, shl-shr}
use lib.Bits.{bit_and, bit_or, bit_xor, differ, and_step, or_step, xor_step, and_shr, or_shr, xor_shr}
use lib.Count.{under, count_trailing_zeros}
use Rattle.lists.proofs.ReflectLaws.{same?}
use Rattle.numberset.specs.Members.{bit}

abbrev digit : ℕ → ℕ → ℕ
digit n i = n / 2 ^ i % 2

-- the digits from the second on are those of the half
digit_suc : (n i : ℕ) → digit n (suc i) ≡ digit (n / 2) i
digit_suc n i = ap (λ x. x % 2) (ap (λ x. n / 2 ^ x) (sym (one-add i)) ∙ sym (shr-shr n 1 i))

-- ---- the digits of the operations

digit_or : (a b i : ℕ) → digit (bit_or a b) i ≡ max (digit a i) (digit b i)
digit_or a b i = ap (λ x. x % 2) (or_shr a b i ∙ or_step (a / 2 ^ i) (b / 2 ^ i)) ∙ omega arith

digit_and : (a b i : ℕ) → digit (bit_and a b) i ≡ min (digit a i) (digit b i)
digit_and a b i = ap (λ x. x % 2) (and_shr a b i ∙ and_step (a / 2 ^ i) (b / 2 ^ i)) ∙ omega arith

digit_xor : (a b i : ℕ) → digit (bit_xor a b) i ≡ differ (digit a i) (digit b i)
digit_xor a b i =
    ap (λ x. x % 2) (xor_shr a b i ∙ xor_step (a / 2 ^ i) (b / 2 ^ i))
    ∙ odd (bit_xor (a / 2 ^ i / 2) (b / 2 ^ i / 2)) (digit a i) (digit b i) (omega arith) (omega arith)
  where
    odd : (q x y : ℕ) → x < 2 → y < 2 → (q * 2 + differ x y) % 2 ≡ differ x y
    odd q zero y h l = omega arith
    odd q (suc x) zero h l = omega arith
    odd q (suc zero) (suc zero) h l = omega arith
    odd q (suc zero) (suc (suc y)) h l = absurd (omega arith)
    odd q (suc (suc x)) (suc y) h l = absurd (omega arith)

-- ---- the digits of a power of two

digit_pow_same : (i : ℕ) → digit (2 ^ i) i ≡ 1
digit_pow_same i = ap (λ x. x % 2) (ap (λ x. x / 2 ^ i) (sym (one-mul (2 ^ i))) ∙ shl-shr 1 i)

digit_pow_other : (i j : ℕ) → ¬ (j ≡ i) → digit (2 ^ i) j ≡ 0
digit_pow_other zero zero h = absurd (h refl)
digit_pow_other zero (suc j) h = ap (λ x. x % 2) (div-eq_of_lt (pow-lt {i = 0} {j = suc j} (omega arith)))
digit_pow_other (suc i) zero h = rw (pow-suc 2 i) (omega arith)
digit_pow_other (suc i) (suc j) h = digit_suc (2 ^ suc i) j ∙ ap (λ x. digit x j) (rw (pow-suc 2 i) (omega arith)) ∙ digit_pow_other i j (λ e. h (ap suc e))

-- ---- a word with one bit put in or taken out

-- a less the digits of b: a digit that b has clear is kept, and one that b has set is cleared
module _ (a b i : ℕ) where
  less_kept : digit b i ≡ 0 → digit (bit_xor a (bit_and a b)) i ≡ digit a i
  less_kept e = digit_xor a (bit_and a b) i ∙ ap (differ (digit a i)) (digit_and a b i ∙ omega arith) ∙ differ_zero (digit a i)
    where
      differ_zero : (x : ℕ) → differ x 0 ≡ x
      differ_zero zero = refl
      differ_zero (suc x) = refl

  less_cleared : digit b i ≡ 1 → digit (bit_xor a (bit_and a b)) i ≡ 0
  less_cleared e = digit_xor a (bit_and a b) i ∙ ap (differ (digit a i)) (digit_and a b i ∙ omega arith) ∙ differ_self (digit a i)
    where
      differ_self : (x : ℕ) → differ x x ≡ 0
      differ_self zero = refl
      differ_self (suc x) = differ_self x

module _ (w i j : ℕ) where
  bit_put : bit (bit_or w (2 ^ i)) j ≡ cond (eqb j i) true (bit w j)
  bit_put = go (same? j i)
    where
      go : (j ≡ i) ⊎ (¬ (j ≡ i)) → bit (bit_or w (2 ^ i)) j ≡ cond (eqb j i) true (bit w j)
      go (inl e) =
          rw (eq-eqb j i e) (eq-eqb (digit (bit_or w (2 ^ i)) j) 1 (digit_or w (2 ^ i) j ∙ omega (arith, ap (digit (2 ^ i)) e ∙ digit_pow_same i)))
      go (inr n) =
          let kept : digit (bit_or w (2 ^ i)) j ≡ digit w j = digit_or w (2 ^ i) j ∙ omega (arith, digit_pow_other i j n) in
          rw (ne_eqb j i n) (ap (λ x. eqb x 1) kept)

  bit_take : bit (bit_xor w (bit_and w (2 ^ i))) j ≡ cond (eqb j i) false (bit w j)
  bit_take = go (same? j i)
    where
      go : (j ≡ i) ⊎ (¬ (j ≡ i)) → bit (bit_xor w (bit_and w (2 ^ i))) j ≡ cond (eqb j i) false (bit w j)
      go (inl e) = rw (eq-eqb j i e) (ap (λ x. eqb x 1) (less_cleared w (2 ^ i) j (ap (digit (2 ^ i)) e ∙ digit_pow_same i)))
      go (inr n) = rw (ne_eqb j i n) (ap (λ x. eqb x 1) (less_kept w (2 ^ i) j (digit_pow_other i j n)))

-- the same of a word of 64 bits, where the power is 1 shifted
one_shifted : (i : ℕ) → i < 64 → (1 * 2 ^ i) % 2 ^ 64 ≡ 2 ^ i
one_shifted i h = shl_exact {a = 1} 1 i 64 (lit< tt) (omega arith) ∙ one-mul (2 ^ i)

module _ (w i : ℕ) (on : Bool) (h : i < 64) where
  pub word_put : on ≡ true → (j : ℕ) → bit (bit_or w ((1 * 2 ^ i) % 2 ^ 64)) j ≡ cond (eqb j i) on (bit w j)
  word_put e j = rw (one_shifted i h, e) (bit_put w i j)

  pub word_take : on ≡ false → (j : ℕ) → bit (bit_xor w (bit_and w ((1 * 2 ^ i) % 2 ^ 64))) j ≡ cond (eqb j i) on (bit w j)
  word_take e j = rw (one_shifted i h, e) (bit_take w i j)

-- ---- the lowest bit that is set

pub bit_zero : (i : ℕ) → bit 0 i ≡ false
bit_zero i = ap (λ x. eqb (x % 2) 1) (zero-div (2 ^ i))

-- bit t is the lowest of n's k bits that is set
pub record Low (k n t : ℕ) : Type 0 where
  pub inside : t < k
  pub here : bit n t ≡ true
  pub below : (j : ℕ) → j < t → bit n j ≡ false

low_suc : (k n t : ℕ) → n % 2 ≡ 0 → Low k (n / 2) t → Low (suc k) n (suc t)
low_suc k n t e r = record {
  inside = omega arith;
  here = ap (λ x. eqb x 1) (digit_suc n t) ∙ r.here;
  below = below;
}
  where
    below : (j : ℕ) → j < suc t → bit n j ≡ false
    below zero l = ne_eqb (digit n 0) 1 (omega arith)
    below (suc j) l = ap (λ x. eqb x 1) (digit_suc n j) ∙ r.below j (omega arith)

-- the count of the zeros below gives it
pub trailing_low : (k n : ℕ) → 0 < n → n < 2 ^ k → Low k n (count_trailing_zeros k n)
unfolding count_trailing_zeros
trailing_low zero n p h = absurd (omega arith)
trailing_low (suc k) n p h = go (n % 2) refl (λ q. trailing_low k (n / 2) q half)
  where
    half : n / 2 < 2 ^ k
    half = let twice : n < 2 ^ k * 2 = rw (pow-suc 2 k) at h in omega arith

    go : (d : ℕ) → n % 2 ≡ d → (0 < n / 2 → Low k (n / 2) (count_trailing_zeros k (n / 2))) → Low (suc k) n (under d (count_trailing_zeros k (n / 2)))
    go zero e rest = low_suc k n (count_trailing_zeros k (n / 2)) e (rest (omega arith))
    go (suc d) e rest = record { inside = omega arith; here = eq-eqb (digit n 0) 1 (omega arith); below = λ j l. absurd (omega arith) }
