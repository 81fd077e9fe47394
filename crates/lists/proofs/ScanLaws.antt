-- Loops over the numbers from 1 to n: the scan for the lowest that passes a test, the sweep that says whether one does, and the count of those
-- that pass. Assumes nothing.
use Prim.Native.Nat.{ℕ, zero, suc, ◌+◌, ◌^◌, ◌≤◌, ◌<◌}
use mathlib.Core.Path.{◌≡◌, refl, sym, ap, ◌∙◌}
use mathlib.Core.Bool.{Bool, true, false, not, ◌||◌, false≢true}
use native.Mathlib.Omega.{arith}
use native.Mathlib.Numerals.{add-one}
use borrow.Author.Count.{below_none, below_more}
use borrow.Author.Tests.{ne_eqb}
use lib.Dec.{eqb}
use mir.Syntax.{w64}
use mir.Val.{bool_byte, Fits}
use Rattle.lists.specs.Search.{pick, or_else, lowest, count}
use Rattle.lists.proofs.ReflectLaws.{Reflects, holds, fails, eqb_reflects}
use Rattle.lists.proofs.SearchLaws.{lowest_is, lowest_zero}

-- ---- scans: none of the numbers from 1 to i passes the test

abbrev pub Passed : (ℕ → Bool) → ℕ → Type 0
Passed P i = (k : ℕ) → k < i → P (suc k) ≡ false

pub record Scanned (P : ℕ → Bool) (n i : ℕ) : Type 0 where
  pub within : i ≤ n
  pub passed : Passed P i

pub scan_begin : (P : ℕ → Bool) (n : ℕ) → Scanned P n 0
scan_begin P n = record { within = omega arith; passed = below_none (λ k. P (suc k) ≡ false) }

module _ {P : ℕ → Bool} {n i : ℕ} (w : Scanned P n i) where
  pub scan_next : i < n → P (suc i) ≡ false → Scanned P n (i + 1)
  scan_next h e = record { within = omega arith; passed = below_more (λ k. P (suc k) ≡ false) i w.passed e }

  -- the next one passes: it is the lowest
  pub scan_found : i < n → P (suc i) ≡ true → i + 1 ≡ lowest P n
  scan_found l e = add-one i ∙ sym (lowest_is P n (suc i) (omega arith) l e (λ c low k. at c low k))
    where
      at : (c : ℕ) → 1 ≤ c → c < suc i → P c ≡ false
      at zero low k = absurd (omega arith)
      at (suc c) low k = w.passed c (omega arith)

  -- all are passed: there is none
  pub scan_none : n ≤ i → 0 ≡ lowest P n
  scan_none l = sym (lowest_zero P n at)
    where
      at : (c : ℕ) → 1 ≤ c → c ≤ n → P c ≡ false
      at zero low k = absurd (omega arith)
      at (suc c) low k = w.passed c (omega arith)

-- ---- sweeps: whether one of the numbers from 1 to i passes the test, in a loop without an exit

pub record Swept (P : ℕ → Bool) (n : ℕ) (any : Bool) (i : ℕ) : Type 0 where
  pub within : i ≤ n
  pub is : any ≡ not (eqb (lowest P i) 0)

pub sweep_begin : (P : ℕ → Bool) {n : ℕ} → Swept P n false 0
unfolding lowest
sweep_begin P = record { within = omega arith; is = refl }

-- one number more is asked
sweep_more : (P : ℕ → Bool) (i : ℕ) → not (eqb (lowest P (suc i)) 0) ≡ not (eqb (lowest P i) 0) || P (suc i)
unfolding lowest
sweep_more P i = by (lowest P i) (P (suc i))
  where
    above : (b : ℕ) → not (eqb (suc b) 0) ≡ true
    above b = ap not (ne_eqb (suc b) 0 (λ e. absurd (omega arith)))

    by : (r : ℕ) (t : Bool) → not (eqb (or_else r (pick t (suc i))) 0) ≡ not (eqb r 0) || t
    by zero true = above i
    by zero false = refl
    by (suc r) t = above r ∙ sym (ap (λ u. u || t) (above r))

module _ {P : ℕ → Bool} {n i : ℕ} {any : Bool} (w : Swept P n any i) where
  pub sweep_next : (t : Bool) → i < n → t ≡ P (suc i) → Swept P n (any || t) (i + 1)
  sweep_next t h e = record { within = omega arith; is = rw (add-one i, w.is, e, sweep_more P i) }

  pub sweep_end : n ≤ i → any ≡ not (eqb (lowest P n) 0)
  sweep_end h = let e : i ≡ n = omega arith in w.is ∙ ap (λ k. not (eqb (lowest P k) 0)) e

-- none passes: what would be found is 0
pub sweep_none : {any : Bool} {b : ℕ} → any ≡ not (eqb b 0) → not any ≡ true → 0 ≡ b
sweep_none {any} {b} e h = by (eqb_reflects b 0) e
  where
    by : {t : Bool} → Reflects (b ≡ 0) t → any ≡ not t → 0 ≡ b
    by (holds p) f = sym p
    by (fails m) f = absurd (false≢true (sym (ap not f) ∙ h))

-- ---- counts: c of the numbers from 1 to i pass the test

-- one number more is counted
count_next : (P : ℕ → Bool) (i : ℕ) → count P (i + 1) ≡ pick (P (suc i)) 1 + count P i
unfolding count
count_next P i = rw (add-one i)

pub record Counted (P : ℕ → Bool) (n c i : ℕ) : Type 0 where
  pub within : i ≤ n
  pub few : c ≤ i
  pub is : c ≡ count P i

pub counted_begin : (P : ℕ → Bool) {n : ℕ} → Counted P n 0 0
unfolding count
counted_begin P = record { within = omega arith; few = omega arith; is = refl }

-- a test as a number: at most 1, and what the count adds for it
byte_le : (t : Bool) → bool_byte t ≤ 1
byte_le true = omega arith
byte_le false = omega arith

byte_pick : (t : Bool) → bool_byte t ≡ pick t 1
byte_pick true = refl
byte_pick false = refl

module _ {P : ℕ → Bool} {n c i : ℕ} where
  pub counted_next : (t : Bool) → Counted P n c i → i < n → t ≡ P (suc i) → Counted P n (c + bool_byte t) (i + 1)
  counted_next t w h e = record { within = omega arith; few = omega (arith, byte_le t); is = sum }
    where
      sum : c + bool_byte t ≡ count P (i + 1)
      sum = omega (arith, w.is, byte_pick t, ap (λ u. pick u 1) e, count_next P i)

  pub counted_fits : (t : Bool) → Counted P n c i → i < n → n < 2 ^ 64 → Fits w64 (c + bool_byte t)
  counted_fits t w h l = record { fits = omega (arith, byte_le t) }

  pub counted_end : Counted P n c i → n ≤ i → c ≡ count P n
  counted_end w h = let e : i ≡ n = omega arith in w.is ∙ ap (count P) e
