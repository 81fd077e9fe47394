-- Laws of `nth`: the passing numbers from 1 to n are numbered from 0, in ascending order and without a gap. Assumes nothing.
use mathlib.Core.Path.{◌≡◌, refl, sym, ap, subst}
use mathlib.Core.Logic.{◌⊎◌, inl, inr}
use mathlib.Core.Bool.{Bool, true, false, ◌&&◌}
use Prim.Native.Nat.{ℕ, zero, suc, pred, ◌+◌, ◌≤◌, ◌<◌}
use native.Mathlib.Omega.{arith}
use lib.Dec.{eqb}
use Rattle.lists.specs.Search.{pick, count}
use Rattle.lists.proofs.ReflectLaws.{to_true, to_false, decided, eqb_reflects, ltb_reflects, same?}
use Rattle.lists.proofs.SearchLaws.{lowest_is}
use Rattle.training.specs.Arrangement.{nth}

-- t is number q of the passing numbers from 1 to n
pub record Ranked (P : ℕ → Bool) (n q t : ℕ) : Type 0 where
  pub low : 1 ≤ t
  pub high : t ≤ n
  pub passes : P t ≡ true
  pub rank : count P (pred t) ≡ q

module _ (P : ℕ → Bool) where
  count_further : (a b : ℕ) → a ≤ b → count P a ≤ count P b
  unfolding count
  count_further a zero h = let e : a ≡ 0 = omega arith in omega (arith, ap (count P) e)
  count_further a (suc b) h = by (same? a (suc b)) (λ k. count_further a b k)
    where
      by : (a ≡ suc b) ⊎ (¬ (a ≡ suc b)) → (a ≤ b → count P a ≤ count P b) → count P a ≤ count P (suc b)
      by (inl e) rest = omega (arith, ap (count P) e)
      by (inr n) rest = omega (arith, rest (omega (arith, n)))

  count_here : (t : ℕ) → 1 ≤ t → P t ≡ true → count P t ≡ suc (count P (pred t))
  unfolding count
  count_here zero h e = absurd (omega arith)
  count_here (suc t) h e = let one : pick (P (suc t)) 1 ≡ 1 = ap (λ u. pick u 1) e in omega arith

  -- a passing number has its rank, which is below the number of those that pass
  pub rank_below : (n t : ℕ) → 1 ≤ t → t ≤ n → P t ≡ true → count P (pred t) < count P n
  rank_below n t l h e = omega (arith, count_here t l e, count_further t n h)

  -- and it is the one of that rank
  pub nth_is : (n q t : ℕ) → Ranked P n q t → nth P n q ≡ t
  unfolding nth
  nth_is n q t w =
      lowest_is (λ c. P c && eqb (count P (pred c)) q) n t w.low w.high
      (rw w.passes (to_true (eqb_reflects (count P (pred t)) q) w.rank))
      (λ c l k. before c l k (P c) refl)
    where
      before : (c : ℕ) → 1 ≤ c → c < t → (u : Bool) → P c ≡ u → (u && eqb (count P (pred c)) q) ≡ false
      before c l k true e =
          to_false (eqb_reflects (count P (pred c)) q) (λ same. absurd (omega (arith, count_here c l e, count_further c (pred t) (omega arith), w.rank)))
      before c l k false e = refl

  -- every rank below their number is taken
  taken : (n q : ℕ) → q < count P n → (t : ℕ) × Ranked P n q t
  unfolding count
  taken zero q h = absurd (omega arith)
  taken (suc n) q h = by (decided (ltb_reflects q (count P n))) (λ k. taken n q k)
    where
      last : (u : Bool) → P (suc n) ≡ u → q < pick u 1 + count P n → ¬ (q < count P n) → (t : ℕ) × Ranked P (suc n) q t
      last true e l k = (suc n, record { low = omega arith; high = omega arith; passes = e; rank = omega arith })
      last false e l k = absurd (omega arith)

      by : (q < count P n) ⊎ (¬ (q < count P n)) → (q < count P n → (t : ℕ) × Ranked P n q t) → (t : ℕ) × Ranked P (suc n) q t
      by (inl k) rest =
          let r = rest k in
          let w = r.1 in
          (r.0, record { low = w.low; high = omega (arith, w.high); passes = w.passes; rank = w.rank })
      by (inr k) rest = last (P (suc n)) refl h k

  pub nth_ranked : (n q : ℕ) → q < count P n → Ranked P n q (nth P n q)
  nth_ranked n q h = let r = taken n q h in subst (Ranked P n q) (sym (nth_is n q r.0 r.1)) r.1

  -- a higher rank is a higher number
  pub rank_less : {n c d t u : ℕ} → Ranked P n c t → Ranked P n d u → c < d → t < u
  rank_less {n} {c} {d} {t} {u} w v h = by (decided (ltb_reflects t u))
    where
      by : (t < u) ⊎ (¬ (t < u)) → t < u
      by (inl l) = l
      by (inr l) = absurd (omega (arith, w.rank, v.rank, count_further (pred u) (pred t) (omega (arith, l))))
