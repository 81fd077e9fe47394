-- Laws of tests beside the properties that they decide. Assumes nothing.
pub use Rattle.lists.specs.Reflect.{Reflects, holds, fails}
use mathlib.Core.Path.{◌≡◌, refl, sym, subst}
use mathlib.Core.Logic.{◌⊎◌, inl, inr}
use mathlib.Core.Bool.{Bool, true, false, not, ◌&&◌, ◌||◌, true≢false, false≢true}
use Prim.Native.Nat.{ℕ, suc, ◌≤◌, ◌<◌}
use lib.Dec.{T, eqb, leb, ltb, eqb→eq, eqb_refl, leb→le, le→leb}

module _ {P : Type 0} where
  pub from_true : {t : Bool} → Reflects P t → t ≡ true → P
  from_true (holds p) e = p
  from_true (fails n) e = absurd (false≢true e)

  pub from_false : {t : Bool} → Reflects P t → t ≡ false → ¬ P
  from_false (holds p) e = absurd (true≢false e)
  from_false (fails n) e = n

  pub to_true : {t : Bool} → Reflects P t → P → t ≡ true
  to_true (holds p) q = refl
  to_true (fails n) q = absurd (n q)

  pub to_false : {t : Bool} → Reflects P t → ¬ P → t ≡ false
  to_false (holds p) n = absurd (n p)
  to_false (fails n) m = refl

  -- the property is decided
  pub decided : {t : Bool} → Reflects P t → P ⊎ (¬ P)
  decided (holds p) = inl p
  decided (fails n) = inr n

  pub not-not : {t : Bool} → Reflects P t → ¬ ¬ P → P
  not-not (holds p) n = p
  not-not (fails m) n = absurd (n m)

  pub reflects_not : {t : Bool} → Reflects P t → Reflects (¬ P) (not t)
  reflects_not (holds p) = fails (λ n. n p)
  reflects_not (fails n) = holds n

  pub reflects_and : {Q : Type 0} {t u : Bool} → Reflects P t → Reflects Q u → Reflects (P × Q) (t && u)
  reflects_and (holds p) (holds q) = holds (p, q)
  reflects_and (holds p) (fails n) = fails (λ r. n r.1)
  reflects_and (fails n) (holds q) = fails (λ r. n r.0)
  reflects_and (fails n) (fails m) = fails (λ r. n r.0)

  pub reflects_or : {Q : Type 0} {t u : Bool} → Reflects P t → Reflects Q u → Reflects (P ⊎ Q) (t || u)
  reflects_or (holds p) (holds q) = holds (inl p)
  reflects_or (holds p) (fails n) = holds (inl p)
  reflects_or (fails n) (holds q) = holds (inr q)
  reflects_or {Q} (fails n) (fails m) = fails neither
    where
      neither : P ⊎ Q → ⊥
      neither (inl p) = n p
      neither (inr q) = m q

  -- an equivalent property
  pub reflects_iff : {Q : Type 0} {t : Bool} → (P → Q) → (Q → P) → Reflects P t → Reflects Q t
  reflects_iff f g (holds p) = holds (f p)
  reflects_iff f g (fails n) = fails (λ q. n (g q))

-- tests of equivalent properties agree
pub reflects_same : {P Q : Type 0} {t u : Bool} → (P → Q) → (Q → P) → Reflects P t → Reflects Q u → t ≡ u
reflects_same f g (holds p) r = sym (to_true r (f p))
reflects_same f g (fails n) r = sym (to_false r (λ q. n (g q)))

-- the kit's tests on numbers
of_T : {P : Type 0} (t : Bool) → (T t → P) → (P → T t) → Reflects P t
of_T true f g = holds (f tt)
of_T false f g = fails (λ p. g p)

pub eqb_reflects : (m n : ℕ) → Reflects (m ≡ n) (eqb m n)
eqb_reflects m n = of_T (eqb m n) (eqb→eq m n) (λ e. subst (λ x. T (eqb m x)) e (eqb_refl m))

pub leb_reflects : (m n : ℕ) → Reflects (m ≤ n) (leb m n)
leb_reflects m n = of_T (leb m n) (leb→le m n) (le→leb m n)

pub ltb_reflects : (m n : ℕ) → Reflects (m < n) (ltb m n)
ltb_reflects m n = leb_reflects (suc m) n

-- equality of numbers is decided
pub same? : (m n : ℕ) → (m ≡ n) ⊎ (¬ (m ≡ n))
same? m n = decided (eqb_reflects m n)
