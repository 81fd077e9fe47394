-- Laws of `lowest` and `count`: what callers know of searching and counting over 1 to n. Assumes nothing.
use mathlib.Core.Path.{◌≡◌, refl, sym, ap, ◌∙◌, subst}
use mathlib.Core.Logic.{◌⊎◌, inl, inr, ◌≢◌, ◌↔◌}
use mathlib.Core.Bool.{Bool, true, false, true≢false, false≢true}
use Prim.Native.Nat.{ℕ, zero, suc, ◌+◌, ◌≤◌, ◌<◌}
use native.Mathlib.Omega.{arith}
use native.Mathlib.Numerals.{one-add}
use native.Mathlib.Nat.{zero-add}
use Rattle.lists.specs.Search.{pick, or_else, lowest, count, Counts, start, counted, passed, Lowest}
use Rattle.lists.proofs.ReflectLaws.{Reflects, holds, fails, from_true, from_false, to_true, to_false, decided, leb_reflects, same?}

-- what holds from 1 to n and of n + 1 holds from 1 to n + 1
upto : (Q : ℕ → Type 0) (n : ℕ) → ((c : ℕ) → 1 ≤ c → c ≤ n → Q c) → Q (suc n) → (c : ℕ) → 1 ≤ c → c ≤ suc n → Q c
upto Q n below here c h l = go (same? c (suc n))
  where
    go : (c ≡ suc n) ⊎ (¬ (c ≡ suc n)) → Q c
    go (inl e) = subst Q (sym e) here
    go (inr m) = below c h (omega (arith, m))

-- ---- lowest

-- what a search comes to: nothing passes, or r is the first that does
data Sought (P : ℕ → Bool) (n r : ℕ) : Type 0 where
  none : r ≡ 0 → ((c : ℕ) → 1 ≤ c → c ≤ n → P c ≡ false) → Sought P n r
  one : 1 ≤ r → r ≤ n → P r ≡ true → ((c : ℕ) → 1 ≤ c → c < r → P c ≡ false) → Sought P n r

sought : (P : ℕ → Bool) (n : ℕ) → Sought P n (lowest P n)
unfolding lowest
sought P zero = none refl (λ c h l. absurd (omega arith))
sought P (suc n) = go (lowest P n) (sought P n) (P (suc n)) refl
  where
    go : (r : ℕ) → Sought P n r → (t : Bool) → P (suc n) ≡ t → Sought P (suc n) (or_else r (pick t (suc n)))
    go zero (none e h) true p = one (omega arith) (omega arith) p (λ c a b. h c a (omega arith))
    go zero (none e h) false p = none refl (upto (λ c. P c ≡ false) n h p)
    go zero (one low high q first) t p = absurd (omega arith)
    go (suc r) (none e h) t p = absurd (omega arith)
    go (suc r) (one low high q first) t p = one low (omega arith) q first

pub lowest_le : (P : ℕ → Bool) (n : ℕ) → lowest P n ≤ n
lowest_le P n = go (sought P n)
  where
    go : Sought P n (lowest P n) → lowest P n ≤ n
    go (none e h) = omega arith
    go (one low high q first) = high

pub lowest_passes : (P : ℕ → Bool) (n : ℕ) → lowest P n ≢ 0 → P (lowest P n) ≡ true
lowest_passes P n h = go (sought P n)
  where
    go : Sought P n (lowest P n) → P (lowest P n) ≡ true
    go (none e f) = absurd (h e)
    go (one low high q first) = q

pub lowest_first : (P : ℕ → Bool) (n c : ℕ) → 1 ≤ c → c < lowest P n → P c ≡ false
lowest_first P n c h l = go (sought P n)
  where
    go : Sought P n (lowest P n) → P c ≡ false
    go (none e f) = absurd (omega arith)
    go (one low high q first) = first c h l

pub lowest_none : (P : ℕ → Bool) (n : ℕ) → lowest P n ≡ 0 → (c : ℕ) → 1 ≤ c → c ≤ n → P c ≡ false
lowest_none P n e c h l = go (sought P n)
  where
    go : Sought P n (lowest P n) → P c ≡ false
    go (none e' f) = f c h l
    go (one low high q first) = absurd (omega arith)

-- nothing passes, so 0
pub lowest_zero : (P : ℕ → Bool) (n : ℕ) → ((c : ℕ) → 1 ≤ c → c ≤ n → P c ≡ false) → lowest P n ≡ 0
lowest_zero P n h = go (sought P n)
  where
    go : Sought P n (lowest P n) → lowest P n ≡ 0
    go (none e f) = e
    go (one low high q first) = absurd (true≢false (sym q ∙ h (lowest P n) low high))

-- what passes first is the lowest
pub lowest_is : (P : ℕ → Bool) (n b : ℕ) → 1 ≤ b → b ≤ n → P b ≡ true → ((c : ℕ) → 1 ≤ c → c < b → P c ≡ false) → lowest P n ≡ b
lowest_is P n b h l p f = go (sought P n)
  where
    go : Sought P n (lowest P n) → lowest P n ≡ b
    go (none e g) = absurd (true≢false (sym p ∙ g b h l))
    go (one low high q first) =
        let above : ¬ (lowest P n < b) = λ m. true≢false (sym q ∙ f (lowest P n) low m) in
        let below : ¬ (b < lowest P n) = λ m. true≢false (sym p ∙ first b h m) in
        omega arith

pub lowest_ext : (P Q : ℕ → Bool) (n : ℕ) → ((c : ℕ) → 1 ≤ c → c ≤ n → P c ≡ Q c) → lowest P n ≡ lowest Q n
lowest_ext P Q n h = go (sought Q n)
  where
    go : Sought Q n (lowest Q n) → lowest P n ≡ lowest Q n
    go (none e f) = lowest_zero P n (λ c a b. h c a b ∙ f c a b) ∙ sym e
    go (one low high q first) =
        lowest_is P n (lowest Q n) low high (h (lowest Q n) low high ∙ q) (λ c a b. h c a (omega arith) ∙ first c a b)

-- the same said of properties: where the test reflects A, a number that is found is the lowest with A, and where none is found there is none
module _ (A : ℕ → Type 0) (P : ℕ → Bool) (n : ℕ) (same : (b : ℕ) → 1 ≤ b → b ≤ n → Reflects (A b) (P b)) where
  pub lowest_found : lowest P n ≢ 0 → Lowest A n (lowest P n)
  lowest_found h = go (sought P n)
    where
      go : Sought P n (lowest P n) → Lowest A n (lowest P n)
      go (none e f) = absurd (h e)
      go (one low high q first) = record {
        low = low;
        high = high;
        holds = from_true (same (lowest P n) low high) q;
        first = λ c a b. from_false (same c a (omega arith)) (first c a b);
      }

  pub lowest_absent : lowest P n ≡ 0 → (b : ℕ) → 1 ≤ b → b ≤ n → ¬ A b
  lowest_absent e b h l = from_false (same b h l) (lowest_none P n e b h l)

  pub lowest_unique : (b : ℕ) → Lowest A n b → lowest P n ≡ b
  lowest_unique b w =
      let high : b ≤ n = w.high in
      lowest_is P n b w.low high (to_true (same b w.low high) w.holds) (λ c a l. to_false (same c a (omega arith)) (w.first c a l))

-- there is one lowest
pub lowest_only : {A : ℕ → Type 0} {n a b : ℕ} → Lowest A n a → Lowest A n b → a ≡ b
lowest_only {A} {n} {a} {b} v w =
    let no_lower : ¬ (a < b) = λ h. w.first a v.low h v.holds in
    let no-higher : ¬ (b < a) = λ h. v.first b w.low h w.holds in
    omega (arith, no_lower, no-higher)

-- and it is the lowest of a kind by another name
pub lowest_alike : {A B : ℕ → Type 0} {n b : ℕ} → ((c : ℕ) → A c ↔ B c) → Lowest A n b → Lowest B n b
lowest_alike {A} {B} {n} {b} same w = record { low = w.low; high = w.high; holds = (same b).0 w.holds; first = λ c l h k. w.first c l h ((same c).1 k) }

-- ---- count

pick_le : (t u : Bool) → (t ≡ true → u ≡ true) → pick t 1 ≤ pick u 1
pick_le true true h = omega arith
pick_le true false h = absurd (false≢true (h refl))
pick_le false u h = omega arith

pub count_le : (P : ℕ → Bool) (n : ℕ) → count P n ≤ n
unfolding count
count_le P zero = omega arith
count_le P (suc n) = omega (arith, count_le P n, pick_le (P (suc n)) true (λ e. refl))

pub count_ext : (P Q : ℕ → Bool) (n : ℕ) → ((c : ℕ) → 1 ≤ c → c ≤ n → P c ≡ Q c) → count P n ≡ count Q n
unfolding count
count_ext P Q zero h = refl
count_ext P Q (suc n) h =
    let here : pick (P (suc n)) 1 ≡ pick (Q (suc n)) 1 = ap (λ t. pick t 1) (h (suc n) (omega arith) (omega arith)) in
    omega (arith, count_ext P Q n (λ c a b. h c a (omega arith)))

-- whatever passes P passes Q
pub count_mono : (P Q : ℕ → Bool) (n : ℕ) → ((c : ℕ) → 1 ≤ c → c ≤ n → P c ≡ true → Q c ≡ true) → count P n ≤ count Q n
unfolding count
count_mono P Q zero h = omega arith
count_mono P Q (suc n) h =
    let here : pick (P (suc n)) 1 ≤ pick (Q (suc n)) 1 = pick_le (P (suc n)) (Q (suc n)) (h (suc n) (omega arith) (omega arith)) in
    omega (arith, count_mono P Q n (λ c a b. h c a (omega arith)))

pub count_none : (P : ℕ → Bool) (n : ℕ) → ((c : ℕ) → 1 ≤ c → c ≤ n → P c ≡ false) → count P n ≡ 0
unfolding count
count_none P zero h = refl
count_none P (suc n) h =
    let here : pick (P (suc n)) 1 ≡ 0 = ap (λ t. pick t 1) (h (suc n) (omega arith) (omega arith)) in
    omega (arith, count_none P n (λ c a b. h c a (omega arith)))

pub count_all : (P : ℕ → Bool) (n : ℕ) → ((c : ℕ) → 1 ≤ c → c ≤ n → P c ≡ true) → count P n ≡ n
unfolding count
count_all P zero h = refl
count_all P (suc n) h =
    let here : pick (P (suc n)) 1 ≡ 1 = ap (λ t. pick t 1) (h (suc n) (omega arith) (omega arith)) in
    omega (arith, count_all P n (λ c a b. h c a (omega arith)))

pub count_zero : (P : ℕ → Bool) (n : ℕ) → count P n ≡ 0 → (c : ℕ) → 1 ≤ c → c ≤ n → P c ≡ false
unfolding count
count_zero P zero e = λ c h l. absurd (omega arith)
count_zero P (suc n) e = upto (λ c. P c ≡ false) n (count_zero P n (omega arith)) (unpicked (P (suc n)) (omega arith))
  where
    unpicked : (t : Bool) → pick t 1 ≡ 0 → t ≡ false
    unpicked true z = absurd (omega arith)
    unpicked false z = refl

-- P and Q differ at a alone, which passes P: one more
pub count_one_more : (P Q : ℕ → Bool) (n a : ℕ) → 1 ≤ a → a ≤ n → P a ≡ true → Q a ≡ false → ((c : ℕ) → 1 ≤ c → c ≤ n → c ≢ a → P c ≡ Q c) → count P n ≡ suc (count Q n)
unfolding count
count_one_more P Q zero a h l p q same = absurd (omega arith)
count_one_more P Q (suc n) a h l p q same = go (same? a (suc n)) (λ b. count_one_more P Q n a h b p q (λ c d e. same c d (omega arith)))
  where
    go : (a ≡ suc n) ⊎ (¬ (a ≡ suc n)) → (a ≤ n → count P n ≡ suc (count Q n)) → count P (suc n) ≡ suc (count Q (suc n))
    go (inl e) rest =
        let passes : pick (P (suc n)) 1 ≡ 1 = ap (λ t. pick t 1) (subst (λ x. P x ≡ true) e p) in
        let fails : pick (Q (suc n)) 1 ≡ 0 = ap (λ t. pick t 1) (subst (λ x. Q x ≡ false) e q) in
        omega (arith, count_ext P Q n (λ c d f. same c d (omega arith) (omega arith)))
    go (inr m) rest =
        let here : pick (P (suc n)) 1 ≡ pick (Q (suc n)) 1 = ap (λ t. pick t 1) (same (suc n) (omega arith) (omega arith) (λ e. m (sym e))) in
        omega (arith, rest (omega (arith, m)))

-- the count of a test is the count of what it reflects
pub count_counts : (P : ℕ → Type 0) (t : ℕ → Bool) → ((b : ℕ) → Reflects (P b) (t b)) → (n : ℕ) → Counts P n (count t n)
unfolding count
count_counts P t same zero = start
count_counts P t same (suc n) = by (same (suc n)) (count_counts P t same n)
  where
    by : {v : Bool} → Reflects (P (suc n)) v → Counts P n (count t n) → Counts P (suc n) (pick v 1 + count t n)
    by (holds p) r = subst (Counts P (suc n)) (sym (one-add (count t n))) (counted r p)
    by (fails m) r = subst (Counts P (suc n)) (sym (zero-add (count t n))) (passed r m)

-- where nothing beyond n passes, a search that goes further finds the same
pub lowest_beyond : (P : ℕ → Bool) (n m : ℕ) → n ≤ m → ((c : ℕ) → n < c → P c ≡ false) → lowest P m ≡ lowest P n
lowest_beyond P n m h beyond = by (same? (lowest P n) 0)
  where
    by : (lowest P n ≡ 0) ⊎ (¬ (lowest P n ≡ 0)) → lowest P m ≡ lowest P n
    by (inl e) = lowest_zero P m (λ c l k. at c l (decided (leb_reflects c n))) ∙ sym e
      where
        at : (c : ℕ) → 1 ≤ c → (c ≤ n) ⊎ (¬ (c ≤ n)) → P c ≡ false
        at c l (inl k) = lowest_none P n e c l k
        at c l (inr k) = beyond c (omega (arith, k))
    by (inr f) = lowest_is P m (lowest P n) (omega (arith, f)) (omega (arith, lowest_le P n)) (lowest_passes P n f) (λ c l k. lowest_first P n c l k)
