-- A block that comes down to the table does so in at most as many steps as there are blocks, so the test `groundedᵇ` agrees with `Grounded`. Assumes nothing.
use mathlib.Core.Path.{◌≡◌, refl, sym, ap, ◌∙◌}
use mathlib.Core.Logic.{◌⊎◌, inl, inr, ◌≢◌}
use mathlib.Core.Bool.{Bool, true, false, not, ◌||◌, or-true, or-false}
use Prim.Native.Nat.{ℕ, zero, suc, ◌≤◌}
use native.Mathlib.Omega.{arith}
use lib.Dec.{eqb}
use lib.ListN.{length}
use Rattle.blocks.specs.State.{State, support, down, Grounded}
use Rattle.lists.specs.Search.{count}
use Rattle.blocks.specs.Tests.{groundedᵇ}
use Rattle.lists.proofs.ReflectLaws.{Reflects, to_true, to_false, reflects_iff, eqb_reflects, same?}
use Rattle.lists.proofs.SearchLaws.{count_all, count_one_more}
use Rattle.blocks.proofs.StateLaws.{down_table, down_suc}

-- a block does not come back to itself on its way to the table
pub acyclic : (s : State) (j k b : ℕ) → down s k b ≡ 0 → down s (suc j) b ≡ b → b ≡ 0
acyclic s j zero b e r = e
acyclic s j (suc k) b e r =
    let below : support s b ≡ 0 = acyclic s j k (support s b) e (down_suc s (suc j) b ∙ ap (support s) r) in
    sym r ∙ ap (down s j) below ∙ down_table s j

-- a test t, and the same test that passes x besides
also : (ℕ → Bool) → ℕ → ℕ → Bool
also t x y = t y || eqb y x

also_same : (t : ℕ → Bool) (x : ℕ) → also t x x ≡ true
unfolding also
also_same t x = ap (λ u. t x || u) (to_true (eqb_reflects x x) refl) ∙ or-true (t x)

also_other : (t : ℕ → Bool) (x y : ℕ) → y ≢ x → also t x y ≡ t y
unfolding also
also_other t x y h = ap (λ u. t y || u) (to_false (eqb_reflects y x) h) ∙ or-false (t y)

-- how many blocks have not been seen
abbrev unseen : State → (ℕ → Bool) → ℕ
unseen s seen = count (λ x. not (seen x)) (length s)

-- a block that comes down to the table, none of its trail seen before, does so within as many steps as there are blocks not seen
within : (s : State) → ((b : ℕ) → support s b ≤ length s) → (k b : ℕ) → b ≤ length s → down s k b ≡ 0 → (seen : ℕ → Bool)
    → ((j : ℕ) → down s j b ≢ 0 → seen (down s j b) ≡ false) → down s (unseen s seen) b ≡ 0
within s fits zero b h e seen new = ap (down s (unseen s seen)) e ∙ down_table s (unseen s seen)
within s fits (suc k) b h e seen new = go (same? b 0) (within s fits k (support s b) (fits b) e (also seen b))
  where
    Fresh : Type 0
    Fresh = (j : ℕ) → down s j (support s b) ≢ 0 → also seen b (down s j (support s b)) ≡ false

    fresh : b ≢ 0 → Fresh
    fresh m j d = also_other seen b (down s j (support s b)) (λ r. m (acyclic s j (suc k) b e r)) ∙ new (suc j) d

    more : b ≢ 0 → unseen s seen ≡ suc (unseen s (also seen b))
    more m = count_one_more (λ x. not (seen x)) (λ x. not (also seen b x)) (length s) b (omega (arith, m)) h
        (ap not (new 0 m)) (ap not (also_same seen b)) (λ c l l' d. ap not (sym (also_other seen b c d)))

    go : (b ≡ 0) ⊎ (¬ (b ≡ 0)) → (Fresh → down s (unseen s (also seen b)) (support s b) ≡ 0) → down s (unseen s seen) b ≡ 0
    go (inl z) rest = ap (down s (unseen s seen)) z ∙ down_table s (unseen s seen)
    go (inr m) rest = ap (λ i. down s i b) (more m) ∙ rest (fresh m)

-- n steps are enough
pub ground_bound : (s : State) → ((b : ℕ) → support s b ≤ length s) → (b : ℕ) → b ≤ length s → Grounded s b → down s (length s) b ≡ 0
ground_bound s fits b h w =
    ap (λ i. down s i b) (sym (count_all (λ x. true) (length s) (λ c l m. refl)))
    ∙ within s fits w.steps b h w.reaches (λ x. false) (λ j d. refl)

pub grounded_test : (s : State) → ((b : ℕ) → support s b ≤ length s) → (b : ℕ) → b ≤ length s → Reflects (Grounded s b) (groundedᵇ s b)
unfolding groundedᵇ
grounded_test s fits b h =
    reflects_iff (λ e. record { steps = length s; reaches = e }) (ground_bound s fits b h) (eqb_reflects (down s (length s) b) 0)
