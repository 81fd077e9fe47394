-- Towers are chains: of two blocks at or above one block, one is at or above the other. Assumes nothing.
use mathlib.Core.Path.{◌≡◌, refl, sym, ap, ◌∙◌}
use mathlib.Core.Logic.{◌⊎◌, inl, inr, ◌≢◌}
use Prim.Native.Nat.{ℕ, zero, suc}
use Rattle.blocks.specs.State.{State, support, down, Clear}
use Rattle.blocks.specs.Position.{Proper}
use Rattle.blocks.proofs.StateLaws.{down_suc, down_table}

-- y is beneath x, or x itself: so many steps down from x lead to y
abbrev pub Reaches : State → ℕ → ℕ → Type 0
Reaches s x y = (k : ℕ) × (down s k x ≡ y)

module _ {s : State} (p : Proper s) where
  pub tower_chain : (x y d j i : ℕ) → down s j x ≡ d → down s i y ≡ d → d ≢ 0 → Reaches s x y ⊎ Reaches s y x
  tower_chain x y d zero i e f h = inr (i, f ∙ sym e)
  tower_chain x y d (suc j) zero e f h = inl (suc j, e ∙ sym f)
  tower_chain x y d (suc j) (suc i) e f h =
      let u : support s (down s j x) ≡ d = sym (down_suc s j x) ∙ e in
      let v : support s (down s i y) ≡ d = sym (down_suc s i y) ∙ f in
      let same : down s j x ≡ down s i y = p.carries (down s j x) (down s i y) (u ∙ sym v) (λ z. h (sym u ∙ z)) in
      tower_chain x y (down s i y) j i same refl (λ z. h (sym v ∙ ap (support s) z))

-- a clear block is beneath nothing but itself
pub clear_beneath : (s : State) (x y k : ℕ) → Clear s y → y ≢ 0 → down s k x ≡ y → x ≡ y
clear_beneath s x y zero c h e = e
clear_beneath s x y (suc k) c h e = absurd (h (c.free (down s k x) (sym (down_suc s k x) ∙ e)))

-- one clear block at or above d
pub clear_unique : {s : State} → Proper s → (x y d j i : ℕ) → Clear s x → Clear s y → down s j x ≡ d → down s i y ≡ d → d ≢ 0 → x ≡ y
clear_unique {s} p x y d j i cx cy e f h = by (tower_chain p x y d j i e f h)
  where
    nonzero : (z k : ℕ) → down s k z ≡ d → z ≢ 0
    nonzero z k w o = h (sym w ∙ ap (down s k) o ∙ down_table s k)

    by : Reaches s x y ⊎ Reaches s y x → x ≡ y
    by (inl r) = clear_beneath s x y r.0 cy (nonzero y i f) r.1
    by (inr r) = sym (clear_beneath s y x r.0 cx (nonzero x j e) r.1)
