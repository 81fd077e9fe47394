-- In position by what lies beneath: the test of a whole tower. Assumes nothing.
use mathlib.Core.Path.{◌≡◌, sym, ap, ◌∙◌}
use mathlib.Core.Logic.{◌⊎◌, inl, inr}
use Prim.Native.Nat.{ℕ, zero, suc, ◌≤◌, ◌<◌}
use native.Mathlib.Omega.{arith}
use native.Mathlib.Nat.{le_of_suc-le-suc}
use lib.ListN.{length}
use Rattle.blocks.specs.State.{State, support, down}
use Rattle.blocks.specs.Position.{Proper, InPosition}
use Rattle.blocks.specs.Tests.{agreesᵇ, tower_agreesᵇ}
use Rattle.lists.proofs.ReflectLaws.{Reflects, decided, reflects_and, reflects_iff, eqb_reflects, leb_reflects}
use Rattle.blocks.proofs.StateLaws.{down_more}
use Rattle.blocks.proofs.GroundLaws.{ground_bound}

-- every block is on the table after so many steps
pub all_down_lem : (s : State) → Proper s → (b : ℕ) → down s (suc (length s)) b ≡ 0
all_down_lem s p b = ground_bound s p.entries (support s b) (p.entries b) (p.grounded (support s b))

abbrev Agrees : State → State → ℕ → ℕ → Type 0
Agrees s g k b = (j : ℕ) → j ≤ k → support s (down s j b) ≡ support g (down s j b)

agrees_reflects : (s g : State) (k b : ℕ) → Reflects (Agrees s g k b) (agreesᵇ s g k b)
unfolding agreesᵇ
agrees_reflects s g zero b = reflects_iff only (λ h. h 0 (omega arith)) (eqb_reflects (support s b) (support g b))
  where
    only : support s b ≡ support g b → Agrees s g 0 b
    only e zero l = e
    only e (suc j) l = absurd (omega (arith, l))
agrees_reflects s g (suc k) b =
    reflects_iff both (λ h. (h 0 (omega arith), λ j l. h (suc j) (omega arith)))
    (reflects_and (eqb_reflects (support s b) (support g b)) (agrees_reflects s g k (support s b)))
  where
    both : (support s b ≡ support g b) × Agrees s g k (support s b) → Agrees s g (suc k) b
    both h zero l = h.0
    both h (suc j) l = h.1 j (le_of_suc-le-suc l)

-- the test of the whole tower
pub tower_test : (s g : State) → Proper s → (b : ℕ) → Reflects (InPosition s g b) (tower_agreesᵇ s g b)
tower_test s g p b = reflects_iff far (λ i j l. i.agrees j) (agrees_reflects s g (length s) b)
  where
    beyond : (k : ℕ) → length s < k → down s k b ≡ 0
    beyond k l = down_more s (suc (length s)) k b l (all_down_lem s p b)

    far : Agrees s g (length s) b → InPosition s g b
    far h = record { agrees = λ k. at k (decided (leb_reflects k (length s))) }
      where
        at : (k : ℕ) → (k ≤ length s) ⊎ (¬ (k ≤ length s)) → support s (down s k b) ≡ support g (down s k b)
        at k (inl l) = h k l
        at k (inr n) = let z : down s k b ≡ 0 = beyond k (omega (arith, n)) in ap (support s) z ∙ ap (support g) (sym z)
