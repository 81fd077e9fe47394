-- A tower whose bottom block b rests on the table is put on the top t of another tower: the state stays proper, and t is the only block that is no longer clear.
-- Idea: the way down from t does not meet b, since b's tower has one top. Assumes nothing.
use mathlib.Core.Path.{◌≡◌, refl, sym, ap, ◌∙◌, subst}
use mathlib.Core.Logic.{◌⊎◌, inl, inr, ◌≢◌}
use Prim.Native.Nat.{ℕ, zero, suc, ◌≤◌}
use native.Mathlib.Omega.{arith}
use lib.ListN.{length}
use Rattle.blocks.specs.State.{State, Block, support, put, down, Clear, Grounded}
use Rattle.blocks.specs.Position.{Proper}
use Rattle.lists.specs.Search.{count}
use Rattle.blocks.specs.Tests.{clearᵇ}
use Rattle.blocks.specs.Loop.{top}
use Rattle.lists.proofs.ReflectLaws.{Reflects, to_true, to_false, reflects_not, reflects_and, reflects_same, eqb_reflects, same?}
use Rattle.lists.proofs.SearchLaws.{count_one_more}
use Rattle.blocks.proofs.StateLaws.{length-put, support_put_same, support_put_other, supported_block, down_table}
use Rattle.blocks.proofs.TowerLaws.{Reaches, clear_unique}
use Rattle.blocks.proofs.ClearLaws.{clear_test}
use Rattle.blocks.proofs.StallLaws.{top_clear}
use Rattle.training.specs.Arrangement.{other_topᵇ}

-- the property behind the test
pub other_reflects : (s : State) (b t : ℕ) → Reflects (Clear s t × (t ≢ top s (length s) b)) (other_topᵇ s b t)
unfolding other_topᵇ
other_reflects s b t = reflects_and (clear_test s t) (reflects_not (eqb_reflects t (top s (length s) b)))

module _ {s : State} (p : Proper s) {b : ℕ} (w : Block s b) where
  -- b's tower has a top
  pub own : Clear s (top s (length s) b) × Reaches s (top s (length s) b) b
  own = top_clear (record { initial = p; goal = p; same = refl }) b (λ e. absurd (omega (arith, w.low))) w.high

  own_block : Block s (top s (length s) b)
  own_block = by own.1.0 own.1.1
    where
      by : (k : ℕ) → down s k (top s (length s) b) ≡ b → Block s (top s (length s) b)
      by zero e = subst (Block s) (sym e) w
      by (suc k) e =
          supported_block s (top s (length s) b) (λ z. let none : b ≡ 0 = sym e ∙ ap (down s k) z ∙ down_table s k in absurd (omega (arith, w.low)))

  -- one of the tops is b's own
  pub others_count : count (clearᵇ s) (length s) ≡ suc (count (other_topᵇ s b) (length s))
  others_count =
      count_one_more (clearᵇ s) (other_topᵇ s b) (length s) (top s (length s) b) own_block.low own_block.high
      (to_true (clear_test s (top s (length s) b)) own.0)
      (to_false (other_reflects s b (top s (length s) b)) (λ h. h.1 refl))
      (λ c l h n. reflects_same (λ k. (k, n)) (λ k. k.0) (clear_test s c) (other_reflects s b c))

  -- what has b beneath it and is clear is b's own top
  pub own_only : (t k : ℕ) → Clear s t → down s k t ≡ b → t ≡ top s (length s) b
  own_only t k c e = clear_unique p t (top s (length s) b) b k own.1.0 c own.0 e own.1.1 (λ z. absurd (omega (arith, w.low)))

module _ {s : State} (p : Proper s) {b t : ℕ} (w : Block s b) (v : Block s t) (on : support s b ≡ 0) (free : Clear s t) (other : t ≢ top s (length s) b) where
  there : support (put s b t) b ≡ t
  there = support_put_same s b t w

  elsewhere : (c : ℕ) → c ≢ b → support (put s b t) c ≡ support s c
  elsewhere c n = support_put_other s b t c n

  block : t ≢ 0
  block e = absurd (omega (arith, v.low))

  avoids : (k : ℕ) → down s k t ≢ b
  avoids k e = other (own_only p w t k free e)

  beneath : (c : ℕ) → ((k : ℕ) → down s k c ≢ b) → (k : ℕ) → down (put s b t) k c ≡ down s k c
  beneath c h zero = refl
  beneath c h (suc k) = ap (down (put s b t) k) (elsewhere c (h 0)) ∙ beneath (support s c) (λ j. h (suc j)) k

  top_grounded : Grounded (put s b t) t
  top_grounded = let g = p.grounded t in record { steps = g.steps; reaches = beneath t avoids g.steps ∙ g.reaches }

  one_more : (c d : ℕ) → support (put s b t) c ≡ d → Grounded (put s b t) d → Grounded (put s b t) c
  one_more c d e g = record { steps = suc g.steps; reaches = ap (down (put s b t) g.steps) e ∙ g.reaches }

  comes_down : (k c : ℕ) → down s k c ≡ 0 → Grounded (put s b t) c
  comes_down zero c e = record { steps = 0; reaches = e }
  comes_down (suc k) c e = by (same? c b) (comes_down k (support s c) e)
    where
      by : (c ≡ b) ⊎ (¬ (c ≡ b)) → Grounded (put s b t) (support s c) → Grounded (put s b t) c
      by (inl i) g = one_more c t (ap (support (put s b t)) i ∙ there) top_grounded
      by (inr n) g = one_more c (support s c) (elsewhere c n) g

  entries : (c : ℕ) → support (put s b t) c ≤ length (put s b t)
  entries c = by (same? c b)
    where
      by : (c ≡ b) ⊎ (¬ (c ≡ b)) → support (put s b t) c ≤ length (put s b t)
      by (inl i) = omega (arith, ap (support (put s b t)) i ∙ there, length-put s b t, v.high)
      by (inr n) = omega (arith, elsewhere c n, length-put s b t, p.entries c)

  -- nothing but b rests on t
  alone : (c : ℕ) → support (put s b t) c ≡ t → c ≡ b
  alone c e = by (same? c b)
    where
      by : (c ≡ b) ⊎ (¬ (c ≡ b)) → c ≡ b
      by (inl i) = i
      by (inr n) = absurd (block (free.free c (sym (elsewhere c n) ∙ e)))

  carries : (c d : ℕ) → support (put s b t) c ≡ support (put s b t) d → support (put s b t) c ≢ 0 → c ≡ d
  carries c d e n = by (same? c b) (same? d b)
    where
      by : (c ≡ b) ⊎ (¬ (c ≡ b)) → (d ≡ b) ⊎ (¬ (d ≡ b)) → c ≡ d
      by (inl i) y = i ∙ sym (alone d (sym e ∙ ap (support (put s b t)) i ∙ there))
      by (inr i) (inl j) = absurd (i (alone c (e ∙ ap (support (put s b t)) j ∙ there)))
      by (inr i) (inr j) = p.carries c d (sym (elsewhere c i) ∙ e ∙ elsewhere d j) (λ z. n (elsewhere c i ∙ z))

  pub stack_proper : Proper (put s b t)
  stack_proper = record { entries = entries; carries = carries; grounded = λ c. comes_down (p.grounded c).steps c (p.grounded c).reaches }

  -- the tops afterwards
  clear_to : (c : ℕ) → c ≢ t → Clear s c → Clear (put s b t) c
  clear_to c n k = record { free = λ d e. by d e (same? d b) }
    where
      by : (d : ℕ) → support (put s b t) d ≡ c → (d ≡ b) ⊎ (¬ (d ≡ b)) → c ≡ 0
      by d e (inl i) = absurd (n (sym e ∙ ap (support (put s b t)) i ∙ there))
      by d e (inr i) = k.free d (sym (elsewhere d i) ∙ e)

  clear_from : (c : ℕ) → Clear (put s b t) c → Clear s c
  clear_from c k = record { free = λ d e. by d e (same? d b) }
    where
      by : (d : ℕ) → support s d ≡ c → (d ≡ b) ⊎ (¬ (d ≡ b)) → c ≡ 0
      by d e (inl i) = sym e ∙ ap (support s) i ∙ on
      by d e (inr i) = k.free d (elsewhere d i ∙ e)

  -- one top fewer
  pub stack_tops : count (clearᵇ s) (length s) ≡ suc (count (clearᵇ (put s b t)) (length s))
  stack_tops =
      count_one_more (clearᵇ s) (clearᵇ (put s b t)) (length s) t v.low v.high
      (to_true (clear_test s t) free)
      (to_false (clear_test (put s b t) t) (λ k. block (k.free b there)))
      (λ c l h n. reflects_same (clear_to c n) (clear_from c) (clear_test s c) (clear_test (put s b t) c))
