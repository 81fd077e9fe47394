-- A legal move of a changes nothing beneath any other block (docs/WHY.md, step 2), and keeps a state proper.
-- Idea: what is met on the way down from b carries something, and a carries nothing. Assumes nothing.
use mathlib.Core.Path.{◌≡◌, refl, sym, ap, ◌∙◌}
use mathlib.Core.Logic.{◌⊎◌, inl, inr, ◌≢◌}
use Prim.Native.Nat.{ℕ, zero, suc, ◌≤◌}
use native.Mathlib.Omega.{arith}
use lib.ListN.{length}
use Rattle.blocks.specs.State.{State, support, put, down, Above, Clear, Grounded}
use Rattle.blocks.specs.Position.{Proper, Problem, InPosition}
use Rattle.blocks.specs.Move.{Legal}
use Rattle.lists.proofs.ReflectLaws.{same?}
use Rattle.blocks.proofs.StateLaws.{length-put, support_put_same, support_put_other}

-- the way down from another block does not meet a clear block
pub down_avoids : (s : State) (a b : ℕ) → Clear s a → a ≢ 0 → b ≢ a → (k : ℕ) → down s k b ≢ a
down_avoids s a b c z h zero = h
down_avoids s a b c z h (suc k) = down_avoids s a (support s b) c z (λ e. z (c.free b e)) k

module _ {s : State} {a x : ℕ} (l : Legal s a x) where
  pub moved_block : a ≢ 0
  moved_block e = absurd (omega (arith, l.block.low))

  pub moved_avoided : (b : ℕ) → b ≢ a → (k : ℕ) → down s k b ≢ a
  moved_avoided b h k = down_avoids s a b l.clear moved_block h k

  pub support_moved : support (put s a x) a ≡ x
  support_moved = support_put_same s a x l.block

  pub down_frame : (b : ℕ) → b ≢ a → (k : ℕ) → down (put s a x) k b ≡ down s k b
  down_frame b h zero = refl
  down_frame b h (suc k) =
      ap (down (put s a x) k) (support_put_other s a x b h) ∙ down_frame (support s b) (moved_avoided b h 1) k

  support_frame : (b : ℕ) → b ≢ a → (k : ℕ) → support (put s a x) (down (put s a x) k b) ≡ support s (down s k b)
  support_frame b h k = ap (support (put s a x)) (down_frame b h k) ∙ support_put_other s a x (down s k b) (moved_avoided b h k)

  -- in position and above, before and after
  pub position_frame : {g : State} {b : ℕ} → b ≢ a → InPosition s g b → InPosition (put s a x) g b
  position_frame {g} {b} h i = record { agrees = λ k. support_frame b h k ∙ i.agrees k ∙ ap (support g) (sym (down_frame b h k)) }

  pub position_unframe : {g : State} {b : ℕ} → b ≢ a → InPosition (put s a x) g b → InPosition s g b
  position_unframe {g} {b} h i = record { agrees = λ k. sym (support_frame b h k) ∙ i.agrees k ∙ ap (support g) (down_frame b h k) }

  pub above_frame : {b d : ℕ} → b ≢ a → Above s b d → Above (put s a x) b d
  above_frame {b} h u = record { steps = u.steps; reaches = down_frame b h (suc u.steps) ∙ u.reaches; block = u.block }

  pub above_unframe : {b d : ℕ} → b ≢ a → Above (put s a x) b d → Above s b d
  above_unframe {b} h u = record { steps = u.steps; reaches = sym (down_frame b h (suc u.steps)) ∙ u.reaches; block = u.block }

  -- the moved block is clear afterwards
  pub moved_clear : Clear (put s a x) a
  moved_clear = record { free = λ c e. by c e (same? c a) }
    where
      by : (c : ℕ) → support (put s a x) c ≡ a → (c ≡ a) ⊎ (¬ (c ≡ a)) → a ≡ 0
      by c e (inl same) = absurd (l.apart (sym support_moved ∙ ap (support (put s a x)) (sym same) ∙ e))
      by c e (inr other) = l.clear.free c (sym (support_put_other s a x c other) ∙ e)

  -- every block but the destination is as clear as before, and the old support is clear
  pub clear_frame : {b : ℕ} → b ≢ x → Clear s b → Clear (put s a x) b
  clear_frame {b} h w = record { free = λ c e. by c e (same? c a) }
    where
      by : (c : ℕ) → support (put s a x) c ≡ b → (c ≡ a) ⊎ (¬ (c ≡ a)) → b ≡ 0
      by c e (inl same) = absurd (h (sym e ∙ ap (support (put s a x)) same ∙ support_moved))
      by c e (inr other) = w.free c (sym (support_put_other s a x c other) ∙ e)

  module _ (p : Proper s) where
    -- a block is grounded after the move
    grounded_after : (b : ℕ) → Grounded (put s a x) b
    grounded_after b = by (same? b a)
      where
        by : (b ≡ a) ⊎ (¬ (b ≡ a)) → Grounded (put s a x) b
        by (inl same) =
            let w = p.grounded x in
            record { steps = suc w.steps; reaches = ap (down (put s a x) w.steps) (ap (support (put s a x)) same ∙ support_moved) ∙ down_frame x l.apart w.steps ∙ w.reaches }
        by (inr other) = let w = p.grounded b in record { steps = w.steps; reaches = down_frame b other w.steps ∙ w.reaches }

    entries_after : (b : ℕ) → support (put s a x) b ≤ length (put s a x)
    entries_after b = by (same? b a)
      where
        by : (b ≡ a) ⊎ (¬ (b ≡ a)) → support (put s a x) b ≤ length (put s a x)
        by (inl same) = omega (arith, l.inside, length-put s a x, ap (support (put s a x)) same ∙ support_moved)
        by (inr other) = omega (arith, p.entries b, length-put s a x, support_put_other s a x b other)

    carries_after : (b c : ℕ) → support (put s a x) b ≡ support (put s a x) c → support (put s a x) b ≢ 0 → b ≡ c
    carries_after b c e z = by (same? b a) (same? c a)
      where
        -- nothing rested on the destination, unless it is the table
        alone : (d : ℕ) → d ≢ a → support (put s a x) d ≡ x → x ≡ 0
        alone d h f = l.free.free d (sym (support_put_other s a x d h) ∙ f)

        by : (b ≡ a) ⊎ (¬ (b ≡ a)) → (c ≡ a) ⊎ (¬ (c ≡ a)) → b ≡ c
        by (inl f) (inl h) = f ∙ sym h
        by (inl f) (inr h) = absurd (z (to ∙ alone c h (sym e ∙ to)))
          where
            to : support (put s a x) b ≡ x
            to = ap (support (put s a x)) f ∙ support_moved
        by (inr f) (inl h) = absurd (z (e ∙ to ∙ alone b f (e ∙ to)))
          where
            to : support (put s a x) c ≡ x
            to = ap (support (put s a x)) h ∙ support_moved
        by (inr f) (inr h) =
            p.carries b c (sym (support_put_other s a x b f) ∙ e ∙ support_put_other s a x c h) (λ k. z (support_put_other s a x b f ∙ k))

    pub proper_moved : Proper (put s a x)
    proper_moved = record { entries = entries_after; carries = carries_after; grounded = grounded_after }

pub problem_moved : {s g : State} {a x : ℕ} → Legal s a x → Problem s g → Problem (put s a x) g
problem_moved {s} {g} {a} {x} l p =
    record { initial = proper_moved l p.initial; goal = p.goal; same = p.same ∙ sym (length-put s a x) }
