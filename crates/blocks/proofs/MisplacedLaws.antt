-- How a move changes the count of misplaced blocks (docs/WHY.md, step 2): the status of its own block alone can change. Assumes nothing.
use mathlib.Core.Path.{◌≡◌, refl, sym, ap, ◌∙◌, subst}
use mathlib.Core.Logic.{◌⊎◌, inl, inr, ◌≢◌}
use Prim.Native.Nat.{ℕ, zero, suc, ◌≤◌}
use native.Mathlib.Omega.{arith}
use lib.ListN.{length}
use Rattle.blocks.specs.State.{State, put}
use Rattle.lists.specs.Search.{lowest, count}
use Rattle.blocks.specs.Position.{Proper, Problem, InPosition, Misplaced}
use Rattle.blocks.specs.Move.{Legal, Constructive}
use Rattle.blocks.specs.Tests.{misplacedᵇ, misplaced_count}
use Rattle.lists.proofs.ReflectLaws.{from_true, from_false, to_true, to_false, not-not, decided, reflects_same, eqb_reflects}
use Rattle.lists.proofs.SearchLaws.{lowest_passes, lowest_none, count_ext, count_none, count_zero, count_one_more}
use Rattle.blocks.proofs.StateLaws.{length-put}
use Rattle.blocks.proofs.FrameLaws.{support_moved, position_frame, position_unframe, proper_moved}
use Rattle.blocks.proofs.PositionLaws.{position_test, misplaced_test, position_goal, position_beneath, misplaced_block, all_positions}

-- nothing is misplaced exactly in the goal
pub none_misplaced_goal : (g : State) → Proper g → misplaced_count g g ≡ 0
unfolding misplaced_count
none_misplaced_goal g p = count_none (misplacedᵇ g g) (length g) (λ b l h. to_false (misplaced_test g g p b) (λ m. m (position_goal g b)))

pub none_misplaced : {s g : State} → Problem s g → misplaced_count s g ≡ 0 → (b : ℕ) → InPosition s g b
unfolding misplaced_count
none_misplaced {s} {g} p e b =
    not-not (position_test s g p.initial b) (λ m.
    let w = misplaced_block p.same m in
    from_false (misplaced_test s g p.initial b) (count_zero (misplacedᵇ s g) (length s) e b w.low w.high) m)

pub misplaced_none : {s g : State} → Problem s g → ((b : ℕ) → ¬ Misplaced s g b) → misplaced_count s g ≡ 0
unfolding misplaced_count
misplaced_none {s} {g} p h = count_none (misplacedᵇ s g) (length s) (λ b _ _. to_false (misplaced_test s g p.initial b) (h b))

-- something is misplaced where the count says so
pub some_misplaced : {s g : State} → Problem s g → misplaced_count s g ≢ 0 → (b : ℕ) × Misplaced s g b
unfolding misplaced_count
some_misplaced {s} {g} p n = by (lowest (misplacedᵇ s g) (length s)) refl
  where
    by : (b : ℕ) → lowest (misplacedᵇ s g) (length s) ≡ b → (c : ℕ) × Misplaced s g c
    by zero e = absurd (n (count_none (misplacedᵇ s g) (length s) (lowest_none (misplacedᵇ s g) (length s) e)))
    by (suc i) e =
        let found : lowest (misplacedᵇ s g) (length s) ≢ 0 = λ z. absurd (omega (arith, e, z)) in
        (suc i, from_true (misplaced_test s g p.initial (suc i)) (ap (misplacedᵇ s g) (sym e) ∙ lowest_passes (misplacedᵇ s g) (length s) found))

pub none_misplaced_is_goal : {s g : State} → Problem s g → misplaced_count s g ≡ 0 → s ≡ g
none_misplaced_is_goal {s} {g} p e = all_positions s g p.same (none_misplaced p e)

-- what a move does to the count: a constructive move makes it one less, no other move makes it less
pub data Effect (s g : State) (a x : ℕ) : Type 0 where
  better : Constructive s g a x → misplaced_count s g ≡ suc (misplaced_count (put s a x) g) → Effect s g a x
  other : misplaced_count s g ≤ misplaced_count (put s a x) g → Effect s g a x

module _ {s g : State} {a x : ℕ} (p : Problem s g) (l : Legal s a x) where
  proper : Proper (put s a x)
  proper = proper_moved l p.initial

  -- every other block is as it was
  pub misplaced_elsewhere : (c : ℕ) → c ≢ a → misplacedᵇ s g c ≡ misplacedᵇ (put s a x) g c
  misplaced_elsewhere c h =
      reflects_same (λ m i. m (position_unframe l h i)) (λ m i. m (position_frame l h i)) (misplaced_test s g p.initial c) (misplaced_test (put s a x) g proper c)

  same_count : misplaced_count (put s a x) g ≡ count (misplacedᵇ (put s a x) g) (length s)
  unfolding misplaced_count
  same_count = ap (count (misplacedᵇ (put s a x) g)) (length-put s a x)

  pub misplaced_falls : Misplaced s g a → InPosition (put s a x) g a → misplaced_count s g ≡ suc (misplaced_count (put s a x) g)
  unfolding misplaced_count
  misplaced_falls m i =
      count_one_more (misplacedᵇ s g) (misplacedᵇ (put s a x) g) (length s) a l.block.low l.block.high
      (to_true (misplaced_test s g p.initial a) m) (to_false (misplaced_test (put s a x) g proper a) (λ n. n i)) (λ c _ _ h. misplaced_elsewhere c h)
      ∙ ap suc (sym same_count)

  pub misplaced_rises : InPosition s g a → Misplaced (put s a x) g a → misplaced_count (put s a x) g ≡ suc (misplaced_count s g)
  unfolding misplaced_count
  misplaced_rises i m =
      same_count
      ∙ count_one_more (misplacedᵇ (put s a x) g) (misplacedᵇ s g) (length s) a l.block.low l.block.high
      (to_true (misplaced_test (put s a x) g proper a) m) (to_false (misplaced_test s g p.initial a) (λ n. n i)) (λ c _ _ h. sym (misplaced_elsewhere c h))

  pub misplaced_stays : (misplacedᵇ s g a ≡ misplacedᵇ (put s a x) g a) → misplaced_count s g ≡ misplaced_count (put s a x) g
  unfolding misplaced_count
  misplaced_stays e = count_ext (misplacedᵇ s g) (misplacedᵇ (put s a x) g) (length s) (λ c _ _. at c (decided (eqb_reflects c a))) ∙ sym same_count
    where
      at : (c : ℕ) → (c ≡ a) ⊎ (¬ (c ≡ a)) → misplacedᵇ s g c ≡ misplacedᵇ (put s a x) g c
      at c (inl same) = ap (misplacedᵇ s g) same ∙ e ∙ ap (misplacedᵇ (put s a x) g) (sym same)
      at c (inr h) = misplaced_elsewhere c h

  -- a move that puts a misplaced block in position is constructive
  pub constructive_if : Misplaced s g a → InPosition (put s a x) g a → Constructive s g a x
  constructive_if m i =
      record {
        legal = l;
        misplaced = m;
        home = sym (support_moved l) ∙ i.agrees 0;
        position = position_unframe l l.apart (subst (InPosition (put s a x) g) (support_moved l) (position_beneath i 1));
      }

  pub effect : Effect s g a x
  effect = by (decided (position_test s g p.initial a)) (decided (position_test (put s a x) g proper a))
    where
      still : misplacedᵇ s g a ≡ misplacedᵇ (put s a x) g a → Effect s g a x
      still e = other (omega (arith, misplaced_stays e))

      by : InPosition s g a ⊎ (¬ InPosition s g a) → InPosition (put s a x) g a ⊎ (¬ InPosition (put s a x) g a) → Effect s g a x
      by (inl i) (inl j) = still (to_false (misplaced_test s g p.initial a) (λ m. m i) ∙ sym (to_false (misplaced_test (put s a x) g proper a) (λ m. m j)))
      by (inl i) (inr m) = other (omega (arith, misplaced_rises i m))
      by (inr m) (inl i) = better (constructive_if m i) (misplaced_falls m i)
      by (inr m) (inr n) = still (to_true (misplaced_test s g p.initial a) m ∙ sym (to_true (misplaced_test (put s a x) g proper a) n))
