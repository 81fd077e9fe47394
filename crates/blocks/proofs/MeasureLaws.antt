-- The measure of the methods (docs/WHY.md, step 6): misplaced blocks, and once more those off the table now and in the goal. Every move of a method takes from it:
-- a move to the table takes exactly 1, a constructive move 1 or 2, and exactly 1 where the block stands on the table. Assumes nothing.
use mathlib.Core.Path.{◌≡◌, sym, ap, ◌∙◌}
use mathlib.Core.Logic.{◌⊎◌, inl, inr, ◌≢◌}
use Prim.Native.Nat.{ℕ, suc, ◌*◌, ◌≤◌}
use native.Mathlib.Omega.{arith}
use lib.ListN.{length}
use Rattle.blocks.specs.State.{State, support, put}
use Rattle.lists.specs.Search.{count, Counts}
use Rattle.blocks.specs.Position.{Proper, Problem, Misplaced}
use Rattle.blocks.specs.Move.{Legal, Constructive}
use Rattle.blocks.specs.Tests.{misplacedᵇ, misplaced_count, twiceᵇ, measure}
use Rattle.blocks.specs.Stall.{Twice}
use Rattle.lists.proofs.ReflectLaws.{Reflects, from_true, to_true, to_false, decided, reflects_and, reflects_not, reflects_same, eqb_reflects, same?}
use Rattle.lists.proofs.SearchLaws.{count_le, count_ext, count_mono, count_one_more, count_counts}
use Rattle.blocks.proofs.StateLaws.{length-put, support_put_other}
use Rattle.blocks.proofs.FrameLaws.{support_moved, position_frame, position_unframe, proper_moved}
use Rattle.blocks.proofs.PositionLaws.{misplaced_test, position_moved, position_table}
use Rattle.blocks.proofs.MisplacedLaws.{misplaced_falls, misplaced_stays}

pub twice_test : (s g : State) → Proper s → (b : ℕ) → Reflects (Twice s g b) (twiceᵇ s g b)
unfolding twiceᵇ
twice_test s g p b =
    reflects_and (misplaced_test s g p b) (reflects_and (reflects_not (eqb_reflects (support s b) 0)) (reflects_not (eqb_reflects (support g b) 0)))

-- the measure is at most twice the misplaced count, and so at most twice the number of blocks
pub measure_le : (s g : State) → Proper s → measure s g ≤ 2 * misplaced_count s g
unfolding measure misplaced_count
measure_le s g p =
    omega (arith, count_mono (twiceᵇ s g) (misplacedᵇ s g) (length s) (λ c _ _ e. to_true (misplaced_test s g p c) (from_true (twice_test s g p c) e).0))

-- what is counted are the misplaced blocks
pub misplaced_counts : (s g : State) → Proper s → Counts (Misplaced s g) (length s) (misplaced_count s g)
unfolding misplaced_count
misplaced_counts s g p = count_counts (Misplaced s g) (misplacedᵇ s g) (misplaced_test s g p) (length s)

pub misplaced_le : (s g : State) → misplaced_count s g ≤ length s
unfolding misplaced_count
misplaced_le s g = count_le (misplacedᵇ s g) (length s)

module _ {s g : State} {a x : ℕ} (p : Problem s g) (l : Legal s a x) where
  proper : Proper (put s a x)
  proper = proper_moved l p.initial

  -- every other block counts as it did
  twice_elsewhere : (c : ℕ) → c ≢ a → twiceᵇ s g c ≡ twiceᵇ (put s a x) g c
  twice_elsewhere c h =
      let e : support (put s a x) c ≡ support s c = support_put_other s a x c h in
      reflects_same
      (λ w. (λ i. w.0 (position_unframe l h i), (λ z. w.1.0 (sym e ∙ z), w.1.1)))
      (λ w. (λ i. w.0 (position_frame l h i), (λ z. w.1.0 (e ∙ z), w.1.1)))
      (twice_test s g p.initial c)
      (twice_test (put s a x) g proper c)

  same_count : count (twiceᵇ (put s a x) g) (length (put s a x)) ≡ count (twiceᵇ (put s a x) g) (length s)
  same_count = ap (count (twiceᵇ (put s a x) g)) (length-put s a x)

  twice_falls : Twice s g a → ¬ Twice (put s a x) g a → count (twiceᵇ s g) (length s) ≡ suc (count (twiceᵇ (put s a x) g) (length (put s a x)))
  twice_falls w n =
      count_one_more (twiceᵇ s g) (twiceᵇ (put s a x) g) (length s) a l.block.low l.block.high
      (to_true (twice_test s g p.initial a) w) (to_false (twice_test (put s a x) g proper a) n) (λ c _ _ h. twice_elsewhere c h)
      ∙ ap suc (sym same_count)

  twice_stays : ¬ Twice s g a → ¬ Twice (put s a x) g a → count (twiceᵇ s g) (length s) ≡ count (twiceᵇ (put s a x) g) (length (put s a x))
  twice_stays m n = count_ext (twiceᵇ s g) (twiceᵇ (put s a x) g) (length s) (λ c _ _. at c (same? c a)) ∙ sym same_count
    where
      at : (c : ℕ) → (c ≡ a) ⊎ (¬ (c ≡ a)) → twiceᵇ s g c ≡ twiceᵇ (put s a x) g c
      at c (inl e) =
          ap (twiceᵇ s g) e ∙ to_false (twice_test s g p.initial a) m ∙ sym (to_false (twice_test (put s a x) g proper a) n) ∙ ap (twiceᵇ (put s a x) g) (sym e)
      at c (inr h) = twice_elsewhere c h

-- a constructive move
module _ {s g : State} {a x : ℕ} (p : Problem s g) (c : Constructive s g a x) where
  home : ¬ Twice (put s a x) g a
  home w = w.0 (position_moved c)

  -- one misplaced block fewer
  pub fewer : misplaced_count s g ≡ suc (misplaced_count (put s a x) g)
  fewer = misplaced_falls p c.legal c.misplaced (position_moved c)

  pub measure_constructive : suc (measure (put s a x) g) ≤ measure s g
  unfolding measure
  measure_constructive = by (decided (twice_test s g p.initial a))
    where
      by : Twice s g a ⊎ (¬ Twice s g a) → suc (measure (put s a x) g) ≤ measure s g
      by (inl w) = omega (arith, fewer, twice_falls p c.legal w home)
      by (inr n) = omega (arith, fewer, twice_stays p c.legal n home)

  -- a block that does not count twice takes exactly 1
  pub measure_once : ¬ Twice s g a → measure s g ≡ suc (measure (put s a x) g)
  unfolding measure
  measure_once n = omega (arith, fewer, twice_stays p c.legal n home)

-- a move of a misplaced block off the table to the table takes exactly 1
pub measure_table : {s g : State} {a : ℕ} → Problem s g → Legal s a 0 → Misplaced s g a → support s a ≢ 0 → measure s g ≡ suc (measure (put s a 0) g)
unfolding measure
measure_table {s} {g} {a} p l m off = by (same? (support g a) 0)
  where
    by : (support g a ≡ 0) ⊎ (¬ (support g a ≡ 0)) → measure s g ≡ suc (measure (put s a 0) g)
    by (inl z) = measure_once p (record { legal = l; misplaced = m; home = sym z; position = position_table s g }) (λ w. w.1.1 z)
    by (inr n) = both
      where
        -- the block is still misplaced
        after : Misplaced (put s a 0) g a
        after i = n (sym (i.agrees 0) ∙ support_moved l)

        both : measure s g ≡ suc (measure (put s a 0) g)
        both =
            omega (
              arith,
              misplaced_stays p l (to_true (misplaced_test s g p.initial a) m ∙ sym (to_true (misplaced_test (put s a 0) g (proper_moved l p.initial) a) after)),
              twice_falls p l (m, (off, n)) (λ w. w.1.0 (support_moved l)),
            )
