-- The tests of one move, each beside its question: where a test fails and those before it pass, its number is the fault. Assumes nothing.
use Rattle.std.specs.Prelude.{Ok, Err}
use Prim.Native.Nat.{ℕ, ◌-◌, ◌≤◌, ◌<◌}
use mathlib.Core.Path.{◌≡◌, refl, sym, ◌∙◌}
use mathlib.Core.Logic.{◌⊎◌, inl, inr, ◌≢◌}
use mathlib.Core.Bool.{Bool, true, false, not, ◌&&◌}
use mathlib.Core.List.{List}
use native.Mathlib.Omega.{arith}
use borrow.Author.Tests.{eq-eqb, ne_eqb}
use lib.Dec.{eqb}
use lib.ListN.{length, get_or}
use Rattle.lists.proofs.ReflectLaws.{Reflects, fails, from_true, from_false, to_true, not-not, reflects_not, eqb_reflects, same?}
use Rattle.blocks.specs.State.{State, Block, support, Clear}
use Rattle.blocks.specs.Tests.{clearᵇ}
use Rattle.blocks.specs.Question.{no', first_no, FirstNo}
use Rattle.blocks.specs.Replay.{move_questions}
use Rattle.blocks.proofs.StateLaws.{support_at}
use Rattle.blocks.proofs.ClearLaws.{clear_test, clear_table}
use Rattle.blocks.proofs.ReplayLaws.{move_decides, move_yes}
use Rattle.blocks.proofs.QuestionLaws.{first_no_lem}
use Rattle.problem.specs.Known.{Loads}
use Rattle.validator.specs.Replayed.{verdict_of, fault_of}
use Rattle.validator.specs.declared.Fault.{Fault}
use Rattle.validator.specs.declared.Fault.TheVariants.{Unknown, Covered, Idle, Taken}

-- ---- clear, from the loads

module _ {s : State} {l : List ℕ} (w : Loads s l) where
  -- a block is clear where its load is 0
  block_clear : (b : ℕ) → 1 ≤ b → b ≤ length s → Reflects (Clear s b) (eqb (get_or l b 0) 0)
  unfolding clearᵇ
  block_clear b h k = rw (ne_eqb b 0 (λ e. omega arith), ← w.at b h k) at (clear_test s b)

  -- a destination is not clear where it is taken
  target_clear : (x : ℕ) → x ≤ length s → Reflects (¬ Clear s x) (not (eqb x 0) && not (eqb (get_or l x 0) 0))
  target_clear x k = go (same? x 0)
    where
      go : (x ≡ 0) ⊎ (¬ (x ≡ 0)) → Reflects (¬ Clear s x) (not (eqb x 0) && not (eqb (get_or l x 0) 0))
      go (inl e) = rw (eq-eqb x 0 e, e) (fails (λ n. n (clear_table s)))
      go (inr m) = rw (ne_eqb x 0 m) (reflects_not (block_clear x (omega (arith, m)) k))

-- ---- the ways out, in the order of the questions

module _ (s : State) (a x : ℕ) where
  -- a bad move is the first "no"
  bad : (f : Fault) → FirstNo (move_questions s a x) (verdict_of f) 0 → fault_of (Err f) ≡ first_no (move_questions s a x)
  bad f b = sym ((first_no_lem (move_questions s a x) (move_decides s a x) (no' (verdict_of f) 0)).1 b)

  pub no_block : a < 1 → fault_of (Err Unknown) ≡ first_no (move_questions s a x)
  unfolding move_questions
  no_block h = bad Unknown (inl (refl, (refl, λ y. omega (arith, y.0.low))))

  pub above_blocks : length s < a → fault_of (Err Unknown) ≡ first_no (move_questions s a x)
  unfolding move_questions
  above_blocks h = bad Unknown (inl (refl, (refl, λ y. omega (arith, y.0.high))))

  pub outside : length s < x → fault_of (Err Unknown) ≡ first_no (move_questions s a x)
  unfolding move_questions
  outside h = bad Unknown (inl (refl, (refl, λ y. omega (arith, y.1))))

  module _ {l : List ℕ} (w : Loads s l) (low : 1 ≤ a) (high : a ≤ length s) (inside : x ≤ length s) where
    block : Block s a
    block = record { low = low; high = high }

    pub covered : get_or l a 0 ≢ 0 → fault_of (Err Covered) ≡ first_no (move_questions s a x)
    unfolding move_questions
    covered n = bad Covered (inr ((block, inside), inl (refl, (refl, λ y. n (from_true (eqb_reflects (get_or l a 0) 0) (to_true (block_clear w a low high) y))))))

    module _ (free : get_or l a 0 ≡ 0) {u : ℕ} (is : u ≡ get_or s (a - 1) 0) where
      clear : Clear s a
      clear = from_true (block_clear w a low high) (eq-eqb (get_or l a 0) 0 free)

      pub already : x ≡ u → fault_of (Err Idle) ≡ first_no (move_questions s a x)
      unfolding move_questions
      already e = bad Idle (inr ((block, inside), inr (clear, inl (refl, (refl, λ n. n (e ∙ is ∙ sym (support_at s a low)))))))

      module _ (new : x ≡ u → ⊥) where
        changes : x ≢ support s a
        changes e = new (e ∙ support_at s a low ∙ sym is)

        pub itself : x ≡ a → fault_of (Err Taken) ≡ first_no (move_questions s a x)
        unfolding move_questions
        itself e = bad Taken (inr ((block, inside), inr (clear, inr (changes, inl (refl, (refl, λ y. y.0 e))))))

        module _ (apart : x ≡ a → ⊥) {t : Bool} (tells : t ≡ (not (eqb x 0) && not (eqb (get_or l x 0) 0))) where
          pub occupied : t ≡ true → fault_of (Err Taken) ≡ first_no (move_questions s a x)
          unfolding move_questions
          occupied e =
              let taken = from_true (target_clear w x inside) (sym tells ∙ e) in
              bad Taken (inr ((block, inside), inr (clear, inr (changes, inl (refl, (refl, λ y. taken y.1))))))

          pub legal : t ≡ false → fault_of (Ok tt) ≡ first_no (move_questions s a x)
          legal e = sym ((move_yes s a x).1 (
              record {
                block = block;
                inside = inside;
                clear = clear;
                free = not-not (clear_test s x) (from_false (target_clear w x inside) (sym tells ∙ e));
                apart = apart;
                changes = changes;
              }
              ))
