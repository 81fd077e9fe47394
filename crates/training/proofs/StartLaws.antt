-- The state from which a number is turned into one: all towers single and loose. Assumes nothing.
use mathlib.Core.Path.{◌≡◌, refl, sym, ap, ◌∙◌}
use mathlib.Core.Logic.{◌⊎◌, inl, inr}
use mathlib.Core.List.{◌∷◌}
use Prim.Native.Nat.{ℕ, zero, suc, ◌≤◌}
use native.Mathlib.Omega.{arith}
use lib.ListN.{length, take, replicate, length-replicate, get_or-replicate, get_or-eq_default}
use Rattle.lists.proofs.ReflectLaws.{to_true, not-not, decided, eqb_reflects, leb_reflects}
use Rattle.lists.proofs.SearchLaws.{count_all}
use Rattle.blocks.specs.State.{State, support}
use Rattle.blocks.specs.Position.{Proper}
use Rattle.blocks.specs.Tests.{load, clearᵇ}
use Rattle.blocks.proofs.ClearLaws.{clear_test, load_rests}
use Rattle.problem.specs.Known.{Loads}
use Rattle.counts.specs.Ways.{held}
use Rattle.training.specs.Placing.{Open}

module _ (n : ℕ) where
  abbrev pub start : State
  start = replicate n 0

  pub start_length : length start ≡ n
  start_length = length-replicate n 0

  pub start_support : (b : ℕ) → support start b ≡ 0
  start_support zero = refl
  start_support (suc i) = by (decided (leb_reflects (suc i) n))
    where
      by : (suc i ≤ n) ⊎ (¬ (suc i ≤ n)) → support (replicate n 0) (suc i) ≡ 0
      by (inl h) = get_or-replicate n i 0 0 h
      by (inr h) = get_or-eq_default (replicate n 0) 0 (omega (arith, h, length-replicate {A = ℕ} n 0))

  start_proper : Proper start
  start_proper = record {
    entries = λ b. omega (arith, start_support b);
    carries = λ b c e h. absurd (h (start_support b));
    grounded = λ b. record { steps = 1; reaches = start_support b };
  }

  -- every block is the top of its own loose tower
  pub start_open : Open n 0 start
  start_open = record {
    proper = start_proper;
    left = omega (arith, start_length);
    loose = λ c h. start_support c;
    tops = count_all (clearᵇ start) (length start) (λ c l h. to_true (clear_test start c) (record { free = λ d e. sym e ∙ start_support d }))
        ∙ omega (arith, start_length);
  }

  -- nothing rests on anything
  no_load : (b : ℕ) → 1 ≤ b → load start b ≡ 0
  no_load b h = not-not (eqb_reflects (load start b) 0) (λ m.
      let none : b ≡ 0 = sym (load_rests start b m) ∙ start_support (load start b) in absurd (omega arith))

  pub start_loads : n ≤ held → Loads start (replicate 17 0)
  start_loads h = record {
    room = omega (arith, start_length, length-replicate {A = ℕ} 17 0);
    at = λ b l k. get_or-replicate 17 b 0 0 (omega (arith, start_length)) ∙ sym (no_load b l);
  }

-- the front of a list of zeros
pub take_zeros : (n k : ℕ) → n ≤ k → take n (replicate k 0) ≡ start n
take_zeros zero k h = refl
take_zeros (suc n) zero h = absurd (omega arith)
take_zeros (suc n) (suc k) h = ap (λ l. 0 ∷ l) (take_zeros n k (omega arith))
