-- Filling the loads of a state (question 5): a list of zeros, the test of one entry, and what the loop knows after i entries. Assumes nothing.
use Prim.Native.Nat.{ℕ, zero, suc, ◌+◌, ◌≤◌, ◌<◌}
use mathlib.Core.Path.{◌≡◌, refl, sym, ap, ◌∙◌, subst}
use mathlib.Core.Bool.{Bool, true, false, not, ◌&&◌}
use mathlib.Core.List.{List}
use mathlib.Core.Logic.{◌⊎◌, inl, inr}
use native.Mathlib.Omega.{arith}
use native.Mathlib.Numerals.{add-one}
use borrow.Author.Tests.{ltb-false, eqb-true, not-false, eq-eqb, ne_eqb}
use lib.Dec.{ltb, eqb}
use lib.ListN.{length, get_or, set, length-set}
use lib.Seq.{get_or-set_same, get_or-set_other}
use Rattle.problem.specs.Known.{Fillable, Filled}
use Rattle.blocks.specs.State.{State, most, support}
use Rattle.std.specs.Prelude.{Some, None}
use Rattle.lists.specs.Search.{lowest, or_else}
use Rattle.blocks.specs.Tests.{load}
use Rattle.blocks.specs.Question.{outsideᵇ, first_outside, sharedᵇ, first_shared}
use Rattle.lists.proofs.ScanLaws.{Scanned, scan_begin, scan_next, scan_found, scan_none}
use Rattle.lists.proofs.SearchLaws.{lowest_none}
use Rattle.problem.proofs.CountLaws.{found_at, found_none}
use Rattle.lists.proofs.ReflectLaws.{same?}

-- ---- the test of one entry

-- ---- the loads of the blocks from 1 to i are filled in, and none of these shares a support with a lower one

pub record Filling (s : State) (l₀ : List ℕ) (n : ℕ) (l : List ℕ) (i : ℕ) : Type 0 where
  pub all : n ≡ length s
  pub small : length s ≤ most
  pub same : length l ≡ length l₀
  pub room : length s < length l
  pub entries : first_outside s ≡ 0
  pub scanned : Scanned (sharedᵇ s) (length s) i
  pub at : (b : ℕ) → 1 ≤ b → b ≤ length s → get_or l b 0 ≡ lowest (λ c. eqb (support s c) b) i

pub filling_begin : {s : State} {l : List ℕ} {n : ℕ} → Fillable s l → n ≡ length s → Filling s l n l 0
unfolding lowest
filling_begin {s} {l} {n} f e = record {
  all = e;
  small = f.small;
  same = refl;
  room = omega (arith, f.small, f.blank.room);
  entries = f.entries;
  scanned = scan_begin (sharedᵇ s) (length s);
  at = λ b h g. f.blank.zeros.at b;
}

or_none : (r : ℕ) → r ≡ or_else r 0
or_none zero = refl
or_none (suc r) = refl

module _ {s : State} {l₀ l : List ℕ} {n i x : ℕ} (w : Filling s l₀ n l i) (h : i < n) (e : x ≡ get_or s i 0) where
  entry_le : x ≤ length s
  unfolding first_outside outsideᵇ
  entry_le = omega (arith, ltb-false (length s) (get_or s i 0) fine)
    where
      fine : ltb (length s) (get_or s i 0) ≡ false
      fine = lowest_none (outsideᵇ s) (length s) w.entries (suc i) (omega arith) (omega (arith, w.all))

  pub entry_in : x < length l
  entry_in = omega (arith, entry_le, w.room)

  -- what the test of one entry says of the next block
  next_shares : (not (eqb x 0) && not (eqb (get_or l x 0) 0)) ≡ sharedᵇ s (suc i)
  unfolding sharedᵇ
  next_shares = rw (← e) (go (same? x 0))
    where
      go : (x ≡ 0) ⊎ (¬ (x ≡ 0)) → (not (eqb x 0) && not (eqb (get_or l x 0) 0)) ≡ (not (eqb x 0) && not (eqb (lowest (λ c. eqb (support s c) x) i) 0))
      go (inl z) = rw (eq-eqb x 0 z)
      go (inr m) = rw (w.at x (omega (arith, m)) entry_le)

  module _ {t : Bool} (is : t ≡ (not (eqb x 0) && not (eqb (get_or l x 0) 0))) where
    pub filling_found : t ≡ true → Filled s (Some (i + 1)) l
    unfolding first_shared
    filling_found p = record {
      place_is = found_at i (scan_found w.scanned (omega (arith, w.all)) (sym next_shares ∙ (sym is ∙ p)));
      loads = λ z. cc;
    }

    pub filling_next : t ≡ false → Filling s l₀ n (set l x (i + 1)) (i + 1)
    unfolding lowest
    filling_next p = record {
      all = w.all;
      small = w.small;
      same = length-set l x (i + 1) ∙ w.same;
      room = rw length-set w.room;
      entries = w.entries;
      scanned = scan_next w.scanned (omega (arith, w.all)) (sym next_shares ∙ (sym is ∙ p));
      at = λ b low high. rw (add-one i) (go b low high (same? b x));
    }
      where
        -- nothing rested on x
        free : 1 ≤ x → lowest (λ c. eqb (support s c) x) i ≡ 0
        free low =
            let shut : not (eqb (get_or l x 0) 0) ≡ false = rw (ne_eqb x 0 (omega arith)) at (sym is ∙ p) in
            sym (w.at x low entry_le) ∙ eqb-true (get_or l x 0) 0 (not-false (eqb (get_or l x 0) 0) shut)

        go : (b : ℕ) → 1 ≤ b → b ≤ length s → (b ≡ x) ⊎ (¬ (b ≡ x)) → get_or (set l x (suc i)) b 0 ≡ lowest (λ c. eqb (support s c) b) (suc i)
        go b low high (inl q) =
            subst (λ (z : ℕ). get_or (set l x (suc i)) z 0 ≡ lowest (λ c. eqb (support s c) z) (suc i)) (sym q)
            (rw (free (omega arith), eq-eqb (get_or s i 0) x (sym e)) (get_or-set_same l x (suc i) 0 entry_in))
        go b low high (inr m) =
            rw (ne_eqb (get_or s i 0) b (λ q. m (sym q ∙ sym e)))
            (get_or-set_other l x b (suc i) 0 m ∙ (w.at b low high ∙ or_none (lowest (λ c. eqb (support s c) b) i)))

pub filling_end : {s : State} {l₀ l : List ℕ} {n i : ℕ} → Filling s l₀ n l i → n ≤ i → Filled s None l
unfolding first_shared load
filling_end {s} {l₀} {l} {n} {i} w h = record {
  place_is = found_none (scan_none w.scanned (omega (arith, w.all)));
  loads = λ z. record { room = w.room; at = λ b low high. w.at b low high ∙ ap (lowest (λ c. eqb (support s c) b)) e };
}
  where
    e : i ≡ length s
    e = omega (arith, w.all, w.scanned.within)
