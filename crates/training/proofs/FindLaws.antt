-- A scan for number q of the passing numbers: what the loop knows that has passed the numbers from 1 to i, c of which pass. Assumes nothing.
use Rattle.std.proofs.Common.{Some, None, arith}
use mathlib.Core.Path.{◌≡◌, refl, sym, ap, ◌∙◌, subst}
use mathlib.Core.Bool.{Bool, true, false, ◌&&◌}
use Prim.Native.Nat.{ℕ, suc, pred, ◌+◌, ◌≤◌, ◌<◌}
use native.Mathlib.Nat.{add-zero}
use native.Mathlib.Numerals.{add-one}
use lib.Dec.{eqb}
use Rattle.lists.specs.Search.{count, nonzero}
use Rattle.lists.proofs.NonzeroLaws.{nonzero_none, nonzero_some}
use Rattle.lists.proofs.ReflectLaws.{to_true, to_false, eqb_reflects}
use Rattle.lists.proofs.ScanLaws.{Scanned, scan_begin, scan_next, scan_found, scan_none, Counted, counted_begin, counted_next}
use Rattle.training.specs.Arrangement.{nth}

-- number q and no other
abbrev isᵇ : (ℕ → Bool) → ℕ → ℕ → Bool
isᵇ P q t = P t && eqb (count P (pred t)) q

-- the numbers below t are passed, and c of them pass the test
pub record Finding (P : ℕ → Bool) (n q t c : ℕ) : Type 0 where
  pub i : ℕ
  pub at : t ≡ suc i
  pub counted : Counted P n c i
  pub scanned : Scanned (isᵇ P q) n i

module _ (P : ℕ → Bool) (n q : ℕ) where
  pub find_begin : Finding P n q 1 0
  find_begin = record { i = 0; at = refl; counted = counted_begin P; scanned = scan_begin (isᵇ P q) n }

  module _ {t c : ℕ} {u : Bool} (w : Finding P n q t c) (l : t < n + 1) (is : u ≡ P t) where
    here : u ≡ P (suc w.i)
    here = is ∙ ap P w.at

    -- it is number q
    pub find_is : u ≡ true → c ≡ q → Some t ≡ nonzero (nth P n q)
    unfolding nth
    find_is e f =
        nonzero_some t (λ z. absurd (omega (arith, w.at, z)))
        ∙ ap nonzero (w.at ∙ sym (add-one w.i) ∙ scan_found w.scanned (omega (arith, w.at)) (rw (sym here ∙ e) (to_true (eqb_reflects (count P w.i) q) (sym w.counted.is ∙ f))))

    -- it passes and is another
    pub find_past : u ≡ true → ¬ (c ≡ q) → Finding P n q (t + 1) (c + 1)
    find_past e f =
        record {
          i = w.i + 1;
          at = omega (arith, w.at);
          counted = counted_next true w.counted (omega (arith, w.at)) (sym e ∙ here);
          scanned = scan_next w.scanned (omega (arith, w.at)) (rw (sym here ∙ e) (to_false (eqb_reflects (count P w.i) q) (λ g. f (w.counted.is ∙ g))));
        }

    -- it does not pass
    pub find_over : u ≡ false → Finding P n q (t + 1) c
    find_over e =
        record {
          i = w.i + 1;
          at = omega (arith, w.at);
          counted = subst (λ x. Counted P n x (w.i + 1)) (add-zero c) (counted_next false w.counted (omega (arith, w.at)) (sym e ∙ here));
          scanned = scan_next w.scanned (omega (arith, w.at)) (rw (sym here ∙ e) refl);
        }

  pub find_none : {t c : ℕ} → Finding P n q t c → n + 1 ≤ t → None ≡ nonzero (nth P n q)
  unfolding nth
  find_none w h = nonzero_none (sym (scan_none w.scanned (omega (arith, w.at))))
