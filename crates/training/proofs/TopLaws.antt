-- The climb to the top of a tower, and the tops by the loads. Assumes nothing.
use Rattle.std.proofs.Common.{Option}
use mathlib.Core.Path.{◌≡◌, sym, ap, ◌∙◌, subst}
use mathlib.Core.Logic.{◌≢◌}
use mathlib.Core.Bool.{Bool, true, false, not, ◌&&◌, ◌||◌, cond, and_comm}
use mathlib.Core.List.{List}
use Prim.Native.Nat.{ℕ, zero, suc, pred, ◌+◌, ◌-◌, ◌≤◌, ◌<◌}
use native.Mathlib.Omega.{arith}
use lib.Dec.{eqb}
use lib.ListN.{length, get_or}
use Rattle.blocks.specs.State.{State, Block}
use Rattle.lists.specs.Search.{count, nonzero}
use Rattle.blocks.specs.Tests.{load, clearᵇ}
use Rattle.blocks.specs.Loop.{top}
use Rattle.lists.proofs.ReflectLaws.{to_true, to_false, eqb_reflects}
use Rattle.lists.proofs.SearchLaws.{lowest_ext, count_ext}
use Rattle.blocks.proofs.ClearLaws.{load_block}
use Rattle.training.specs.Arrangement.{nth, picked, other_topᵇ}
use Rattle.training.specs.Placing.{freeᵇ, Known}

-- by the loads a block is clear where its entry is 0
clear_by : (s : State) (c : ℕ) → 1 ≤ c → clearᵇ s c ≡ eqb (load s c) 0
unfolding clearᵇ
clear_by s c h = ap (λ u. u || eqb (load s c) 0) (to_false (eqb_reflects c 0) (λ z. absurd (omega arith)))

-- i of n steps of the climb from b are taken, and it is at c
pub record Climbing (s : State) (b n i c : ℕ) : Type 0 where
  pub block : Block s c
  pub same : top s (n - i) c ≡ top s (length s) b

module _ {s : State} {l : List ℕ} {b n i c x : ℕ} (v : Known s l b) (w : Climbing s b n i c) (e : x ≡ get_or l c 0) where
  is : x ≡ load s c
  is = e ∙ v.loads.at c w.block.low w.block.high

  pub climb_top : i < n → x ≡ 0 → c ≡ top s (length s) b
  unfolding top
  climb_top h z = by (n - i) (omega arith) w.same
    where
      by : (j : ℕ) → 0 < j → top s j c ≡ top s (length s) b → c ≡ top s (length s) b
      by zero a f = absurd (omega arith)
      by (suc j) a f =
          let clear : clearᵇ s c ≡ true = clear_by s c w.block.low ∙ to_true (eqb_reflects (load s c) 0) (sym is ∙ z) in
          ap (λ t. cond t c (top s j (load s c))) (sym clear) ∙ f

  pub climb_next : i < n → ¬ (x ≡ 0) → Climbing s b n (i + 1) x
  unfolding top
  climb_next h m = record {
    block = subst (Block s) (sym is) (load_block s c loaded);
    same = by (n - i) (omega arith) w.same;
  }
    where
      loaded : load s c ≢ 0
      loaded z = m (is ∙ z)

      by : (j : ℕ) → n - i ≡ j → top s j c ≡ top s (length s) b → top s (n - (i + 1)) x ≡ top s (length s) b
      by zero a f = absurd (omega arith)
      by (suc j) a f =
          let busy : clearᵇ s c ≡ false = clear_by s c w.block.low ∙ to_false (eqb_reflects (load s c) 0) loaded in
          let less : n - (i + 1) ≡ j = omega arith in
          ap (λ k. top s k x) less ∙ ap (top s j) is ∙ ap (λ t. cond t c (top s j (load s c))) (sym busy) ∙ f

pub climb_end : {s : State} {b n i c : ℕ} → Climbing s b n i c → n ≤ i → c ≡ top s (length s) b
unfolding top
climb_end {s} {b} {n} {i} {c} w h = ap (λ k. top s k c) (let e : 0 ≡ n - i = omega arith in e) ∙ w.same

nth_ext : (P Q : ℕ → Bool) (n q : ℕ) → ((c : ℕ) → 1 ≤ c → c ≤ n → P c ≡ Q c) → nth P n q ≡ nth Q n q
unfolding nth
nth_ext P Q n q h =
    lowest_ext (λ t. P t && eqb (count P (pred t)) q) (λ t. Q t && eqb (count Q (pred t)) q) n
    (λ c l k. ap (λ u. u && eqb (count P (pred c)) q) (h c l k)
    ∙ ap (λ u. Q c && eqb u q) (count_ext P Q (pred c) (λ d a b. h d a (omega arith))))

-- the tops other than b's own, by the loads
pub picked_by : {s : State} {l : List ℕ} {b own : ℕ} (q : ℕ) (r : Option ℕ) → Known s l b → own ≡ top s (length s) b → r ≡ nonzero (nth (freeᵇ l own) (length s) q)
    → r ≡ nonzero (picked s b q)
unfolding picked other_topᵇ
picked_by {s} {l} {b} {own} q r v e f =
    f ∙ ap nonzero (nth_ext (freeᵇ l own) (λ t. clearᵇ s t && not (eqb t (top s (length s) b))) (length s) q
    (λ c a k. ap (λ x. not (eqb c own) && eqb x 0) (v.loads.at c a k)
    ∙ ap (λ u. not (eqb c own) && u) (sym (clear_by s c a))
    ∙ ap (λ o. not (eqb c o) && clearᵇ s c) e
    ∙ and_comm (not (eqb c (top s (length s) b))) (clearᵇ s c)))
