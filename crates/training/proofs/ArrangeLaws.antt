-- All blocks taken in order, and the state at the front of the lent list. Assumes nothing.
use mathlib.Core.Path.{◌≡◌, sym, ap, ◌∙◌, subst}
use mathlib.Core.List.{List, ◌++◌}
use Prim.Native.Nat.{ℕ, zero, suc, ◌-◌, ◌≤◌, ◌<◌}
use native.Mathlib.Omega.{arith}
use lib.ListN.{length, take, drop, replicate}
use Rattle.lists.specs.Lists.{overwrite}
use Rattle.blocks.specs.State.{State}
use Rattle.training.specs.Arrangement.{finish, arrangement}
use Rattle.training.specs.Placing.{Placing, part_of, Placed, Numbered}
use Rattle.training.specs.declared.Progress.{Progress}
use Rattle.training.proofs.StartLaws.{start, start_length, start_open, start_loads, take_zeros}
use Rattle.training.proofs.NumberLaws.{arrangement_length}

-- ---- the loop

-- a number at the start
abbrev whole : ℕ → Progress
whole r = record { grounded = 0; rest = r }

-- m blocks are left of those of s₀
pub record Going (s₀ : State) (l₀ : List ℕ) (r m : ℕ) (p : Progress) (s : State) (l : List ℕ) : Type 0 where
  pub same : length s ≡ length s₀
  pub rows : length l ≡ length l₀
  pub within : m ≤ length s₀
  pub placing : Placing m p.grounded p.rest s l
  pub comes : finish m (part_of p s) ≡ finish (length s₀) (part_of (whole r) s₀)

module _ {s₀ : State} {l₀ : List ℕ} {r m : ℕ} {p : Progress} {s : State} {l : List ℕ} (w : Going s₀ l₀ r m p s l) where
  pub going_next : {q : Progress} {t : State} {k : List ℕ} → 0 < m → length k ≡ length l → Placed (m - 1) p s q t k → Going s₀ l₀ r (m - 1) q t k
  unfolding finish
  going_next {q} {t} {k} h f v = record {
    same = v.same ∙ w.same;
    rows = f ∙ w.rows;
    within = omega (arith, w.within);
    placing = v.placing;
    comes = ap (finish (m - 1)) v.is ∙ ap (λ i. finish i (part_of p s)) (let e : suc (m - 1) ≡ m = omega arith in e) ∙ w.comes;
  }

pub going_end : {s₀ : State} {l₀ : List ℕ} {r : ℕ} (m : ℕ) {p : Progress} {s : State} {l : List ℕ} → Going s₀ l₀ r m p s l → m ≤ 0
    → s ≡ finish (length s₀) (part_of (record { grounded = 0; rest = r }) s₀)
unfolding finish
going_end zero w h = w.comes
going_end (suc m) w h = absurd (omega arith)

-- ---- the whole

-- the local list of which the first n entries are the state
abbrev room : ℕ → State
room n = take n (replicate 16 0)

module _ {n r : ℕ} {out : List ℕ} (w : Numbered n r out) where
  room_is : room n ≡ start n
  room_is = take_zeros n 16 w.small

  room_length : length (room n) ≡ n
  room_length = ap length room_is ∙ start_length n

  pub start_placing : Placing (length (room n)) 0 r (room n) (replicate 17 0)
  start_placing = subst (λ s. Placing (length s) 0 r s (replicate 17 0)) (sym room_is) (subst (λ k. Placing k 0 r (start n) (replicate 17 0)) (sym (start_length n)) (record {
    small = omega (arith, start_length n, w.small);
    part = start_open n;
    number = w.number;
    loads = start_loads n w.small;
  }))

  module _ {s : List ℕ} (e : s ≡ finish (length (room n)) (part_of (record { grounded = 0; rest = r }) (room n))) where
    arranged : s ≡ arrangement n r
    unfolding arrangement
    arranged = e ∙ ap (λ k. finish k (part_of (whole r) (room n))) room_length ∙ ap (λ t. finish n (part_of (whole r) t)) room_is

    pub arrange_whole : {t : List ℕ} → t ≡ s → t ++ drop n out ≡ overwrite (arrangement n r) out
    arrange_whole {t} f = ap (λ l. l ++ drop n out) (f ∙ arranged) ∙ ap (λ k. arrangement n r ++ drop k out) (sym (arrangement_length n r))
