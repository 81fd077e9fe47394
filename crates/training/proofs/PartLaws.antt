-- Part-states: what holds of one, what one block more makes of it, and that what is settled stays. Assumes nothing.
use mathlib.Core.Path.{◌≡◌, refl, ap, ◌∙◌}
use mathlib.Core.Logic.{◌≢◌}
use mathlib.Core.Bool.{Bool, true, false, cond}
use Prim.Native.Nat.{ℕ, zero, suc, ◌+◌, ◌-◌, ◌*◌, ◌/◌, ◌%◌, ◌≤◌, ◌<◌}
use native.Mathlib.Omega.{arith}
use native.Mathlib.Nat.{mod-lt, mod-eq_of_lt, div-add-mod', div-eq_of_lt, div-lt_iff_lt-mul, mul-add-div_right, mul-add-mod_self_right}
use lib.Dec.{ltb}
use lib.ListN.{length}
use Rattle.blocks.specs.State.{State, Block, support, put, Clear}
use Rattle.lists.specs.Search.{count}
use Rattle.blocks.specs.Loop.{top}
use Rattle.lists.proofs.ReflectLaws.{Reflects, holds, fails, to_true, to_false, from_true, ltb_reflects}
use Rattle.blocks.proofs.StateLaws.{length-put, support_put_other}
use Rattle.counts.specs.Ways.{ways}
use Rattle.counts.proofs.WaysLaws.{ways_some}
use Rattle.training.specs.Placing.{Open}
use Rattle.training.specs.Arrangement.{picked, other_topᵇ, PartState, ground, stack, next, finish}
use Rattle.training.proofs.NthLaws.{Ranked, nth_is, nth_ranked}
use Rattle.training.proofs.StackLaws.{other_reflects, others_count, stack_proper, stack_tops}

-- ---- the next block

-- the next block
abbrev pub turn : ℕ → State → ℕ
turn m s = length s - m

pub turn_block : {m k : ℕ} {s : State} → Open (suc m) k s → Block s (turn m s)
turn_block o = record { low = omega (arith, o.left); high = omega arith }

pub open_ground : {m k : ℕ} {s : State} → Open (suc m) k s → Open m (k + 1) s
open_ground o = record { proper = o.proper; left = omega (arith, o.left); loose = λ c h. o.loose c (omega (arith, o.left)); tops = omega (arith, o.tops) }

-- "(n + k)": so many other towers
pub others : {m k : ℕ} {s : State} → Open (suc m) k s → count (other_topᵇ s (turn m s)) (length s) ≡ m + k
others o = omega (arith, o.tops, others_count o.proper (turn_block o))

module _ {m k : ℕ} {s : State} (o : Open (suc m) k s) {q t : ℕ} (w : Ranked (other_topᵇ s (turn m s)) (length s) q t) where
  pub target : Block s t
  target = record { low = w.low; high = w.high }

  pub other : Clear s t × (t ≢ top s (length s) (turn m s))
  other = from_true (other_reflects s (turn m s) t) w.passes

  pub on_table : support s (turn m s) ≡ 0
  on_table = o.loose (turn m s) (omega (arith, o.left))

  pub open_stack : Open m k (put s (turn m s) t)
  open_stack =
      record {
        proper = stack_proper o.proper (turn_block o) target on_table other.0 other.1;
        left = omega (arith, o.left, length-put s (turn m s) t);
        loose = λ c h. support_put_other s (turn m s) t c (omega (arith, length-put s (turn m s) t)) ∙ o.loose c (omega (arith, length-put s (turn m s) t));
        tops = rw (length-put s (turn m s) t) (omega (arith, o.tops, stack_tops o.proper (turn_block o) target on_table other.0 other.1));
      }

-- ---- what is settled stays

abbrev pub at : ℕ → ℕ → State → PartState
at k r s = record { grounded = k; rest = r; state = s }

-- t is a state of the same blocks and has the supports of s up to block i
pub record Keeps (i : ℕ) (s t : State) : Type 0 where
  pub same : length t ≡ length s
  pub settled : (c : ℕ) → c ≤ i → support t c ≡ support s c

pub finish_keeps : (m : ℕ) (p : PartState) → m ≤ length p.state → Keeps (length p.state - m) p.state (finish m p)
unfolding finish next
finish_keeps zero p h = record { same = refl; settled = λ c l. refl }
finish_keeps (suc m) p h = by (ltb p.rest (ways m (p.grounded + 1))) (λ q. finish_keeps m q)
  where
    s : State
    s = p.state

    grounds : Keeps (length s - m) s (finish m (ground p)) → Keeps (length s - suc m) s (finish m (ground p))
    grounds k = record { same = k.same; settled = λ c l. k.settled c (omega arith) }

    stacks : (t r : ℕ) → let new = put s (turn m s) t in let end = finish m (at p.grounded r new) in
        Keeps (length new - m) new end → Keeps (length s - suc m) s end
    stacks t r k = record {
      same = k.same ∙ length-put s (turn m s) t;
      settled = λ c l. k.settled c (omega (arith, length-put s (turn m s) t)) ∙ support_put_other s (turn m s) t c (omega arith);
    }

    by : (u : Bool) → ((q : PartState) → m ≤ length q.state → Keeps (length q.state - m) q.state (finish m q)) →
        Keeps (length s - suc m) s (finish m (cond u (ground p) (stack m p)))
    by true rest = grounds (rest (ground p) (omega arith))
    by false rest = stacks _ _ (rest (stack m p) (rw length-put (omega arith)))

-- ---- one block

-- what a number below the count comes to at the next block
pub data Step (m k : ℕ) (s : State) : ℕ → PartState → Type 0 where
  grounded : {r : ℕ} → r < ways m (k + 1) → Step m k s r (at (k + 1) r s)
  stacked : {r q t rest : ℕ} → r ≡ ways m (k + 1) + (q * ways m k + rest) → rest < ways m k → Ranked (other_topᵇ s (turn m s)) (length s) q t →
      Step m k s r (at k rest (put s (turn m s) t))

-- the tower that a number picks that does not put the next block on the table
pub picked_ranked : {m k : ℕ} {s : State} → Open (suc m) k s → (r : ℕ) → r < ways (suc m) k → ¬ (r < ways m (k + 1)) →
    let q = (r - ways m (k + 1)) / ways m k in Ranked (other_topᵇ s (turn m s)) (length s) q (picked s (turn m s) q)
unfolding ways picked
picked_ranked {m} {k} {s} o r h n =
    let below : (r - ways m (k + 1)) / ways m k < m + k = (div-lt_iff_lt-mul (ways_some m k)).1 (omega (arith, n)) in
    nth_ranked (other_topᵇ s (turn m s)) (length s) ((r - ways m (k + 1)) / ways m k) (omega (arith, others o))

pub step_of : {m k : ℕ} {s : State} → Open (suc m) k s → (r : ℕ) → r < ways (suc m) k → Step m k s r (next m (at k r s))
unfolding next
step_of {m} {k} {s} o r h = by (ltb_reflects r (ways m (k + 1)))
  where
    over : ℕ
    over = r - ways m (k + 1)

    by : {u : Bool} → Reflects (r < ways m (k + 1)) u → Step m k s r (cond u (ground (at k r s)) (stack m (at k r s)))
    by (holds l) = grounded l
    by (fails n) =
        stacked {r = r} {q = over / ways m k} {rest = over % ways m k} (omega (arith, n, div-add-mod' over (ways m k))) (mod-lt over (ways_some m k))
        (picked_ranked o r h n)

pub next_by : (m k r : ℕ) (s : State) → ¬ (r < ways m (k + 1)) → next m (at k r s) ≡ stack m (at k r s)
unfolding next
next_by m k r s h = ap (λ u. cond u (ground (at k r s)) (stack m (at k r s))) (to_false (ltb_reflects r (ways m (k + 1))) h)

-- and back
pub next_ground : (m k r : ℕ) (s : State) → r < ways m (k + 1) → next m (at k r s) ≡ at (k + 1) r s
unfolding next
next_ground m k r s h = ap (λ u. cond u (ground (at k r s)) (stack m (at k r s))) (to_true (ltb_reflects r (ways m (k + 1))) h)

pub next_stack : (m k : ℕ) (s : State) {q t : ℕ} (rest : ℕ) → Ranked (other_topᵇ s (turn m s)) (length s) q t → rest < ways m k →
    next m (at k (ways m (k + 1) + (q * ways m k + rest)) s) ≡ at k rest (put s (turn m s) t)
unfolding next picked
next_stack m k s {q} {t} rest w h =
    ap (λ u. cond u (ground p) (stack m p)) (to_false (ltb_reflects p.rest (ways m (k + 1))) (λ l. absurd (omega arith)))
    ∙ ap (λ d. stacks (d % ways m k) (d / ways m k)) over
    ∙ ap (λ d. stacks d ((q * ways m k + rest) / ways m k)) (mul-add-mod_self_right q (ways m k) rest ∙ mod-eq_of_lt h)
    ∙ ap (λ d. stacks rest d) (mul-add-div_right (ways_some m k) q rest ∙ quotient)
    ∙ ap (λ c. at k rest (put s (turn m s) c)) (nth_is (other_topᵇ s (turn m s)) (length s) q t w)
  where
    p : PartState
    p = at k (ways m (k + 1) + (q * ways m k + rest)) s

    stacks : ℕ → ℕ → PartState
    stacks r d = at k r (put s (turn m s) (picked s (turn m s) d))

    over : p.rest - ways m (k + 1) ≡ q * ways m k + rest
    over = omega arith

    quotient : q + rest / ways m k ≡ q
    quotient = omega (arith, div-eq_of_lt h)
