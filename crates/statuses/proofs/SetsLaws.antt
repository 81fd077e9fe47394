-- Filling the two sets: below the block b they hold their tests, and from it on nothing; no number but a block passes a test. Assumes nothing.
use Prim.Native.Nat.{ℕ, ◌+◌, ◌≤◌, ◌<◌}
use mathlib.Core.Path.{◌≡◌, sym, ap, ◌∙◌}
use mathlib.Core.Logic.{◌⊎◌, inl, inr}
use mathlib.Core.Bool.{Bool, false, cond, true≢false}
use mathlib.Core.List.{List}
use native.Mathlib.Omega.{arith}
use lib.ListN.{length}
use borrow.Author.Tests.{ne_eqb}
use Rattle.blocks.specs.State.{State, Block}
use Rattle.blocks.specs.Position.{Problem, Misplaced}
use Rattle.blocks.specs.Tests.{readyᵇ}
use Rattle.lists.proofs.ReflectLaws.{Reflects, to_false, decided, ltb_reflects}
use Rattle.blocks.proofs.PositionLaws.{misplaced_block, ready_test, perched_test, waiting_test}
use Rattle.numberset.specs.Members.{member, Empty, Assigned, limit}
use Rattle.rows.specs.Rows.{Yard}
use Rattle.towers.specs.Linked.{Known}
use Rattle.statuses.specs.Modes.{looseᵇ}
use Rattle.statuses.specs.Kept.{Holds, SetsHold, Admissible, Refreshed}
use Rattle.statuses.specs.declared.Mode.{Mode}
use Rattle.statuses.specs.declared.Sets.{Sets}
use Rattle.statuses.proofs.LooseLaws.{loose_by}
use Rattle.statuses.proofs.RefreshLaws.{again}

-- ---- one set

pub record Below (l : List ℕ) (test : ℕ → Bool) (b : ℕ) : Type 0 where
  pub done : (y : ℕ) → y < limit → y < b → member l y ≡ test y
  pub rest : (y : ℕ) → y < limit → b ≤ y → member l y ≡ false

module _ {test : ℕ → Bool} where
  below_begin : {l : List ℕ} → test 0 ≡ false → Empty l → Below l test 1
  below_begin e w = record { done = λ y _ h. w.none y ∙ sym (ap test (omega arith) ∙ e); rest = λ y _ _. w.none y }

  below_next : {l l' : List ℕ} {b : ℕ} → Below l test b → Assigned l b (test b) l' → Below l' test (b + 1)
  below_next {l} {l'} {b} w r = record {
    done = λ y k h. again test r y k (λ n. w.done y k (omega (arith, n)));
    rest = λ y k h. r.members y k ∙ ap (λ t. cond t (test b) (member l y)) (ne_eqb y b (λ e. omega arith)) ∙ w.rest y k (omega arith);
  }

  below_end : {l : List ℕ} {b : ℕ} → Below l test b → ((c : ℕ) → b ≤ c → test c ≡ false) → Holds l test
  below_end {l} {b} w none = record { same = λ y k. by y k (decided (ltb_reflects y b)) }
    where
      by : (y : ℕ) → y < limit → (y < b) ⊎ (¬ (y < b)) → member l y ≡ test y
      by y k (inl h) = w.done y k h
      by y k (inr n) = w.rest y k (omega (arith, n)) ∙ sym (none y (omega (arith, n)))

-- ---- the tests

module _ {s g : State} (p : Problem s g) (c : ℕ) (outside : ¬ Block s c) where
  no_block : {A : Type 0} {t : Bool} → Reflects A t → (A → Misplaced s g c) → t ≡ false
  no_block r f = to_false r (λ x. outside (misplaced_block p.same (f x)))

  pub no_ready : readyᵇ s g c ≡ false
  no_ready = no_block (ready_test s g p c) (λ r. r.misplaced)

  pub no_loose : (k : Mode) → looseᵇ k s g c ≡ false
  no_loose k =
      loose_by k s g c (λ t. t ≡ false) (no_block (perched_test s g p.initial c) (λ r. r.0.0)) (no_block (waiting_test s g p.initial c) (λ r. r.0))

pub table_outside : {s : State} → ¬ Block s 0
table_outside b = omega (arith, b.low)

high_outside : {s : State} (c : ℕ) → length s < c → ¬ Block s c
high_outside c h b = omega (arith, b.high)

-- ---- the loop: the blocks below b have been decided

pub record Filling (m : Mode) (s g : State) (y : Yard) (b : ℕ) (z : Sets) : Type 0 where
  pub known : Known s g y
  pub ready : Below z.ready (readyᵇ s g) b
  pub loose : Below z.loose (looseᵇ m s g) b

pub filling_begin : {m : Mode} {s g : State} {y : Yard} {z : Sets} → Known s g y → Empty z.ready → Empty z.loose → Filling m s g y 1 z
filling_begin {m} w er el = record {
  known = w;
  ready = below_begin (no_ready w.problem 0 table_outside) er;
  loose = below_begin (no_loose w.problem 0 table_outside m) el;
}

module _ {m : Mode} {s g : State} {y : Yard} {z : Sets} {b : ℕ} (w : Filling m s g y b z) where
  pub admissible : b ≤ length s → Admissible m s g y z b
  admissible h =
      let low : b < limit = omega (arith, w.known.small) in
      record {
        known = w.known;
        high = h;
        ready_sound = λ e. absurd (true≢false (sym e ∙ w.ready.rest b low (omega arith)));
        loose_sound = λ e. absurd (true≢false (sym e ∙ w.loose.rest b low (omega arith)));
      }

  pub filling_next : {z' : Sets} → Refreshed m s g b z z' → Filling m s g y (b + 1) z'
  filling_next r = record { known = w.known; ready = below_next w.ready r.ready; loose = below_next w.loose r.loose }

  pub filling_end : length s < b → SetsHold m s g z
  filling_end h = record {
    ready = below_end w.ready (λ c k. no_ready w.known.problem c (high_outside c (omega arith)));
    loose = below_end w.loose (λ c k. no_loose w.known.problem c (high_outside c (omega arith)) m);
  }
