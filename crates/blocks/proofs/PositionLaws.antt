-- Laws of in position and of the tests that methods ask: each test is true exactly where its notion holds. Assumes nothing.
use mathlib.Core.Path.{◌≡◌, refl, sym, ap, ◌∙◌, subst}
use mathlib.Core.Bool.{Bool, true, false, cond}
use Prim.Native.Nat.{ℕ, zero, suc, ◌+◌, ◌≤◌, ◌<◌}
use native.Mathlib.Omega.{arith}
use lib.ListN.{length}
use Rattle.blocks.specs.State.{State, Block, support, put, down, Clear}
use Rattle.blocks.specs.Position.{Proper, Problem, InPosition, Misplaced, in_position, misplaced_above}
use Rattle.blocks.specs.Move.{Legal, Constructive}
use Rattle.blocks.specs.Tests.{tower_agreesᵇ, first_right, position, is_right, in_positionᵇ, misplacedᵇ, waitingᵇ, readyᵇ, perchedᵇ}
use Rattle.blocks.specs.Stall.{Perched, Waiting}
use Rattle.lists.proofs.ReflectLaws.{Reflects, not-not, reflects_not, reflects_and, reflects_iff, eqb_reflects, leb_reflects}
use Rattle.blocks.proofs.AgreesLaws.{tower_test}
use Rattle.blocks.proofs.StateLaws.{support_outside, same_supports, down_suc, down_add, down_table}
use Rattle.blocks.proofs.ClearLaws.{clear_test}
use Rattle.blocks.proofs.FrameLaws.{support_moved, position_frame}

-- ---- in position

pub position_table : (s g : State) → InPosition s g 0
position_table s g = record { agrees = λ k. ap (support s) (down_table s k) ∙ ap (support g) (sym (down_table s k)) }

-- a block in position has beneath it what it has in the goal
pub position_down : (s g : State) (b : ℕ) → InPosition s g b → (k : ℕ) → down s k b ≡ down g k b
position_down s g b i zero = refl
position_down s g b i (suc k) =
    down_suc s k b ∙ i.agrees k ∙ ap (support g) (position_down s g b i k) ∙ sym (down_suc g k b)

-- what is beneath a block in position is in position
pub position_beneath : {s g : State} {b : ℕ} → InPosition s g b → (k : ℕ) → InPosition s g (down s k b)
position_beneath {s} {g} {b} i k =
    record { agrees = λ j. ap (support s) (sym (down_add s j k b)) ∙ i.agrees (j + k) ∙ ap (support g) (down_add s j k b) }

-- a block that rests on its goal support, which is in position, is in position
pub position_on : {s g : State} {b : ℕ} → support s b ≡ support g b → InPosition s g (support s b) → InPosition s g b
position_on {s} {g} {b} e i = record { agrees = at }
  where
    at : (k : ℕ) → support s (down s k b) ≡ support g (down s k b)
    at zero = e
    at (suc k) = i.agrees k

-- in the goal every block is in position
pub position_goal : (g : State) (b : ℕ) → InPosition g g b
position_goal g b = record { agrees = λ k. refl }

-- where every block is in position the state is the goal
pub all_positions : (s g : State) → length g ≡ length s → ((b : ℕ) → InPosition s g b) → s ≡ g
all_positions s g e h = same_supports s g (sym e) (λ b. (h b).agrees 0)

-- a misplaced block is a block
pub misplaced_block : {s g : State} {b : ℕ} → length g ≡ length s → Misplaced s g b → Block s b
misplaced_block {s} {g} {b} e m = record { low = lower b m; high = not-not (leb_reflects b (length s)) (λ n. m (outside (omega (arith, n)))) }
  where
    lower : (c : ℕ) → Misplaced s g c → 1 ≤ c
    lower zero n = absurd (n (position_table s g))
    lower (suc c) n = omega arith

    outside : length s < b → InPosition s g b
    outside h =
        let u : support s b ≡ 0 = support_outside s b h in
        position_on (u ∙ sym (support_outside g b (omega (arith, e)))) (rw u (position_table s g))

-- after a constructive move the block is in position
pub position_moved : {s g : State} {a x : ℕ} → Constructive s g a x → InPosition (put s a x) g a
position_moved {s} {g} {a} {x} c =
    position_on (support_moved c.legal ∙ c.home) (rw (support_moved c.legal) (position_frame c.legal c.legal.apart c.position))

-- ---- the tests

-- it decides which of its two answers the position test gives
pub position_test : (s g : State) → Proper s → (b : ℕ) → Reflects (InPosition s g b) (in_positionᵇ s g b)
unfolding in_positionᵇ position
position_test s g p b = subst (Reflects (InPosition s g b)) (by (tower_agreesᵇ s g b)) (tower_test s g p b)
  where
    by : (t : Bool) → t ≡ is_right (cond t in_position (misplaced_above (first_right s g (length s) (support g b))))
    by true = refl
    by false = refl

pub misplaced_test : (s g : State) → Proper s → (b : ℕ) → Reflects (Misplaced s g b) (misplacedᵇ s g b)
unfolding misplacedᵇ
misplaced_test s g p b = reflects_not (position_test s g p b)

pub waiting_test : (s g : State) → Proper s → (b : ℕ) → Reflects (Waiting s g b) (waitingᵇ s g b)
unfolding waitingᵇ
waiting_test s g p b = reflects_and (misplaced_test s g p b) (clear_test s b)

pub perched_test : (s g : State) → Proper s → (b : ℕ) → Reflects (Perched s g b) (perchedᵇ s g b)
unfolding perchedᵇ
perched_test s g p b = reflects_and (waiting_test s g p b) (reflects_not (eqb_reflects (support s b) 0))

-- a misplaced clear block whose goal support is clear and in position has a constructive move
pub ready_constructive : {s g : State} {b : ℕ} → Problem s g → Waiting s g b → Clear s (support g b) → InPosition s g (support g b) → Constructive s g b (support g b)
ready_constructive {s} {g} {b} p w c i = record { legal = legal; misplaced = w.0; home = refl; position = i }
  where
    legal : Legal s b (support g b)
    legal =
        record {
          block = misplaced_block p.same w.0;
          inside = omega (arith, p.goal.entries b, p.same);
          clear = w.1;
          free = c;
          apart = λ e. w.0 (rw e at i);
          changes = λ e. w.0 (position_on (sym e) (rw (sym e) i));
        }

pub ready_test : (s g : State) → Problem s g → (b : ℕ) → Reflects (Constructive s g b (support g b)) (readyᵇ s g b)
unfolding readyᵇ
ready_test s g p b =
    reflects_iff
    (λ h. ready_constructive p h.0 h.1.0 h.1.1)
    (λ c. ((c.misplaced, c.legal.clear), (c.legal.free, c.position)))
    (reflects_and (waiting_test s g p.initial b) (reflects_and (clear_test s (support g b)) (position_test s g p.initial (support g b))))
