-- The position test names the first block in position beneath a misplaced one in the goal. Assumes nothing.
use mathlib.Core.Path.{◌≡◌, refl, sym, subst}
use mathlib.Core.Logic.{◌↔◌}
use mathlib.Core.Bool.{Bool, cond}
use Prim.Native.Nat.{ℕ, zero, suc, ◌≤◌, ◌<◌}
use native.Mathlib.Omega.{arith}
use lib.ListN.{length}
use Rattle.blocks.specs.State.{State, support, down}
use Rattle.blocks.specs.Position.{Problem, InPosition, Misplaced, Nearest, in_position, misplaced_above, Positioned, right, wrong}
use Rattle.blocks.specs.Tests.{first_right, position}
use Rattle.lists.proofs.ReflectLaws.{Reflects, holds, fails}
use Rattle.blocks.proofs.GroundLaws.{ground_bound}
use Rattle.blocks.proofs.PositionLaws.{position_table}
use Rattle.blocks.proofs.AgreesLaws.{tower_test}

-- r is the first block in position from b down b's goal tower
record First (s g : State) (b r : ℕ) : Type 0 where
  pub steps : ℕ
  pub reaches : down g steps b ≡ r
  pub right : InPosition s g r
  pub above : (i : ℕ) → i < steps → Misplaced s g (down g i b)

module _ {s g : State} (p : Problem s g) where
  first_is : (k b : ℕ) → down g k b ≡ 0 → First s g b (first_right s g k b)
  unfolding first_right
  first_is zero b e = record { steps = 0; reaches = e; right = position_table s g; above = λ i l. absurd (omega arith) }
  first_is (suc k) b e = go (tower_test s g p.initial b) (first_is k (support g b) e)
    where
      go : {t : Bool} → Reflects (InPosition s g b) t → First s g (support g b) (first_right s g k (support g b))
          → First s g b (cond t b (first_right s g k (support g b)))
      go (holds i) f = record { steps = 0; reaches = refl; right = i; above = λ i l. absurd (omega arith) }
      go (fails n) f = record { steps = suc f.steps; reaches = f.reaches; right = f.right; above = above }
        where
          above : (i : ℕ) → i < suc f.steps → Misplaced s g (down g i b)
          above zero l = n
          above (suc i) l = f.above i (omega arith)

  -- the answer is true of every block
  pub position_is : (b : ℕ) → Positioned s g b (position s g b)
  unfolding position
  position_is b = go (tower_test s g p.initial b)
    where
      c : ℕ
      c = first_right s g (length s) (support g b)

      f : First s g (support g b) (first_right s g (length s) (support g b))
      f =
          let ground = ground_bound g p.goal.entries (support g b) (p.goal.entries b) (p.goal.grounded (support g b)) in
          first_is (length s) (support g b) (rw p.same at ground)

      between : Misplaced s g b → (i : ℕ) → i ≤ f.steps → Misplaced s g (down g i b)
      between n zero h = n
      between n (suc i) h = f.above i h

      go : {t : Bool} → Reflects (InPosition s g b) t → Positioned s g b (cond t in_position (misplaced_above (first_right s g (length s) (support g b))))
      go (holds i) = right i
      go (fails n) = wrong (record { steps = f.steps; beneath = f.reaches; right = f.right; between = between n })

-- where the blocks beneath stand in t as they stand in s, c is the same
pub nearest_alike : {s t g : State} {b c : ℕ} → Misplaced t g b → ((j : ℕ) → InPosition s g (down g (suc j) b) ↔ InPosition t g (down g (suc j) b))
    → Nearest s g b c → Nearest t g b c
nearest_alike {s} {t} {g} {b} m alike k =
    record {
      steps = k.steps;
      beneath = k.beneath;
      right = subst (InPosition t g) k.beneath ((alike k.steps).0 (subst (InPosition s g) (sym k.beneath) k.right));
      between = between;
    }
  where
    between : (i : ℕ) → i ≤ k.steps → Misplaced t g (down g i b)
    between zero h = m
    between (suc i) h = λ w. k.between (suc i) h ((alike i).1 w)
