-- The successor in a stalled state (docs/WHY.md, step 7): it is misplaced and clear, above the blocker now, and the block is above the blocker in the goal.
-- Idea: the top of a misplaced block's tower is misplaced; on the goal support of the lowest misplaced block the goal puts that block only. Assumes nothing.
use mathlib.Core.Path.{◌≡◌, refl, sym, ap, ◌∙◌, subst}
use mathlib.Core.Logic.{◌⊎◌, inl, inr, ◌≢◌}
use mathlib.Core.Bool.{Bool, cond}
use Prim.Native.Nat.{ℕ, zero, suc, ◌+◌, ◌≤◌}
use native.Mathlib.Omega.{arith}
use lib.ListN.{length}
use Rattle.blocks.specs.State.{State, support, down, Above, Clear}
use Rattle.blocks.specs.Position.{Proper, Problem, InPosition, Misplaced, Nearest}
use Rattle.blocks.specs.Tests.{load, nearest}
use Rattle.blocks.specs.Loop.{rests_on, last_misplaced, blocker, top, successor}
use Rattle.blocks.specs.Stall.{Ready, NoneReady, Waiting}
use Rattle.blocks.specs.Steps.{Foot, InTheWay, onto, under, Successor}
use Rattle.lists.proofs.ReflectLaws.{Reflects, holds, fails, decided, eqb_reflects, leb_reflects}
use Rattle.blocks.proofs.StateLaws.{down_suc, down_table, down_more}
use Rattle.blocks.proofs.TowerLaws.{Reaches, clear_unique}
use Rattle.blocks.proofs.GroundLaws.{ground_bound}
use Rattle.blocks.proofs.ClearLaws.{load_rests, load_block, load_none, clear_test, clear_table}
use Rattle.blocks.proofs.PositionLaws.{position_table, position_beneath, misplaced_block, ready_constructive}
use Rattle.blocks.proofs.NearestLaws.{nearest_is, same_steps, nearest_only}

-- what is above a block is off the table
pub above_off_table : {s : State} {a b : ℕ} → Above s a b → support s a ≢ 0
above_off_table {s} u z = u.block (sym u.reaches ∙ ap (down s u.steps) z ∙ down_table s u.steps)

-- at or above, and not at
reaches_above : {s : State} {a b : ℕ} → Reaches s a b → a ≢ b → b ≢ 0 → Above s a b
reaches_above {s} {a} {b} r h z = by r.0 r.1
  where
    by : (k : ℕ) → down s k a ≡ b → Above s a b
    by zero e = absurd (h e)
    by (suc k) e = record { steps = k; reaches = e; block = z }

-- d is at or beneath b in the goal, and rests there on c
pub foot_reaches : {s g : State} {b c d : ℕ} → Foot s g b c d → Reaches g b d
foot_reaches f = (f.nearest.steps, f.last)

pub foot_rests : {s g : State} {b c d : ℕ} → Foot s g b c d → support g d ≡ c
foot_rests {g = g} {b} f = ap (support g) (sym f.last) ∙ sym (down_suc g f.nearest.steps b) ∙ f.nearest.beneath

module _ {s g : State} (p : Problem s g) where
  -- the climb that has come j steps up from b, to c
  climb : (b k j c : ℕ) → b ≢ 0 → j + k ≡ length s → c ≤ length s → down s j c ≡ b → Clear s (top s k c) × Reaches s (top s k c) b
  unfolding top
  climb b zero j c h e l r =
      let all : j ≡ length s = omega arith in
      absurd (h (sym r ∙ ap (λ i. down s i c) all ∙ ground_bound s p.initial.entries c l (p.initial.grounded c)))
  climb b (suc k) j c h e l r = go (clear_test s c) (λ low q. climb b k (suc j) (load s c) h (omega arith) low q)
    where
      go : {t : Bool} → Reflects (Clear s c) t →
          (load s c ≤ length s → down s (suc j) (load s c) ≡ b → Clear s (top s k (load s c)) × Reaches s (top s k (load s c)) b) →
          Clear s (cond t c (top s k (load s c))) × Reaches s (cond t c (top s k (load s c))) b
      go (holds w) rest = (w, (j, r))
      go (fails n) rest =
          let found : load s c ≢ 0 = λ z. n (record { free = λ d q. load_none s c d z q }) in
          rest (load_block s c found).high (ap (down s j) (load_rests s c found) ∙ r)

  -- the block found at the top of a tower is clear and stands at or above the block asked for
  pub top_clear : (b : ℕ) → b ≢ 0 → b ≤ length s → Clear s (top s (length s) b) × Reaches s (top s (length s) b) b
  top_clear b h l = climb b (length s) 0 b h (omega arith) l refl

  misplaced_nonzero : {b : ℕ} → Misplaced s g b → b ≢ 0
  misplaced_nonzero m z = m (rw z (position_table s g))

  -- a misplaced block has a misplaced clear one at the top of its tower
  pub waiting_above : (b : ℕ) → Misplaced s g b → Waiting s g (top s (length s) b)
  waiting_above b m =
      let t = top_clear b (misplaced_nonzero m) (misplaced_block p.same m).high in
      (λ i. m (subst (InPosition s g) t.1.1 (position_beneath i t.1.0)), t.0)

  -- d: so many steps down from b as are before c
  rests_on_lem : {b c : ℕ} (n : Nearest s g b c) (k : ℕ) → n.steps ≤ k → rests_on g c k b ≡ down g n.steps b
  unfolding rests_on
  rests_on_lem {b} {c} n k l = walk k n.steps b l n.beneath (λ i low h e. n.between i h (subst (InPosition s g) (sym e) n.right))
    where
      walk : (k j a : ℕ) → j ≤ k → down g (suc j) a ≡ c → ((i : ℕ) → 1 ≤ i → i ≤ j → down g i a ≢ c) → rests_on g c k a ≡ down g j a
      walk zero zero a l e h = refl
      walk zero (suc j) a l e h = absurd (omega arith)
      walk (suc k) zero a l e h = at (eqb_reflects (support g a) c)
        where
          at : {t : Bool} → Reflects (support g a ≡ c) t → cond t a (rests_on g c k (support g a)) ≡ a
          at (holds q) = refl
          at (fails q) = absurd (q e)
      walk (suc k) (suc j) a l e h =
          at (eqb_reflects (support g a) c) (walk k j (support g a) (omega arith) e (λ i low high. h (suc i) (omega arith) (omega arith)))
        where
          at : {t : Bool} → Reflects (support g a ≡ c) t → rests_on g c k (support g a) ≡ down g j (support g a)
              → cond t a (rests_on g c k (support g a)) ≡ down g j (support g a)
          at (holds q) r = absurd (h 1 (omega arith) (omega arith) q)
          at (fails q) r = r

  -- d is misplaced, and beneath b in the goal with every block between them
  abbrev LastOf : ℕ → ℕ → ℕ → Type 0
  LastOf b c d = Foot s g b c d × Misplaced s g d

  -- c and d of document 01
  pub last_misplaced_lem : (b : ℕ) → Misplaced s g b → LastOf b (nearest s g b) (last_misplaced s g b)
  unfolding last_misplaced
  last_misplaced_lem b m = (record { nearest = n; last = sym is }, subst (Misplaced s g) (sym is) last)
    where
      n : Nearest s g b (nearest s g b)
      n = nearest_is p b m

      last : Misplaced s g (down g n.steps b)
      last = n.between n.steps (omega arith)

      -- beneath the last block is the table
      short : n.steps ≤ length s
      short = by (decided (leb_reflects n.steps (length s)))
        where
          by : (n.steps ≤ length s) ⊎ (¬ (n.steps ≤ length s)) → n.steps ≤ length s
          by (inl l) = l
          by (inr h) =
              let high : b ≤ length g = omega (arith, p.same, (misplaced_block p.same m).high) in
              let ground : down g (length g) b ≡ 0 = ground_bound g p.goal.entries b high (p.goal.grounded b) in
              absurd (misplaced_nonzero last (down_more g (length g) n.steps b (omega (arith, h, p.same)) ground))

      is : rests_on g (nearest s g b) (length s) b ≡ down g n.steps b
      is = rests_on_lem n (length s) short

  -- x is in the way of b: the top of its tower waits above it, and b is above it in the goal
  abbrev Blocks : ℕ → ℕ → Type 0
  Blocks b x = Waiting s g (top s (length s) x) × Above s (top s (length s) x) x × Above g b x

  -- d is in the way where it is misplaced and not clear
  misplaced_blocks : (b d : ℕ) → Clear s b → Misplaced s g d → ¬ Clear s d → Reaches g b d → Blocks b d
  misplaced_blocks b d w m n r =
      let h : d ≢ 0 = misplaced_nonzero m in
      let t = top_clear d h (misplaced_block p.same m).high in
      (waiting_above d m, reaches_above t.1 (λ e. n (subst (Clear s) e t.0)) h, reaches_above r (λ e. n (subst (Clear s) e w)) h)

  -- its goal support is in the way where it is not clear
  support_blocks : (b d : ℕ) → Misplaced s g d → ¬ Clear s (support g d) → Reaches g b d → Blocks b (support g d)
  support_blocks b d m n r =
      let h : support g d ≢ 0 = λ z. n (rw z (clear_table s)) in
      let t = top_clear (support g d) h (omega (arith, p.same, p.goal.entries d)) in
      let u : Above s (top s (length s) (support g d)) (support g d) = reaches_above t.1 (λ e. n (subst (Clear s) e t.0)) h in
      ((λ i. m (right u i), t.0), u, record { steps = r.0; reaches = down_suc g r.0 b ∙ ap (support g) r.1; block = h })
    where
      -- what rests on the goal support beneath a block in position is d
      right : {a : ℕ} → Above s a (support g d) → InPosition s g a → InPosition s g d
      right {a} u i =
          let y = down s u.steps a in
          let now : support s y ≡ support g d = sym (down_suc s u.steps a) ∙ u.reaches in
          let there : support g y ≡ support g d = sym (i.agrees u.steps) ∙ now in
          subst (InPosition s g) (p.goal.carries y d there (λ z. u.block (sym there ∙ z))) (position_beneath i u.steps)

  -- the blocker of b is in its way: d where c is clear, else c
  blocker_blocks : NoneReady s g → (b : ℕ) → Waiting s g b → Blocks b (blocker s g b) × InTheWay s g b (blocker s g b)
  unfolding blocker
  blocker_blocks still b w = go (clear_test s c) (last_misplaced_lem b w.0)
    where
      c : ℕ
      c = nearest s g b

      d : ℕ
      d = last_misplaced s g b

      go : {t : Bool} → Reflects (Clear s c) t → LastOf b c d → Blocks b (cond t d c) × InTheWay s g b (cond t d c)
      go (holds k) f =
          let is = sym (foot_rests f.0) in
          let ready : Clear s d → Ready s g d =
          λ v. ready_constructive p (f.1, v) (subst (Clear s) is k) (subst (InPosition s g) is f.0.nearest.right)
          in
          (misplaced_blocks b d w.1 f.1 (λ v. still d (ready v)) (foot_reaches f.0), onto c f.0 k)
      go (fails n) f =
          let is = foot_rests f.0 in
          (subst (Blocks b) is (support_blocks b d f.1 (λ k. n (subst (Clear s) is k)) (foot_reaches f.0)), under d f.0 n)

  -- the successor is misplaced and clear, above the blocker now, and b is above the blocker in the goal
  pub successor_waits : NoneReady s g → (b : ℕ) → Waiting s g b →
      Waiting s g (successor s g b) × Above s (successor s g b) (blocker s g b) × Above g b (blocker s g b)
  unfolding successor
  successor_waits still b w = (blocker_blocks still b w).0

  -- both are those of document 01's words
  pub blocker_told : NoneReady s g → (b : ℕ) → Waiting s g b → InTheWay s g b (blocker s g b)
  blocker_told still b w = (blocker_blocks still b w).1

  pub successor_told : NoneReady s g → (b : ℕ) → Waiting s g b → Successor s g b (successor s g b)
  successor_told still b w =
      let k = successor_waits still b w in
      record { through = blocker s g b; way = blocker_told still b w; clear = k.0.1; above = k.1 }

-- ---- the words leave no choice

foot_only : {s g : State} {b c d c' d' : ℕ} → Foot s g b c d → Foot s g b c' d' → (c ≡ c') × (d ≡ d')
foot_only {s} {g} {b} f h =
    let k = f.nearest in
    let l = h.nearest in
    (nearest_only k l, sym f.last ∙ ap (λ i. down g i b) (same_steps k l) ∙ h.last)

pub way_only : {s g : State} {b x y : ℕ} → InTheWay s g b x → InTheWay s g b y → x ≡ y
way_only (onto c f w) (onto c' f' w') = (foot_only f f').1
way_only {s} (onto c f w) (under d' f' n) = absurd (n (subst (Clear s) (foot_only f f').0 w))
way_only {s} (under d f n) (onto c' f' w) = absurd (n (subst (Clear s) (sym (foot_only f f').0) w))
way_only (under d f n) (under d' f' n') = (foot_only f f').0

pub successor_only : {s g : State} → Proper s → {b y z : ℕ} → Successor s g b y → Successor s g b z → y ≡ z
successor_only p {b} {y} {z} v w =
    let u = v.above in
    let a = w.above in
    clear_unique p y z v.through (suc u.steps) (suc a.steps) v.clear w.clear u.reaches (a.reaches ∙ way_only w.way v.way) u.block
