-- A part-state and its numbers: those below `ways m k` give every proper state that keeps what is settled, in the order of a dictionary.
-- Idea: induction on the blocks left. The state says at its next block which of the ways was taken, and a higher number takes a later way. Assumes nothing.
use mathlib.Core.Path.{◌≡◌, refl, sym, ap, ◌∙◌, subst}
use mathlib.Core.Logic.{◌⊎◌, inl, inr, ◌≢◌}
use Prim.Native.Nat.{ℕ, zero, suc, pred, ◌+◌, ◌-◌, ◌*◌, ◌≤◌, ◌<◌}
use native.Mathlib.Omega.{arith}
use native.Mathlib.Nat.{mul-le-mul_right}
use lib.ListN.{length}
use Rattle.lists.specs.Search.{count}
use Rattle.lists.proofs.ReflectLaws.{to_true, decided, leb_reflects, ltb_reflects, same?}
use Rattle.blocks.specs.State.{State, support, put, down, Clear}
use Rattle.blocks.specs.Position.{Proper}
use Rattle.blocks.specs.Loop.{top}
use Rattle.blocks.proofs.StateLaws.{length-put, support_put_same, support_put_other, same_supports, support_outside, down_table}
use Rattle.blocks.proofs.GroundLaws.{acyclic}
use Rattle.counts.specs.Ways.{ways}
use Rattle.training.specs.Arrangement.{nth, PartState, other_topᵇ, next, finish, arrangement}
use Rattle.training.specs.Numbering.{Before}
use Rattle.training.specs.Placing.{Open}
use Rattle.training.proofs.NthLaws.{Ranked, rank_below, rank_less, nth_is}
use Rattle.training.proofs.StackLaws.{other_reflects, own}
use Rattle.training.proofs.StartLaws.{start, start_length}
use Rattle.training.proofs.PartLaws.{turn, turn_block, at, open_ground, open_stack, others, Keeps, finish_keeps, Step, grounded, stacked, step_of, next_ground, next_stack}

-- ---- each number gives a proper state of all blocks

pub arrangement_length : (n r : ℕ) → length (arrangement n r) ≡ n
unfolding arrangement
arrangement_length n r = (finish_keeps n (at 0 r (start n)) (omega (arith, start_length n))).same ∙ start_length n

pub finish_proper : (m : ℕ) {k : ℕ} {s : State} → Open m k s → (r : ℕ) → r < ways m k → Proper (finish m (at k r s))
unfolding finish
finish_proper zero o r h = o.proper
finish_proper (suc m) {k} {s} o r h = by (step_of o r h) (λ k₁ s₁ o₁ r₁ h₁. finish_proper m {k = k₁} {s = s₁} o₁ r₁ h₁)
  where
    by : {p : PartState} → Step m k s r p → ((k₁ : ℕ) (s₁ : State) → Open m k₁ s₁ → (r₁ : ℕ) → r₁ < ways m k₁ → Proper (finish m (at k₁ r₁ s₁))) → Proper (finish m p)
    by (grounded l) rest = rest (k + 1) s (open_ground o) r l
    by (stacked {t = t} {rest = r₁} e l w) rest = rest k (put s (turn m s) t) (open_stack o w) r₁ l

-- ---- every proper state has a number

-- a proper state that keeps what is settled puts the next block on the table or on the top of another tower
module _ {m k : ℕ} {s e : State} (o : Open (suc m) k s) (p : Proper e) (h : Keeps (length s - suc m) s e) where
  -- what is settled beneath c is as in e
  same_off : (c : ℕ) → support s c ≢ 0 → support e c ≡ support s c
  same_off c n = by (decided (leb_reflects c (length s - suc m)))
    where
      by : (c ≤ length s - suc m) ⊎ (¬ (c ≤ length s - suc m)) → support e c ≡ support s c
      by (inl l) = h.settled c l
      by (inr l) = absurd (n (o.loose c (omega (arith, l))))

  same_down : (j c : ℕ) → down s j c ≢ 0 → down e j c ≡ down s j c
  same_down zero c n = refl
  same_down (suc j) c n =
      ap (down e j) (same_off c (λ z. n (ap (down s j) z ∙ down_table s j))) ∙ same_down j (support s c) n

  its_top : support e (turn m s) ≢ 0 → Ranked (other_topᵇ s (turn m s)) (length s) (count (other_topᵇ s (turn m s)) (pred (support e (turn m s)))) (support e (turn m s))
  its_top n =
      record {
        low = omega (arith, n);
        high = omega (arith, p.entries (turn m s), h.same);
        passes = to_true (other_reflects s (turn m s) t) (clear, apart);
        rank = refl;
      }
    where
      t : ℕ
      t = support e (turn m s)

      clear : Clear s t
      clear = record { free = λ c q. by c q (same? t 0) }
        where
          by : (c : ℕ) → support s c ≡ t → (t ≡ 0) ⊎ (¬ (t ≡ 0)) → t ≡ 0
          by c q (inl z) = z
          by c q (inr z) =
              let settled : support e c ≡ t = same_off c (λ y. z (sym q ∙ y)) ∙ q in
              let is : c ≡ turn m s = p.carries c (turn m s) settled (λ y. z (sym settled ∙ y)) in
              absurd (z (sym q ∙ ap (support s) is ∙ o.loose (turn m s) (omega (arith, o.left))))

      apart : t ≢ top s (length s) (turn m s)
      apart i =
          let up = (own o.proper (turn_block o)).1 in
          let b : turn m s ≢ 0 = λ z. absurd (omega (arith, o.left)) in
          let back : down e up.0 t ≡ turn m s =
          ap (down e up.0) i ∙ same_down up.0 (top s (length s) (turn m s)) (λ z. b (sym up.1 ∙ z)) ∙ up.1 in
          let g = p.grounded (turn m s) in
          b (acyclic e up.0 g.steps (turn m s) g.reaches back)

pub finish_every : (m : ℕ) {k : ℕ} {s e : State} → Open m k s → Proper e → Keeps (length s - m) s e → (r : ℕ) × (r < ways m k) × (finish m (at k r s) ≡ e)
unfolding finish ways
finish_every zero {k} {s} {e} o p h = (0, omega arith, same_supports s e (sym h.same) all)
  where
    all : (c : ℕ) → support s c ≡ support e c
    all c = by (decided (leb_reflects c (length s)))
      where
        by : (c ≤ length s) ⊎ (¬ (c ≤ length s)) → support s c ≡ support e c
        by (inl l) = sym (h.settled c (omega arith))
        by (inr l) = support_outside s c (omega (arith, l)) ∙ sym (support_outside e c (omega (arith, l, h.same)))
finish_every (suc m) {k} {s} {e} o p h = by (same? (support e (turn m s)) 0) (λ k₁ s₁ o₁ h₁. finish_every m {k = k₁} {s = s₁} {e = e} o₁ p h₁)
  where
    Rest : Type 0
    Rest = (k₁ : ℕ) (s₁ : State) → Open m k₁ s₁ → Keeps (length s₁ - m) s₁ e → (r : ℕ) × (r < ways m k₁) × (finish m (at k₁ r s₁) ≡ e)

    t : ℕ
    t = support e (turn m s)

    q : ℕ
    q = count (other_topᵇ s (turn m s)) (pred t)

    -- the next block is settled too
    further : (n : State) → length n ≡ length s → support n (turn m s) ≡ t → ((c : ℕ) → c ≢ turn m s → support n c ≡ support s c) → Keeps (length n - m) n e
    further n same here else = record { same = h.same ∙ sym same; settled = λ c l. at_one c l (same? c (turn m s)) }
      where
        at_one : (c : ℕ) → c ≤ length n - m → (c ≡ turn m s) ⊎ (¬ (c ≡ turn m s)) → support e c ≡ support n c
        at_one c l (inl i) = ap (support e) i ∙ sym here ∙ ap (support n) (sym i)
        at_one c l (inr i) = h.settled c (omega (arith, i)) ∙ sym (else c i)

    by : (t ≡ 0) ⊎ (¬ (t ≡ 0)) → Rest → (r : ℕ) × (r < ways (suc m) k) × (finish m (next m (at k r s)) ≡ e)
    by (inl z) rest =
        let f = rest (k + 1) s (open_ground o) (further s refl (o.loose (turn m s) (omega (arith, o.left)) ∙ sym z) (λ c i. refl)) in
        (f.0, omega (arith, f.1), ap (finish m) (next_ground m k f.0 s f.1) ∙ f.2)
    by (inr z) rest =
        let w = its_top o p h z in
        let new = put s (turn m s) t in
        let f = rest k new (open_stack o w)
        (further new (length-put s (turn m s) t) (support_put_same s (turn m s) t (turn_block o)) (λ c i. support_put_other s (turn m s) t c i)) in
        let less : q < m + k = omega (arith, others o, rank_below (other_topᵇ s (turn m s)) (length s) t w.low w.high w.passes) in (
          ways m (k + 1) + (q * ways m k + f.0),
          omega (arith, f.1, mul-le-mul_right (ways m k) less),
          ap (finish m) (next_stack m k s f.0 w f.1) ∙ f.2,
        )

-- ---- a higher number gives a later state

pub finish_ordered : (m : ℕ) {k : ℕ} {s : State} → Open m k s → (r q : ℕ) → r < q → q < ways m k → Before (finish m (at k r s)) (finish m (at k q s))
unfolding finish ways
finish_ordered zero o r q l h = absurd (omega arith)
finish_ordered (suc m) {k} {s} o r q l h =
    by (step_of o r (omega arith)) (step_of o q h) (λ k₁ s₁ o₁ r₁ q₁. finish_ordered m {k = k₁} {s = s₁} o₁ r₁ q₁)
  where
    Rest : Type 0
    Rest = (k₁ : ℕ) (s₁ : State) → Open m k₁ s₁ → (r₁ q₁ : ℕ) → r₁ < q₁ → q₁ < ways m k₁ → Before (finish m (at k₁ r₁ s₁)) (finish m (at k₁ q₁ s₁))

    -- the end has what the part-state has, up to the next block
    stays : (p : PartState) → length p.state ≡ length s → (c : ℕ) → c ≤ turn m s → support (finish m p) c ≡ support p.state c
    stays p same c b = (finish_keeps m p (omega (arith, o.left))).settled c (omega arith)

    onto : (t r₁ c : ℕ) → c ≤ turn m s → support (finish m (at k r₁ (put s (turn m s) t))) c ≡ support (put s (turn m s) t) c
    onto t r₁ = stays (at k r₁ (put s (turn m s) t)) (length-put s (turn m s) t)

    there : (t r₁ : ℕ) → support (finish m (at k r₁ (put s (turn m s) t))) (turn m s) ≡ t
    there t r₁ = onto t r₁ (turn m s) (omega arith) ∙ support_put_same s (turn m s) t (turn_block o)

    earlier : (t r₁ c : ℕ) → c < turn m s → support (finish m (at k r₁ (put s (turn m s) t))) c ≡ support s c
    earlier t r₁ c b = onto t r₁ c (omega arith) ∙ support_put_other s (turn m s) t c (omega arith)

    by : {a b : PartState} → Step m k s r a → Step m k s q b → Rest → Before (finish m a) (finish m b)
    by (grounded x) (grounded y) rest = rest (k + 1) s (open_ground o) r q l y
    by (grounded x) (stacked {t = t} {rest = q₁} f y w) rest = record {
      first = turn m s;
      same = λ c b. stays (at (k + 1) r s) refl c (omega arith) ∙ sym (earlier t q₁ c b);
      less = omega (
        arith,
        w.low,
        there t q₁,
        stays (at (k + 1) r s) refl (turn m s) (omega arith),
        o.loose (turn m s) (omega (arith, o.left)),
      );
    }
    by (stacked f x w) (grounded y) rest = absurd (omega arith)
    by (stacked {q = c} {t = t} {rest = r₁} f x w) (stacked {q = d} {t = u} {rest = q₁} g y v) rest = digits (decided (ltb_reflects c d))
      where
        digits : (c < d) ⊎ (¬ (c < d)) → Before (finish m (at k r₁ (put s (turn m s) t))) (finish m (at k q₁ (put s (turn m s) u)))
        digits (inl e) = record {
          first = turn m s;
          same = λ i b. earlier t r₁ i b ∙ sym (earlier u q₁ i b);
          less = omega (arith, there t r₁, there u q₁, rank_less (other_topᵇ s (turn m s)) w v e);
        }
        digits (inr n) = subst (λ z. Before (finish m (at k r₁ (put s (turn m s) t))) (finish m (at k q₁ (put s (turn m s) z)))) same (rest k (put s (turn m s) t) (open_stack o w) r₁ q₁ less y)
          where
            digit : c ≡ d
            digit = above (decided (leb_reflects c d))
              where
                above : (c ≤ d) ⊎ (¬ (c ≤ d)) → c ≡ d
                above (inl i) = omega (arith, n)
                above (inr i) = absurd (omega (arith, mul-le-mul_right (ways m k) (let j : suc d ≤ c = omega (arith, i) in j)))

            same : t ≡ u
            same = sym (nth_is (other_topᵇ s (turn m s)) (length s) c t w) ∙ ap (λ i. nth (other_topᵇ s (turn m s)) (length s) i) digit ∙ nth_is (other_topᵇ s (turn m s)) (length s) d u v

            less : r₁ < q₁
            less = omega (arith, ap (λ i. i * ways m k) digit)
