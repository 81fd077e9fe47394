-- The sets after numbers were decided anew: one number in both, and the four blocks that a move can have changed. Assumes nothing.
use Prim.Native.Nat.{ℕ, ◌≤◌, ◌<◌}
use mathlib.Core.Path.{◌≡◌, refl, sym, ap, ◌∙◌}
use mathlib.Core.Logic.{◌⊎◌, inl, inr, ◌≢◌}
use mathlib.Core.Bool.{Bool, true, false, cond, true≢false}
use mathlib.Core.List.{List}
use native.Mathlib.Omega.{arith}
use lib.Dec.{eqb}
use lib.ListN.{length, get_or}
use borrow.Author.Tests.{eq-eqb, ne_eqb}
use Rattle.blocks.specs.State.{State, support}
use Rattle.blocks.specs.Tests.{load, readyᵇ}
use Rattle.std.specs.Prelude.{None}
use Rattle.lists.specs.Search.{nonzero}
use Rattle.lists.proofs.ReflectLaws.{same?}
use Rattle.lists.proofs.NonzeroLaws.{none_zero}
use Rattle.blocks.proofs.ClearLaws.{load_block, load_is}
use Rattle.numberset.specs.Members.{member, Assigned, limit}
use Rattle.rows.specs.Rows.{Yard, goal_loads_of, row_size}
use Rattle.statuses.specs.Modes.{looseᵇ}
use Rattle.statuses.specs.Reads.{onto, ready_in, loose_in}
use Rattle.statuses.specs.Kept.{SetsHold, Offerable, Admissible, Refreshable, Refreshed, Moving}
use Rattle.statuses.specs.declared.Mode.{Mode}
use Rattle.statuses.specs.declared.Sets.{Sets}
use Rattle.statuses.proofs.TestLaws.{goal_readable, table_ready, ready_is, loose_is}

-- ---- one number

-- the same test, said otherwise
pub told : {l l' : List ℕ} {b : ℕ} {r t : Bool} → r ≡ t → Assigned l b r l' → Assigned l b t l'
told {l} {l'} {b} e w = record { members = λ y h. w.members y h ∙ ap (λ u. cond (eqb y b) u (member l y)) e }

-- a number that does not pass the test is left out, if it was not in the set wrongly
left_out : {l : List ℕ} {b : ℕ} {t : Bool} → (member l b ≡ true → t ≡ true) → t ≡ false → Assigned l b t l
left_out {l} {b} {t} sound e = record { members = λ y h. by y (same? y b) }
  where
    out : (u : Bool) → (u ≡ true → t ≡ true) → u ≡ false
    out true f = absurd (true≢false (sym (f refl) ∙ e))
    out false f = refl

    by : (y : ℕ) → (y ≡ b) ⊎ (¬ (y ≡ b)) → member l y ≡ cond (eqb y b) t (member l y)
    by y (inl q) = ap (member l) q ∙ out (member l b) sound ∙ sym (ap (λ u. cond u t (member l y)) (eq-eqb y b q) ∙ e)
    by y (inr d) = sym (ap (λ u. cond u t (member l y)) (ne_eqb y b d))

-- no number is in the set wrongly after one was decided anew, if the others were not
pub still_sound : {l l' : List ℕ} {b : ℕ} (test : ℕ → Bool) → Assigned l b (test b) l' → (y : ℕ) → y < limit → (y ≢ b → member l y ≡ true → test y ≡ true)
    → member l' y ≡ true → test y ≡ true
still_sound {l} {l'} {b} test w y h f e = by (same? y b) (sym (w.members y h) ∙ e)
  where
    by : (y ≡ b) ⊎ (¬ (y ≡ b)) → cond (eqb y b) (test b) (member l y) ≡ true → test y ≡ true
    by (inl q) k = ap test q ∙ sym (ap (λ t. cond t (test b) (member l y)) (eq-eqb y b q)) ∙ k
    by (inr n) k = f n (sym (ap (λ t. cond t (test b) (member l y)) (ne_eqb y b n)) ∙ k)

module _ {s g : State} {y : Yard} {b : ℕ} (w : Refreshable s g y b) where
  pub refreshed : {k : Mode} {z z' : Sets} {t u : Bool} → t ≡ ready_in g y b → Assigned z.ready b t z'.ready → u ≡ loose_in k s y b → Assigned z.loose b u z'.loose
      → Refreshed k s g b z z'
  refreshed {k} e x f v = record { ready = told (e ∙ ready_is w.known b w.high) x; loose = told (f ∙ loose_is w.known b w.high k) v }

-- no block goes onto u
pub none_offered : {g : State} {y : Yard} {rd : List ℕ} (u : ℕ) → Offerable g y rd (onto y u) → nonzero (onto y u) ≡ None
    → Assigned rd (onto y u) (ready_in g y (onto y u)) rd
none_offered {y = y} u w e = left_out w.sound (table_ready w.readable (none_zero (onto y u) e))

module _ {k : Mode} {s g : State} {y : Yard} {z : Sets} {b : ℕ} (w : Admissible k s g y z b) where
  pub offerable : Offerable g y z.ready b
  offerable = record { readable = goal_readable w.known w.high; sound = λ e. ready_is w.known b w.high ∙ w.ready_sound e }

  is : {t : Bool} → t ≡ loose_in k s y b → t ≡ looseᵇ k s g b
  is e = e ∙ loose_is w.known b w.high k

  pub not_admitted : {z' : Sets} {t : Bool} → Assigned z.ready b (ready_in g y b) z'.ready → t ≡ loose_in k s y b → t ≡ false → z'.loose ≡ z.loose → Refreshed k s g b z z'
  not_admitted o e f q = record { ready = told (ready_is w.known b w.high) o; loose = rw q (left_out w.loose_sound (sym (is e) ∙ f)) }

  pub admitted : {z' : Sets} {t : Bool} → Assigned z.ready b (ready_in g y b) z'.ready → t ≡ loose_in k s y b → t ≡ true → Assigned z.loose b true z'.loose → Refreshed k s g b z z'
  admitted o e f a = record { ready = told (ready_is w.known b w.high) o; loose = told (sym f ∙ is e) a }

-- a set is right at y if it was right there before b was decided anew, or if y is b
pub again : {l l' : List ℕ} {b : ℕ} (test : ℕ → Bool) → Assigned l b (test b) l' → (y : ℕ) → y < limit → (y ≢ b → member l y ≡ test y)
    → member l' y ≡ test y
again {l} {l'} {b} test w y h f = w.members y h ∙ by (same? y b)
  where
    by : (y ≡ b) ⊎ (¬ (y ≡ b)) → cond (eqb y b) (test b) (member l y) ≡ test y
    by (inl e) = ap (λ t. cond t (test b) (member l y)) (eq-eqb y b e) ∙ ap test (sym e)
    by (inr n) = ap (λ t. cond t (test b) (member l y)) (ne_eqb y b n) ∙ f n

-- ---- the four blocks of a move of a from u: two go onto a and u in the goal

module _ {m : Mode} {s g : State} {y : Yard} {z : Sets} {a u : ℕ} (w : Moving m s g y z a u) where
  same : length g ≡ length s
  same = w.known.problem.same

  pub block_in : {k : ℕ} → k ≤ length s → k < row_size
  block_in h = omega (arith, w.known.small)

  -- what goes onto a block, in the list of loads and by the goal's supports
  module _ {k : ℕ} (high : k ≤ length s) where
    onto_load : k ≢ 0 → onto y k ≡ load g k
    onto_load n =
        ap (λ t. cond t 0 (get_or (goal_loads_of y) k 0)) (ne_eqb k 0 n) ∙ w.known.goal_loads.at k (omega (arith, n)) (omega (arith, high, same))

    onto_high : onto y k ≤ length s
    onto_high = by (same? k 0) (same? (load g k) 0)
      where
        by : (k ≡ 0) ⊎ (¬ (k ≡ 0)) → (load g k ≡ 0) ⊎ (¬ (load g k ≡ 0)) → onto y k ≤ length s
        by (inl z) _ = omega (arith, ap (λ t. cond t 0 (get_or (goal_loads_of y) k 0)) (eq-eqb k 0 z))
        by (inr n) (inl z) = omega (arith, onto_load n ∙ z)
        by (inr n) (inr o) = omega (arith, onto_load n, (load_block g k o).high, same)

    onto_is : (b : ℕ) → support g b ≡ k → k ≢ 0 → b ≡ onto y k
    onto_is b r n = sym (onto_load n ∙ load_is g w.known.problem.goal k b n r)

    -- a block that goes onto another can be offered to a set in which none is wrongly
    may : {rd : List ℕ} → ((b : ℕ) → b ≤ length s → member rd b ≡ true → readyᵇ s g b ≡ true) → (k < row_size) × Offerable g y rd (onto y k)
    may f = (block_in high, record { readable = goal_readable w.known onto_high; sound = λ e. ready_is w.known (onto y k) onto_high ∙ f (onto y k) onto_high e })

    -- what the offer has done
    done : {l l' : List ℕ} → Assigned l (onto y k) (ready_in g y (onto y k)) l' → Assigned l (onto y k) (readyᵇ s g (onto y k)) l'
    done o = told (ready_is w.known (onto y k) onto_high) o

  pub first : Refreshable s g y a
  first = record { known = w.known; high = w.moved_high }

  module _ {z₁ : Sets} (f : Refreshed m s g a z z₁) where
    first_sound : (k : ℕ) → k ≤ length s → member z₁.ready k ≡ true → readyᵇ s g k ≡ true
    first_sound k h =
        let low : k < limit = omega (arith, h, w.known.small) in
        still_sound (readyᵇ s g) f.ready k low (λ n. w.ready_sound k low n)

    pub may_offer : (a < row_size) × Offerable g y z₁.ready (onto y a)
    may_offer = may w.moved_high first_sound

    -- z₂ is z₁ with the block that goes onto a decided anew
    module _ {z₂ : Sets} (o : Assigned z₁.ready (onto y a) (ready_in g y (onto y a)) z₂.ready) (kept : z₂.loose ≡ z₁.loose) where
      done_a : Assigned z₁.ready (onto y a) (readyᵇ s g (onto y a)) z₂.ready
      done_a = done w.moved_high o

      second_sound : (k : ℕ) → k ≤ length s → member z₂.ready k ≡ true → readyᵇ s g k ≡ true
      second_sound k h = still_sound (readyᵇ s g) done_a k (omega (arith, h, w.known.small)) (λ _. first_sound k h)

      -- nothing but the four blocks is left to decide
      apart : (b : ℕ) → b ≢ onto y a → support g b ≢ a
      apart b n e = n (onto_is w.moved_high b e (λ z. omega (arith, z, w.moved)))

      -- from the table: a, and what goes onto it
      pub two : u ≡ 0 → SetsHold m s g z₂
      two e =
          record {
            ready = record {
              same = λ v h. again (readyᵇ s g) done_a v h (λ nc. again (readyᵇ s g) f.ready v h (λ na. w.ready.same v h na (λ _. e) (apart v nc) (λ _. e)));
            };
            loose = record { same = λ v h. ap (λ l. member l v) kept ∙ again (looseᵇ m s g) f.loose v h (λ na. w.loose.same v h na (λ _. e)) };
          }

      pub may_admit : Admissible m s g y z₂ u
      may_admit =
          let low : u < limit = omega (arith, w.old_high, w.known.small) in
          record {
            known = w.known;
            high = w.old_high;
            ready_sound = second_sound u w.old_high;
            loose_sound = λ e. still_sound (looseᵇ m s g) f.loose u low (λ n. w.loose_sound u low n) (rw kept at e);
          }

      module _ {z₃ : Sets} (e : Refreshed m s g u z₂ z₃) where
        pub may_offer_next : (u < row_size) × Offerable g y z₃.ready (onto y u)
        may_offer_next = may w.old_high (λ k h. still_sound (readyᵇ s g) e.ready k (omega (arith, h, w.known.small)) (λ _. second_sound k h))

        -- from a block u: also u, and what goes onto that
        pub four : {z₄ : Sets} → u ≢ 0 → Assigned z₃.ready (onto y u) (ready_in g y (onto y u)) z₄.ready → z₄.loose ≡ z₃.loose → SetsHold m s g z₄
        four n q still =
            record {
              ready = record {
                same = λ v h. again (readyᵇ s g) (done w.old_high q) v h (λ nd. again (readyᵇ s g) e.ready v h (λ nu. again (readyᵇ s g) done_a v h (λ nc. again (readyᵇ s g) f.ready v h (λ na.
                    w.ready.same v h na (λ same. absurd (nu same)) (apart v nc) (λ on. absurd (nd (onto_is w.old_high v on n)))))));
              };
              loose = record {
                same = λ v h. ap (λ l. member l v) still ∙ again (looseᵇ m s g) e.loose v h (λ nu. ap (λ l. member l v) kept ∙ again (looseᵇ m s g) f.loose v h (λ na. w.loose.same v h na (λ same. absurd (nu same))));
              };
            }
