-- The deadlock test gives what its words give (`Tests`), and they give one answer. Idea: a loop is turned to its lowest block in one way, because no block comes
-- twice on it. Assumes nothing.
use mathlib.Core.Path.{◌≡◌, refl, sym, ap, ap₂, ◌∙◌, subst}
use mathlib.Core.Logic.{◌⊎◌, inl, inr, ◌↔◌}
use mathlib.Core.Bool.{Bool, cond, or_comm}
use mathlib.Core.List.{List, [], ◌++◌}
use Prim.Native.Nat.{ℕ, ◌+◌, ◌*◌, ◌/◌, ◌<◌}
use native.Mathlib.Omega.{arith}
use lib.Dec.{eqb}
use lib.ListN.{length, get_or, take, drop, length-append, get_or-append}
use lib.Seq.{ext_get_or, get_or-append-add, take-append_seam, drop-append_seam}
use Rattle.lists.specs.Search.{Lowest}
use Rattle.blocks.specs.State.{State}
use Rattle.blocks.specs.Position.{Proper, Problem, Nearest}
use Rattle.blocks.specs.Move.{Plan, after}
use Rattle.blocks.specs.Tests.{misplaced_count}
use Rattle.blocks.specs.Loop.{memberᵇ, from, before, loop, lowest_of, onward, blocked_rows, shown_width}
use Rattle.blocks.specs.Method.{deadlock_loop, deadlock_rows}
use Rattle.blocks.specs.Demands.{Shown}
use Rattle.blocks.specs.Stall.{IsLoop}
use Rattle.blocks.specs.Steps.{On, LoopOf, InTheWay, NoneMisplaced, Stalled, Onward, Rows, ByTest, none, found}
use Rattle.lists.proofs.ReflectLaws.{Reflects, holds, fails, from_true, to_true, same?, eqb_reflects}
use Rattle.lists.proofs.SearchLaws.{lowest_only, lowest_alike}
use Rattle.blocks.proofs.NearestLaws.{nearest_is, nearest_only}
use Rattle.blocks.proofs.MisplacedLaws.{none_misplaced, some_misplaced}
use Rattle.blocks.proofs.StallLaws.{blocker_told, way_only}
use Rattle.blocks.proofs.LoopLaws.{Once, member_reflects, member_append, before_from, from_some, lowest_member, lowest_on, onward_first, onward_members, onward_closed, loop_closed}
use Rattle.blocks.proofs.LoopToldLaws.{loop_is, loop_only, one_place}
use Rattle.blocks.proofs.RunLaws.{run_end, run_told}
use Rattle.blocks.proofs.MethodLaws.{building_kept, building_only}
use Rattle.blocks.proofs.DeadlockTestLaws.{Building, built_run, rows_at, rows_length}

-- ---- the test gives what the words give

-- the loop of a state as the test writes it: none where nothing is misplaced
abbrev loop_at : State → State → List ℕ
loop_at t g = cond (eqb (misplaced_count t g) 0) [] (onward t (loop t g))

-- in a stalled state
module _ {t g : State} (p : Problem t g) (h : Stalled t g) where
  closed : IsLoop t g (loop t g)
  closed = loop_closed p h.none_ready h.misplaced

  onward_told : Onward t g (onward t (loop t g))
  unfolding onward
  onward_told =
      let l = loop t g in
      let m = lowest_of t l in
      let same : (b : ℕ) → On (onward t l) b ↔ On l b = λ b. (
        λ o. from_true (member_reflects b l) (sym (onward_members t l b) ∙ to_true (member_reflects b (onward t l)) o),
        λ o. from_true (member_reflects b (onward t l)) (onward_members t l b ∙ to_true (member_reflects b l) o),
      ) in
      record {
        front = before m l;
        back = from m l;
        loop = subst (LoopOf t g) (sym (before_from m l)) (loop_is p h.none_ready h.misplaced);
        some = from_some m l (lowest_member p closed);
        turned = refl;
        lowest = subst (Lowest (On (onward t l)) (length t)) (sym (onward_first p closed)) (lowest_alike (λ b. ((same b).1, (same b).0)) (lowest_on p closed));
      }

  rows_told : Rows t g (onward t (loop t g)) (blocked_rows t g (onward t (loop t g)))
  rows_told =
      let l = onward t (loop t g) in
      record {
        size = rows_length t g l;
        slab = λ i k. (rows_at t g l i k).0;
        way = λ i k.
            subst (InTheWay t g (get_or l i 0)) (sym (rows_at t g l i k).1) (blocker_told p h.none_ready (get_or l i 0) ((onward_closed p closed).waiting i k));
        nearest = λ i k.
            subst (Nearest t g (get_or l i 0)) (sym (rows_at t g l i k).2) (nearest_is p (get_or l i 0) ((onward_closed p closed).waiting i k).0);
      }

built_told : {s g : State} (q : Plan) → Building g s q → ByTest s g (loop_at (after s q) g) (blocked_rows (after s q) g (loop_at (after s q) g))
unfolding blocked_rows
built_told {s} {g} q r = by (eqb_reflects (misplaced_count t g) 0)
  where
    t : State
    t = after s q

    p : Problem t g
    p = (run_end r).0

    by : {c : Bool} → Reflects (misplaced_count t g ≡ 0) c
        → ByTest s g (cond c [] (onward t (loop t g))) (blocked_rows t g (cond c [] (onward t (loop t g))))
    by (holds e) = none q (run_told r) (λ b m. m (none_misplaced p e b)) refl refl
    by (fails n) =
        let m = some_misplaced p n in
        let h : Stalled t g = record { block = m.0; misplaced = m.1; none_ready = (run_end r).1 } in
        found q (run_told r) h (onward_told p h) (rows_told p h)

deadlock_is : {s g : State} → Problem s g → ByTest s g (deadlock_loop s g) (deadlock_rows s g)
unfolding deadlock_loop deadlock_rows
deadlock_is {s} {g} p =
    let r = built_run p in
    subst (λ t. ByTest s g (loop_at t g) (blocked_rows t g (loop_at t g))) (sym r.1) (built_told r.0 r.2)

-- ---- the words give one answer

-- two parts in either order have the same entries
on_turned : (a b : List ℕ) (x : ℕ) → On (a ++ b) x → On (b ++ a) x
on_turned a b x o =
    from_true (member_reflects x (b ++ a))
    (member_append x b a ∙ or_comm (memberᵇ x b) (memberᵇ x a) ∙ sym (member_append x a b) ∙ to_true (member_reflects x (a ++ b)) o)

-- the end of a list without repetition has none
once_end : (w l : List ℕ) → Once (w ++ l) → Once l
once_end w l once i j h k e =
    once (length w + i) (length w + j) (omega arith) (omega (arith, length-append w l))
    (get_or-append-add w l i 0 ∙ e ∙ sym (get_or-append-add w l j 0))

module _ {t g : State} {l : List ℕ} (a : Onward t g l) where
  abbrev whole : List ℕ
  whole = a.front ++ a.back

  -- its first block is the lowest of the loop, and stands behind the front
  whole_lowest : Lowest (On whole) (length t) (get_or l 0 0)
  whole_lowest =
      let there : (b : ℕ) → On l b → On whole b = λ b o. on_turned a.back a.front b (subst (λ k. On k b) a.turned o) in
      let here : (b : ℕ) → On whole b → On l b = λ b o. subst (λ k. On k b) (sym a.turned) (on_turned a.front a.back b o) in
      lowest_alike (λ b. (there b, here b)) a.lowest

  first_behind : get_or l 0 0 ≡ get_or whole (length a.front) 0
  first_behind =
      let zero-on : length a.front ≡ length a.front + 0 = omega arith in
      ap (λ k. get_or k 0 0) a.turned ∙ get_or-append a.back a.front 0 0 a.some
      ∙ sym (ap (λ i. get_or whole i 0) zero-on ∙ get_or-append-add a.front a.back 0 0)

onward_only : {t g : State} → Proper t → {l m : List ℕ} → Onward t g l → Onward t g m → l ≡ m
onward_only {t} {g} p {l} {m} a b =
    let same : whole a ≡ whole b = loop_only p a.loop b.loop in
    let lowest : get_or l 0 0 ≡ get_or m 0 0 = lowest_only (whole_lowest a) (subst (λ k. Lowest (On k) (length t) (get_or m 0 0)) (sym same) (whole_lowest b)) in
    let size-a = length-append a.front a.back in
    let size-b = length-append b.front b.back in
    let sizes : length (whole a) ≡ length (whole b) = ap length same in
    let at : length a.front ≡ length b.front =
    one_place (whole a) (once_end a.loop.way (whole a) a.loop.visits.once) (length a.front) (length b.front)
    (omega (arith, size-a, a.some)) (omega (arith, size-b, sizes, b.some))
    (sym (first_behind a) ∙ lowest ∙ first_behind b ∙ ap (λ k. get_or k (length b.front) 0) (sym same)) in
    let backs : a.back ≡ b.back = sym (drop-append_seam a.front a.back) ∙ ap₂ (λ i k. drop i k) at same ∙ drop-append_seam b.front b.back in
    let fronts : a.front ≡ b.front = sym (take-append_seam a.front a.back) ∙ ap₂ (λ i k. take i k) at same ∙ take-append_seam b.front b.back in
    a.turned ∙ ap₂ (λ x y. x ++ y) backs fronts ∙ sym b.turned

rows_only : {t g : State} {l k m : List ℕ} → Rows t g l k → Rows t g l m → k ≡ m
rows_only {t} {g} {l} {k} {m} a b =
    ext_get_or 0 k m (a.size ∙ sym b.size) (λ i h. third i (omega (arith, a.size, h)) (same? i (shown_width * (i / 3))) (same? i (shown_width * (i / 3) + 1)))
  where
    at : {i e : ℕ} → i ≡ e → get_or k e 0 ≡ get_or m e 0 → get_or k i 0 ≡ get_or m i 0
    at q h = ap (λ n. get_or k n 0) q ∙ h ∙ ap (λ n. get_or m n 0) (sym q)

    third : (i : ℕ) → i / 3 < length l → (i ≡ shown_width * (i / 3)) ⊎ (¬ (i ≡ shown_width * (i / 3)))
        → (i ≡ shown_width * (i / 3) + 1) ⊎ (¬ (i ≡ shown_width * (i / 3) + 1)) → get_or k i 0 ≡ get_or m i 0
    third i h (inl e) _ = at e (a.slab (i / 3) h ∙ sym (b.slab (i / 3) h))
    third i h (inr n) (inl e) = at e (way_only (a.way (i / 3) h) (b.way (i / 3) h))
    third i h (inr n) (inr f) =
        let e : i ≡ shown_width * (i / 3) + 2 = omega (arith, n, f) in
        at e (nearest_only (a.nearest (i / 3) h) (b.nearest (i / 3) h))

tests_only : {s g : State} → Problem s g → {l k l' k' : List ℕ} → ByTest s g l k → ByTest s g l' k' → (l ≡ l') × (k ≡ k')
tests_only i (none p v h e f) (none p' v' h' e' f') = (e ∙ sym e', f ∙ sym f')
tests_only {s} {g} i (none p v h e f) (found p' v' h' o' c') =
    absurd (subst (λ q. NoneMisplaced g (after s q)) (building_only i v v') h h'.block h'.misplaced)
tests_only {s} {g} i (found p v h o c) (none p' v' h' e' f') =
    absurd (subst (λ q. NoneMisplaced g (after s q)) (building_only i v' v) h' h.block h.misplaced)
tests_only {s} {g} i {l} {k} {l'} {k'} (found p v h o c) (found p' v' h' o' c') =
    let there = building_only i v' v in
    let same : l ≡ l' = onward_only (building_kept i v).initial o (subst (λ q. Onward (after s q) g l') there o') in
    (same, rows_only c (subst (λ m. Rows (after s p) g m k') (sym same) (subst (λ q. Rows (after s q) g l' k') there c')))

-- the lifts before the stall are those of the words, and there is one c
pub third_only : (s g : State) → Problem s g → (blocks rows rows' : List ℕ) → Shown s g blocks rows → Shown s g blocks rows'
    → (i : ℕ) → i < length blocks → get_or rows (shown_width * i + 2) 0 ≡ get_or rows' (shown_width * i + 2) 0
third_only s g p blocks rows rows' a b i h =
    let there = building_only p b.stalls a.stalls in
    nearest_only (a.third i h) (subst (λ q. Nearest (after s q) g (get_or blocks i 0) (get_or rows' (shown_width * i + 2) 0)) there (b.third i h))

-- the test gives an answer exactly where the words give it
pub deadlock_told : (s g : State) → Problem s g → (l rows : List ℕ) → ((deadlock_loop s g ≡ l) × (deadlock_rows s g ≡ rows)) ↔ ByTest s g l rows
deadlock_told s g p l rows = (
  λ e. subst (ByTest s g l) e.1 (subst (λ k. ByTest s g k (deadlock_rows s g)) e.0 (deadlock_is p)),
  λ w. tests_only p (deadlock_is p) w,
)
