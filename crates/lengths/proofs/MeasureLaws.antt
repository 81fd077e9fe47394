-- Questions 16 to 18: the test of one block, the pass over the blocks, and what each way out of `measure` answers. Assumes nothing.
use Rattle.std.specs.Prelude.{Some, None, Err}
use Prim.Native.Nat.{ℕ, suc, ◌+◌, ◌-◌, ◌≤◌, ◌<◌}
use mathlib.Core.Path.{◌≡◌, sym, ap, ◌∙◌}
use mathlib.Core.Logic.{◌≢◌}
use mathlib.Core.Bool.{Bool, true, false, not}
use mathlib.Core.List.{List}
use mathlib.Core.Option.{some}
use native.Mathlib.Omega.{arith}
use native.Mathlib.Numerals.{add-one}
use borrow.Author.Tests.{eq-eqb, ne_eqb}
use lib.Dec.{ltb, leb}
use lib.ListN.{length, get_or}
use mir.Syntax.{w16}
use mir.Val.{Fits}
use Rattle.lists.proofs.ReflectLaws.{reflects_same, reflects_not, leb_reflects, ltb_reflects}
use Rattle.lists.proofs.ScanLaws.{Scanned, scan_next, scan_found, scan_none}
use Rattle.lists.specs.Search.{nonzero}
use Rattle.blocks.specs.State.{State, support}
use Rattle.blocks.specs.Position.{Bounded}
use Rattle.blocks.specs.Question.{first_no, all_yes}
use Rattle.blocks.specs.Length.{fitsᵇ, overhangsᵇ, first_overhang, asks_lengths, asks_overhang, overhang_questions, length_questions}
use Rattle.blocks.proofs.StateLaws.{support_at}
use Rattle.refusals.specs.Refusals.{no_of, asked_of}
use Rattle.refusals.specs.declared.Refusal.{Refusal}
use Rattle.refusals.specs.declared.Question.TheVariants.{LengthsCount, NowOverhang, GoalOverhang}
use Rattle.problem.proofs.CountLaws.{found_at, found_none}
use Rattle.problem.proofs.SurveyLaws.{lowest_fits, no_at, yes_at}
use Rattle.lengths.specs.Checks.{Measurable}

-- ---- the test of one block

pub table_takes : (l : List ℕ) (a : ℕ) {x : ℕ} → x ≡ 0 → false ≡ not (fitsᵇ l a x)
unfolding fitsᵇ
table_takes l a {x} e = rw (eq-eqb x 0 e)

pub block_takes : (l : List ℕ) (a x : ℕ) → 1 ≤ a → (x ≡ 0 → ⊥) → ltb (get_or l (x - 1) 0) (get_or l (a - 1) 0) ≡ not (fitsᵇ l a x)
unfolding fitsᵇ
block_takes l a x h m = rw (ne_eqb x 0 m, support_at l a h, support_at l x (omega (arith, m))) (shorter (get_or l (a - 1) 0) (get_or l (x - 1) 0))
  where
    shorter : (u v : ℕ) → ltb v u ≡ not (leb u v)
    shorter u v = reflects_same (λ h n. omega (arith, h, n)) (λ n. omega (arith, n)) (ltb_reflects v u) (reflects_not (leb_reflects u v))

-- ---- the blocks up to i do not overhang

pub record Resting (s : State) (l : List ℕ) (n i : ℕ) : Type 0 where
  pub known : Measurable s l
  pub all : n ≡ length s
  pub scanned : Scanned (overhangsᵇ l s) (length s) i

-- every support has a length
pub support_within : {s : State} {l : List ℕ} {x : ℕ} → Measurable s l → (i : ℕ) → x ≡ get_or s i 0 → x ≤ length l
support_within w i e = omega (arith, w.entries (suc i), e, w.count)

module _ {s : State} {l : List ℕ} {n i x : ℕ} (w : Resting s l n i) (h : i < n) (e : x ≡ get_or s i 0) {t : Bool} (tells : t ≡ not (fitsᵇ l (i + 1) x)) where
  next_overhangs : t ≡ overhangsᵇ l s (i + 1)
  unfolding overhangsᵇ
  next_overhangs = tells ∙ ap (λ y. not (fitsᵇ l (i + 1) y)) (e ∙ sym (ap (support s) (add-one i)))

  pub resting_next : t ≡ false → Resting s l n (i + 1)
  resting_next z =
      record { known = w.known; all = w.all; scanned = scan_next w.scanned (omega (arith, w.all)) (rw (← add-one i) (sym next_overhangs ∙ z)) }

  pub resting_found : t ≡ true → Some (i + 1) ≡ nonzero (first_overhang l s)
  unfolding first_overhang
  resting_found z = found_at i (scan_found w.scanned (omega (arith, w.all)) (rw (← add-one i) (sym next_overhangs ∙ z)))

pub resting_all : {s : State} {l : List ℕ} {n i : ℕ} → Resting s l n i → n ≤ i → None ≡ nonzero (first_overhang l s)
unfolding first_overhang
resting_all w h = found_none (scan_none w.scanned (omega (arith, w.all)))

-- ---- the ways out of `measure`

module _ {s g : State} {l : List ℕ} (w : Bounded s g) (e : length l ≡ length s) where
  pub initial_measurable : Measurable s l
  initial_measurable = record { small = w.small; entries = w.problem.initial.entries; count = e }

  pub goal_measurable : Measurable g l
  goal_measurable =
      let same = w.problem.same in
      record { small = omega (arith, w.small, same); entries = w.problem.goal.entries; count = e ∙ sym same }

-- a place is a block, and fits
pub overhang_fits : {l : List ℕ} {s : State} {p : ℕ} → Measurable s l → Some p ≡ nonzero (first_overhang l s) → Fits w16 p
unfolding first_overhang
overhang_fits {l} {s} w e = lowest_fits (overhangsᵇ l s) e w.small

module _ (l : List ℕ) (s g : State) {r : Refusal} where
  pub count_way : r ≡ record { question = LengthsCount; place = 0 } → length l ≢ length s → asked_of {A = Unit {0}} (Err r) ≡ first_no (length_questions (some l) s g)
  unfolding length_questions asks_lengths
  count_way q n = ap no_of q ∙ rw (ne_eqb (length l) (length s) n)

  module _ (e : length l ≡ length s) where
    pub initial_way : {p : ℕ} → r ≡ record { question = NowOverhang; place = p } → Some p ≡ nonzero (first_overhang l s)
        → asked_of {A = Unit {0}} (Err r) ≡ first_no (length_questions (some l) s g)
    unfolding length_questions overhang_questions asks_lengths asks_overhang
    initial_way q f = ap no_of q ∙ rw (eq-eqb (length l) (length s) e) (no_at 17 (first_overhang l s) _ f)

    module _ (z : None ≡ nonzero (first_overhang l s)) where
      pub goal_way : {p : ℕ} → r ≡ record { question = GoalOverhang; place = p } → Some p ≡ nonzero (first_overhang l g)
          → asked_of {A = Unit {0}} (Err r) ≡ first_no (length_questions (some l) s g)
      unfolding length_questions overhang_questions asks_lengths asks_overhang
      goal_way q f = ap no_of q ∙ rw (eq-eqb (length l) (length s) e) (no_at 18 (first_overhang l g) _ f ∙ yes_at 17 (first_overhang l s) _ z)

pub level_way : (l : List ℕ) (s g : State) (e : length l ≡ length s) → None ≡ nonzero (first_overhang l s) → None ≡ nonzero (first_overhang l g)
    → all_yes ≡ first_no (length_questions (some l) s g)
unfolding length_questions overhang_questions asks_lengths asks_overhang
level_way l s g e z y = rw (eq-eqb (length l) (length s) e) (yes_at 18 (first_overhang l g) _ y ∙ yes_at 17 (first_overhang l s) _ z)
