-- What planning answered, as records: its counts are small, and the pairs in the lent space are its lifts. Assumes nothing.
use Prim.Native.Nat.{ℕ, ◌*◌, ◌≤◌}
use mathlib.Core.Path.{◌≡◌, refl, sym, ◌∙◌, ap, ap₂, subst}
use mathlib.Core.List.{List}
use mathlib.Core.Option.{Option, none, some}
use Rattle.std.specs.Prelude.{Ok}
use native.Mathlib.Omega.{arith}
use lib.ListN.{length, take, drop, length-append}
use Rattle.blocks.specs.State.{State, most}
use Rattle.blocks.specs.Position.{Problem}
use Rattle.blocks.specs.Tests.{misplaced_count}
use Rattle.blocks.specs.Move.{Plan}
use Rattle.blocks.specs.Method.{Outcome, plan, nothing_to_put_down, Method, outcome, method_of, outcome_by, plan_of, plan_outcome}
use Rattle.blocks.specs.Question.{all_yes, first_no}
use Rattle.blocks.specs.Sheet.{Sheet, goal_state, Call, plan_questions}
use Rattle.blocks.specs.Answer.{flat, moves, planned, written, plan_for, plan_answer, plan_space}
use Rattle.lists.specs.Lists.{overwrite}
use Rattle.lists.proofs.WriteLaws.{overwrite_front}
use Rattle.blocks.proofs.MeasureLaws.{misplaced_le}
use Rattle.blocks.proofs.FlatLaws.{pairs_back, length-flat}
use Rattle.blocks.proofs.GoalStateLaws.{bounded}
use Rattle.blocks.proofs.SheetLaws.{plan_accepts}
use Rattle.blocks.proofs.Theorems.{theorems}
use Rattle.planner.specs.Answers.{Answer, Plans}
use Rattle.planner.specs.declared.Planned.{Planned}
use Rattle.responder.specs.Responses.{plan_bytes}
use Rattle.responder.specs.Answers.{reply_of, Writable}

-- ---- the counts are small

-- at most two lifts for each slab
short_plan : (m : ℕ) (s g : State) → Problem s g → 2 * length (plan_of (plan_outcome m s g)) ≤ 4 * length s
unfolding plan_outcome
short_plan m s g q = by (method_of m)
  where
    by : (o : Option Method) → 2 * length (plan_of (outcome_by o s g)) ≤ 4 * length s
    by none = omega arith
    by (some b) = of (outcome b s g) refl
      where
        of : (o : Outcome) → outcome b s g ≡ o → 2 * length (plan_of o) ≤ 4 * length s
        of (plan p) e = theorems.plan_fits b s g q p e
        of nothing_to_put_down e = omega arith

pub lifts_le : (call : Call) (h : Sheet) (space : List ℕ) → first_no (plan_questions call h space) ≡ all_yes → length (plan_for call h) ≤ 2 * most
lifts_le call h space all =
    let w = bounded ((plan_accepts call h space).0 all).accepted in
    omega (arith, short_plan call.method h.initial (goal_state h) w.problem, w.small)

-- ---- a plan was made

module _ {call : Call} {h : Sheet} {space : List ℕ} {p : Planned} {space' : List ℕ} (v : Plans call h space (Ok p) space') where
  abbrev s : State
  s = h.initial

  abbrev g : State
  g = goal_state h

  abbrev lifts : Plan
  lifts = plan_for call h

  pub made_yes : first_no (plan_questions call h space) ≡ all_yes
  made_yes = sym v.asked

  numbers : record { number = 0; place = 0; count = p.count; misplaced = p.misplaced } ≡ planned all_yes s g lifts
  unfolding plan_answer
  numbers = v.answer ∙ ap (λ q. planned q s g lifts) made_yes

  count : p.count ≡ length lifts
  count = ap (λ o. o.count) numbers

  misplaced : p.misplaced ≡ misplaced_count s g
  misplaced = ap (λ o. o.misplaced) numbers

  lent_list : space' ≡ overwrite (flat lifts) space
  unfolding plan_space
  lent_list = v.lent ∙ ap (λ q. written q (flat lifts) space) made_yes

  pairs : 2 * p.count ≡ length (flat lifts)
  pairs = omega (arith, count, length-flat lifts)

  front : moves (take (2 * p.count) space') ≡ lifts
  front = ap₂ (λ i l. moves (take i l)) pairs lent_list ∙ ap moves (overwrite_front (flat lifts) space) ∙ pairs_back lifts

  -- The records are the plan's, in whatever space the questions are all yes.
  pub made_records : (other : List ℕ) → first_no (plan_questions call h other) ≡ all_yes
      → reply_of (Ok p) space' ≡ plan_bytes (plan_answer call h other).count (plan_answer call h other).misplaced lifts
  unfolding plan_answer
  made_records other all =
      ap₂ (λ i j. plan_bytes i j (moves (take (2 * p.count) space'))) count misplaced
      ∙ ap (plan_bytes (length lifts) (misplaced_count s g)) front
      ∙ sym (ap (λ q. plan_bytes (planned q s g lifts).count (planned q s g lifts).misplaced lifts) all)

  pub made_writable : Writable (Ok p) space'
  made_writable = record { counts = bounds }
    where
      few : misplaced_count s g ≤ most
      few = omega (arith, misplaced_le s g, ((plan_accepts call h space).0 made_yes).accepted.small)

      within : 2 * p.count ≤ length space'
      within = omega (arith, pairs, ap length lent_list, length-append (flat lifts) (drop (length (flat lifts)) space))

      bounds : (q : Planned) → ◌≡◌ {A = Answer} (Ok p) (Ok q) → (q.count ≤ 2 * most) × (q.misplaced ≤ most) × (2 * q.count ≤ length space')
      bounds q e =
          let same : p ≡ q = cc in
          subst (λ r. (r.count ≤ 2 * most) × (r.misplaced ≤ most) × (2 * r.count ≤ length space')) same
          (omega (arith, count, lifts_le call h space made_yes), omega (arith, misplaced, few), omega (arith, within))
