-- The exported answers of planning and of the deadlock test are those of the library. Assumes nothing.
use Rattle.std.proofs.Common.{Some, None, Ok, Err}
use Prim.Native.Nat.{ℕ, ◌*◌}
use mathlib.Core.Path.{◌≡◌, refl, sym, ap, ap₂, ◌∙◌}
use mathlib.Core.Logic.{◌≢◌}
use mathlib.Core.List.{List}
use native.Mathlib.Omega.{arith}
use lib.ListN.{length, take}
use Rattle.blocks.specs.Loop.{shown_width}
use Rattle.blocks.specs.Sheet.{Sheet, goal_state, Call}
use Rattle.blocks.specs.Demands.{NoDeadlock, Shown}
use Rattle.blocks.proofs.SheetLaws.{plan_refuses, plan_number, deadlock_refuses, deadlock_number}
use Rattle.refusals.specs.Refusals.{number_of, asked_of}
use Rattle.planner.specs.Answers as planner
use Rattle.planner.specs.declared.Planned.{Planned}
use Rattle.deadlocks.specs.Answers as deadlocks
use Rattle.topjeska.specs.Exports.{as_plan, as_deadlock, ExportsPlan, ExportsDeadlock}
use Rattle.topjeska.specs.declared.PlanAnswer.{PlanAnswer}
use Rattle.topjeska.specs.declared.DeadlockAnswer.{DeadlockAnswer}

-- ---- planning

plan_export : {call : Call} {h : Sheet} {space : List ℕ} {r : planner.Answer} {space' : List ℕ} {z : PlanAnswer} → planner.Plans call h space r space'
    → as_plan z ≡ planner.answer_of r → ExportsPlan call h space z space'
plan_export {call} {h} {space} {r} {space'} {z} w e =
    record {
      answer = e ∙ w.answer;
      lent = w.lent;
      told = λ y. w.told (plan) (made r refl y);
      promise = λ y. w.promise (plan) (made r refl y);
      head_count = λ y. w.head_count (plan) (made r refl y);
    }
  where
    plan : Planned
    plan = record { count = z.count; misplaced = z.misplaced }

    -- an answer that is no refusal has the numbers of its plan
    made : (q : planner.Answer) → q ≡ r → z.refusal ≡ 0 → r ≡ Ok plan
    made (Err f) k y =
        let same : as_plan z ≡ planner.answer_of (Err f) = e ∙ ap planner.answer_of (sym k) in
        let refused = (plan_refuses call h space (number_of f.question) f.place).0 (sym w.asked ∙ ap asked_of (sym k)) in
        absurd (plan_number call h space (number_of f.question) f.place refused (sym (ap (λ o. o.number) same) ∙ y))
    made (Ok p) k y =
        let same : as_plan z ≡ planner.answer_of (Ok p) = e ∙ ap planner.answer_of (sym k) in
        sym k ∙ ap₂ (λ c m. Ok (record { count = c; misplaced = m })) (sym (ap (λ o. o.count) same)) (sym (ap (λ o. o.misplaced) same))

-- the same of the call and the sheet that the options give
pub plan_exported : {call call' : Call} {h h' : Sheet} {space : List ℕ} {r : planner.Answer} {space' : List ℕ} {z : PlanAnswer} → call ≡ call' → h ≡ h'
    → planner.Plans call h space r space' → as_plan z ≡ planner.answer_of r → ExportsPlan call' h' space z space'
plan_exported i j w e = rw (← i, ← j) (plan_export w e)

-- ---- the deadlock test

pub deadlock_exported : {h h' : Sheet} {space : List ℕ} {r : deadlocks.Answer} {space' : List ℕ} {a : DeadlockAnswer} → h ≡ h'
    → deadlocks.TestsDeadlock h space r space' → as_deadlock a ≡ deadlocks.answer_of r → ExportsDeadlock h' space a space'
deadlock_exported {h} {h'} {space} {r} {space'} {a} j w e =
    rw (← j) (record { answer = e ∙ w.answer; lent = w.lent; free = λ z n. (says r refl z).0 n; shown = λ z n. (says r refl z).1 n })
  where
    -- what an answer that is no refusal says
    says : (q : deadlocks.Answer) → q ≡ r → a.refusal ≡ 0 → (a.count ≡ 0 → NoDeadlock h.initial (goal_state h))
        × (a.count ≢ 0 → (blocks : List ℕ) × (length blocks ≡ a.count) × Shown h.initial (goal_state h) blocks (take (shown_width * a.count) space'))
    says (Err f) i z =
        let same : as_deadlock a ≡ deadlocks.answer_of (Err f) = e ∙ ap deadlocks.answer_of (sym i) in
        let refused = (deadlock_refuses h space (number_of f.question) f.place).0 (sym w.asked ∙ ap asked_of (sym i)) in
        absurd (deadlock_number h space (number_of f.question) f.place refused (sym (ap (λ o. o.number) same) ∙ z))
    says (Ok None) i z =
        let same : as_deadlock a ≡ deadlocks.answer_of (Ok None) = e ∙ ap deadlocks.answer_of (sym i) in
        (λ _. w.none (sym i), λ n. absurd (n (ap (λ o. o.count) same)))
    says (Ok (Some c)) i z =
        let same : as_deadlock a ≡ deadlocks.answer_of (Ok (Some c)) = e ∙ ap deadlocks.answer_of (sym i) in
        let count : a.count ≡ c = ap (λ o. o.count) same in
        let v = w.some a.count (sym i ∙ ap (λ k. Ok (Some k)) (sym count)) in
        (λ n. absurd (omega (arith, v.2.deadlock.some, v.1, n)), λ _. v)
