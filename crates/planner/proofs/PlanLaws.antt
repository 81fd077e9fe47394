-- Planning whole: what each way out of `plan` answers, and what a checked sheet with room lends to `solve`. Assumes nothing.
use Rattle.std.specs.Prelude.{Result, Ok, Err}
use Prim.Native.Nat.{ℕ, zero, suc, ◌*◌, ◌≤◌, ◌<◌}
use mathlib.Core.Path.{◌≡◌, refl, sym, ap, ap₂, ◌∙◌, subst}
use mathlib.Core.Logic.{◌≢◌}
use mathlib.Core.Bool.{Bool, true, false}
use mathlib.Core.List.{List}
use mathlib.Core.Option.{none, some}
use native.Mathlib.Omega.{arith}
use lib.ListN.{length, take}
use Rattle.lists.proofs.ReflectLaws.{Reflects, from_true, from_false}
use Rattle.lists.proofs.WriteLaws.{overwrite_front}
use Rattle.rows.specs.Rows.{Yard, row_count, Fresh, Sized}
use Rattle.rows.proofs.RowLaws.{sized_within}
use Rattle.blocks.specs.State.{State, most}
use Rattle.blocks.specs.Position.{Problem}
use Rattle.blocks.specs.Tests.{misplaced_count}
use Rattle.blocks.specs.Method.{Method, plan, method_of, outcome_by, plan_of, plan_outcome}
use Rattle.blocks.specs.Steps as words
use Rattle.blocks.specs.Question.{all_yes, first_no, IsMethod, is_method, asks_method}
use Rattle.blocks.specs.Length.{Lengths}
use Rattle.blocks.specs.Sheet.{Sheet, measured_by, goal_state, Arrives, Accepted, Call, Takes, plan_questions, PlanRefused}
use Rattle.blocks.specs.Answer.{flat, moves, planned, written, plan_answer, plan_space}
use Rattle.blocks.specs.Demands.{HeadCount, Promise}
use Rattle.blocks.proofs.FlatLaws.{pairs_back, length-flat}
use Rattle.blocks.proofs.DecidedLaws.{method_decided}
use Rattle.blocks.proofs.GoalStateLaws.{completed_same, bounded}
use Rattle.blocks.proofs.SheetLaws.{plan_refuses, plan_refusal, plan_accepts, method_no, sheet_no, limit_no, room_no, limit_kept}
use Rattle.blocks.proofs.Theorems.{theorems}
use Rattle.blocks.proofs.SheetTheorems.{sheet_theorems}
use Rattle.refusals.specs.Refusals.{number_of}
use Rattle.refusals.specs.declared.Refusal.{Refusal}
use Rattle.refusals.specs.declared.Question as questions
use Rattle.refusals.specs.declared.Question.{Question}
use Rattle.lengths.specs.Checks.{Examines}
use Rattle.lengths.proofs.ExamineLaws.{accepted, refused_by}
use Rattle.runs.proofs.LentLaws.{unvisited}
use Rattle.planner.specs.Answers.{answer_of, as_method, Names, call_of, beyondᵇ, Plans, Solvable, Ran, Solved}
use Rattle.planner.proofs.BeyondLaws.{beyond_no, beyond_yes}
use Rattle.planner.specs.declared.Call as calls
use Rattle.planner.specs.declared.Method as declared
use Rattle.planner.specs.declared.Planned.{Planned}

-- ---- refusals

refusal : {call : Call} {h : Sheet} {space : List ℕ} (r : Refusal) → PlanRefused call h space (number_of r.question) r.place → Plans call h space (Err r) space
refusal {call} {h} {space} r q =
    let w = plan_refusal call h space (number_of r.question) r.place q in
    record {
      asked = sym ((plan_refuses call h space (number_of r.question) r.place).1 q);
      answer = sym w.0;
      lent = sym w.1;
      told = λ p e. cc;
      promise = λ p e. cc;
      head_count = λ p e. cc;
    }

-- a question without a place
refusal_at : {call : Call} {h : Sheet} {space : List ℕ} {r : Refusal} (q : Question) → r ≡ record { question = q; place = 0 }
    → PlanRefused call h space (number_of q) 0 → Plans call h space (Err r) space
refusal_at {call} {h} {space} q e n = rw e (refusal (record { question = q; place = 0 }) n)

-- ---- the method

-- a number that is none of the three
pub no_method : (n : ℕ) {r : Refusal} → n ≢ 1 → n ≢ 2 → n ≢ 3 → r ≡ record { question = questions.TheVariants.Method; place = 0 } → Names n (Err r)
no_method n a b c e = record { method = by n a b c; refused = λ q f. sym (err_same f) ∙ e }
  where
    by : (j : ℕ) → j ≢ 1 → j ≢ 2 → j ≢ 3 → none ≡ method_of j
    by zero a b c = refl
    by (suc zero) a b c = absurd (a refl)
    by (suc (suc zero)) a b c = absurd (b refl)
    by (suc (suc (suc zero))) a b c = absurd (c refl)
    by (suc (suc (suc (suc j)))) a b c = refl

    err_same : {p q : Refusal} → ◌≡◌ {A = Result declared.Method Refusal} (Err p) (Err q) → p ≡ q
    err_same f = cc

-- one of the three
pub a_method : (n : ℕ) {m : declared.Method} → some (as_method m) ≡ method_of n → Names n (Ok m)
a_method n e = record { method = e; refused = λ q f. cc }

-- question 1 by the name of the number
is_method_lem : (m : ℕ) → Reflects (IsMethod m) (is_method (method_of m))
unfolding asks_method
is_method_lem m = (method_decided m).decides

pub unknown_way : (call : Call) (h : Sheet) (space : List ℕ) {q : Refusal} → Names call.method (Err q) → Plans call h space (Err q) space
unknown_way call h space e =
    refusal_at questions.TheVariants.Method (e.refused _ refl) (method_no call h space (from_false (is_method_lem call.method) (ap is_method (sym e.method))))

-- ---- what is written is told by the method's words, and keeps the promise

module _ {by : Method} {s g : State} {space : List ℕ} {r : ℕ} {space' : List ℕ} {k : ℕ} (v : Ran by s g space r space') (e : k ≡ r) where
  -- the list at the front of the space
  front : moves (take (2 * k) space') ≡ v.moves
  front =
      let p = v.moves in
      let long : 2 * k ≡ length (flat p) = omega (arith, e, v.count, length-flat p) in
      ap₂ (λ i l. moves (take i l)) long v.written ∙ ap moves (overwrite_front (flat p) space) ∙ pairs_back p

  told : Problem s g → words.By by s g (moves (take (2 * k) space'))
  told q = subst (words.By by s g) (sym front) ((theorems.methods by s g q v.moves).0 v.outcome)

-- a checked sheet with room
pub solvable : {ls : Lengths} {s g : State} {space : List ℕ} {y y' : Yard} → Examines (measured_by ls s g) (Ok tt) y y' → Sized y → Fresh row_count y
    → 4 * length s ≤ length space → Solvable s g y' space
solvable w z f r =
    let a = accepted w.checks refl in
    record {
      problem = record { small = a.small; problem = a.problem };
      sized = sized_within z w.within;
      start = w.known refl;
      visits = unvisited f w.within;
      room = r;
    }

-- ---- the ways out of a named method

module _ (o : calls.Call) (h : Sheet) (space : List ℕ) (by : declared.Method) (e : Names o.method (Ok by)) {t : Bool} (b : t ≡ beyondᵇ o.panel (length h.initial)) where
  abbrev call : Call
  call = call_of o

  method : method_of o.method ≡ some (as_method by)
  method = sym e.method

  known : IsMethod o.method
  known = from_true (is_method_lem o.method) (ap is_method method)

  pub limit_way : {q : Refusal} → t ≡ true → q ≡ record { question = questions.TheVariants.Panel; place = 0 } → Plans (call_of o) h space (Err q) space
  limit_way f q =
      let w = beyond_no o.panel (length h.initial) (sym b ∙ f) in
      refusal_at questions.TheVariants.Panel q (limit_no call h space known w.0 w.1)

  kept : t ≡ false → length h.initial ≤ most → Takes call.limit (length h.initial)
  kept f = beyond_yes o.panel (length h.initial) (sym b ∙ f)

  module _ (f : t ≡ false) {y y' : Yard} where
    pub refused_way : {q : Refusal} → Examines h (Err q) y y' → Plans (call_of o) h space (Err q) space
    refused_way {q} w =
        refusal q (sheet_no call h space known (number_of q.question) q.place (limit_kept call.limit h (kept f) (number_of q.question) q.place (refused_by w.checks refl)))

    module _ (w : Examines h (Ok tt) y y') where
      accept : Accepted h
      accept = accepted w.checks refl

      pub room_way : {q : Refusal} → length space < 4 * length h.initial → q ≡ record { question = questions.TheVariants.Space; place = 0 } → Plans (call_of o) h space (Err q) space
      room_way l q = refusal_at questions.TheVariants.Space q (room_no call h space known (kept f accept.small) accept l)

      -- ---- the plan

      module _ (l : 4 * length h.initial ≤ length space) {z : Planned} {space' : List ℕ} (u : Solved (as_method by) h.initial (goal_state h) space z space') where
        v : Ran (as_method by) h.initial (goal_state h) space z.count space'
        v = u.ran

        yes : first_no (plan_questions call h space) ≡ all_yes
        yes = (plan_accepts call h space).1 (record { method = known; takes = kept f accept.small; accepted = accept; room = l })

        given : outcome_by (method_of o.method) h.initial (goal_state h) ≡ plan v.moves
        given = ap (λ i. outcome_by i h.initial (goal_state h)) method ∙ v.outcome

        promised : Promise (Arrives h) (as_method by) h.initial (goal_state h) (moves (take (2 * z.count) space'))
        promised =
            let w = sheet_theorems.demand (as_method by) h accept in
            let same : w.0 ≡ v.moves = cc (w.1, v.outcome) in
            subst (Promise (Arrives h) (as_method by) h.initial (goal_state h)) (same ∙ sym (front v refl)) w.2

        counts : answer_of (Ok z) ≡ record { number = 0; place = 0; count = length v.moves; misplaced = misplaced_count h.initial (goal_state h) }
        counts = ap₂ (λ k m. record { number = 0; place = 0; count = k; misplaced = m }) v.count u.misplaced

        made : Plans (call_of o) h space (Ok z) space'
        unfolding plan_answer plan_space plan_outcome
        made =
            record {
              asked = sym yes;
              answer = counts ∙ sym (ap₂ (λ q i. planned q h.initial (goal_state h) (plan_of i)) yes given);
              lent = v.written ∙ sym (ap₂ (λ q i. written q (flat (plan_of i)) space) yes given);
              told = λ p f b i.
                  let same-plan : z ≡ p = cc in
                  let same : as_method by ≡ b = cc in
                  subst (λ j. words.By j.0 h.initial (goal_state h) (moves (take (2 * j.1.count) space'))) (pair_same same same-plan) (told v refl (bounded accept).problem);
              promise = λ p f b i.
                  let same-plan : z ≡ p = cc in
                  let same : as_method by ≡ b = cc in
                  subst (λ j. Promise (Arrives h) j.0 h.initial (goal_state h) (moves (take (2 * j.1.count) space'))) (pair_same same same-plan) promised;
              head_count = λ p f.
                  let same-plan : z ≡ p = cc in
                  subst (HeadCount (Arrives h) h.initial (goal_state h)) (sym u.misplaced ∙ ap (λ q. q.misplaced) same-plan) (sheet_theorems.head_count h accept);
            }
          where
            pair_same : {b b' : Method} {p p' : Planned} → b ≡ b' → p ≡ p' → ◌≡◌ {A = Method × Planned} (b, p) (b', p')
            pair_same e f = ap₂ (λ i j. (i, j)) e f

      -- the goal list, which is lent on, is the goal state
      pub made_way : 4 * length h.initial ≤ length space → {z : Planned} {space' : List ℕ} → Solved (as_method by) h.initial h.goal space z space'
          → Plans (call_of o) h space (Ok z) space'
      made_way l {z} {space'} u = made l (subst (λ g. Solved (as_method by) h.initial g space z space') (sym (completed_same h.initial h.goal)) u)
