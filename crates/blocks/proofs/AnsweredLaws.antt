-- What planning and the deadlock test answer where no question is answered no, and the limits of sheets and of the lent space. Assumes nothing.
use mathlib.Core.Path.{◌≡◌, refl, sym, ap, ap₂, ◌∙◌, subst}
use mathlib.Core.Logic.{inl, ◌≢◌, ◌↔◌}
use mathlib.Core.List.{List, ◌++◌}
use mathlib.Core.Option.{none, some}
use Prim.Native.Nat.{ℕ, zero, suc, ◌+◌, ◌*◌, ◌≤◌}
use native.Mathlib.Omega.{arith}
use lib.ListN.{length, take, drop}
use lib.Seq.{take-append_seam, take_at}
use Rattle.blocks.specs.Position.{Problem}
use Rattle.blocks.specs.Move.{Plan}
use Rattle.blocks.specs.Tests.{misplaced_count}
use Rattle.blocks.specs.Loop.{shown_width}
use Rattle.blocks.specs.Method.{Method, Us, Gn1, Gn2, plan, deadlock_loop, deadlock_rows, method_of, number_of, outcome_by, plan_of, plan_outcome}
use Rattle.blocks.specs.Question.{all_yes, first_no, IsMethod, asks_size, asks_room}
use Rattle.blocks.specs.Steps.{By, ByTest}
use Rattle.blocks.specs.Sheet.{Sheet, goal_state, Accepted, Call, office, panel, sheet_questions, plan_questions, deadlock_questions, Refused, DeadlockRefused}
use Rattle.blocks.specs.Answer.{flat, moves, planned, written, plan_answer, plan_space, written_plan}
use Rattle.blocks.specs.Answer.{tested, deadlock_answer, deadlock_space}
use Rattle.blocks.specs.Demands.{NoDeadlock, Shown}
use Rattle.blocks.specs.SheetDemands.{Plannable, Testable, PanelLimits}
use Rattle.blocks.specs.Sheets.{Limits}
use Rattle.blocks.proofs.MethodLaws.{method_written}
use Rattle.blocks.proofs.DeadlockTestLaws as tests
use Rattle.blocks.proofs.DeadlockTestLaws.{rows_size}
use Rattle.blocks.proofs.DeadlockToldLaws.{deadlock_told}
use Rattle.blocks.proofs.FlatLaws.{length-flat, pairs_back}
use Rattle.blocks.proofs.SheetLaws.{behind_late, check_accepts, check_refuses, plan_accepts, plan_refusal, room_no, beyond_limit, beyond_most}
use Rattle.blocks.proofs.GoalStateLaws.{bounded}
use Rattle.blocks.proofs.SheetLaws.{deadlock_accepts, deadlock_refusal}

-- ---- what is answered

pub is_method_lem : (m : Method) → IsMethod (number_of m)
is_method_lem Us = record { low = omega arith; high = omega arith }
is_method_lem Gn1 = record { low = omega arith; high = omega arith }
is_method_lem Gn2 = record { low = omega arith; high = omega arith }

-- a number that is one is a method's
pub named : (m : ℕ) → IsMethod m → (by : Method) × (method_of m ≡ some by)
named zero i = absurd (omega (arith, i.low))
named (suc zero) i = (Us, refl)
named (suc (suc zero)) i = (Gn1, refl)
named (suc (suc (suc zero))) i = (Gn2, refl)
named (suc (suc (suc (suc m)))) i = absurd (omega (arith, i.high))

pub plan_answers : (c : Call) (h : Sheet) (space : List ℕ) → Plannable c h space → (p : Plan) → plan_outcome c.method h.initial (goal_state h) ≡ plan p
    → (plan_answer c h space ≡ record { number = 0; place = 0; count = length p; misplaced = misplaced_count h.initial (goal_state h) })
    × (plan_space c h space ≡ flat p ++ drop (2 * length p) space)
unfolding plan_answer plan_space
plan_answers c h space w p e =
    let yes-all : first_no (plan_questions c h space) ≡ all_yes = (plan_accepts c h space).1 w in (
      ap₂ (λ v o. planned v h.initial (goal_state h) (plan_of o)) yes-all e,
      ap₂ (λ v o. written v (flat (plan_of o)) space) yes-all e ∙ ap (λ k. flat p ++ drop k space) (length-flat p),
    )

pub deadlock_answers : (h : Sheet) (space : List ℕ) → Testable h space
    → (deadlock_answer h space ≡ record { number = 0; place = 0; count = length (deadlock_loop h.initial (goal_state h)) })
    × (deadlock_space h space ≡ deadlock_rows h.initial (goal_state h) ++ drop (shown_width * length (deadlock_loop h.initial (goal_state h))) space)
unfolding deadlock_answer deadlock_space
deadlock_answers h space w =
    let s = h.initial in
    let g = goal_state h in
    let yes-all : first_no (deadlock_questions h space) ≡ all_yes = (deadlock_accepts h space).1 w in (
      ap (λ v. tested v (deadlock_loop s g)) yes-all,
      ap (λ v. written v (deadlock_rows s g) space) yes-all ∙ ap (λ k. deadlock_rows s g ++ drop k space) (rows_size s g),
    )

-- the list in the lent space is the method's plan
module _ (c : Call) (h : Sheet) (space : List ℕ) (w : Plannable c h space) (m : Method) (e : method_of c.method ≡ some m) where
  abbrev problem : Problem h.initial (goal_state h)
  problem = (bounded w.accepted).problem

  answers : (plan_answer c h space ≡ record {
    number = 0;
    place = 0;
    count = length (method_written m h.initial (goal_state h) problem).0;
    misplaced = misplaced_count h.initial (goal_state h);
  })
      × (plan_space c h space ≡ flat (method_written m h.initial (goal_state h) problem).0 ++ drop (2 * length (method_written m h.initial (goal_state h) problem).0) space)
  unfolding plan_outcome
  answers =
      let v = method_written m h.initial (goal_state h) problem in
      plan_answers c h space w v.0 (ap (λ o. outcome_by o h.initial (goal_state h)) e ∙ v.1)

  pub written_is : written_plan (plan_answer c h space) (plan_space c h space) ≡ (method_written m h.initial (goal_state h) problem).0
  written_is =
      let p = (method_written m h.initial (goal_state h) problem).0 in
      let front : take (2 * length p) (flat p ++ drop (2 * length p) space) ≡ flat p =
      ap (λ k. take k (flat p ++ drop (2 * length p) space)) (sym (length-flat p)) ∙ take-append_seam (flat p) (drop (2 * length p) space) in
      ap₂ written_plan answers.0 answers.1 ∙ ap moves front ∙ pairs_back p

  -- and the count is its length
  pub count_is : (plan_answer c h space).count ≡ length (method_written m h.initial (goal_state h) problem).0
  count_is = ap (λ o. o.count) answers.0

  pub written_told : By m h.initial (goal_state h) (written_plan (plan_answer c h space) (plan_space c h space))
  written_told = subst (By m h.initial (goal_state h)) (sym written_is) (method_written m h.initial (goal_state h) problem).2.told

-- and the rows in it are those of the deadlock test
rows_front : (h : Sheet) (space : List ℕ) → Testable h space
    → take (shown_width * (deadlock_answer h space).count) (deadlock_space h space) ≡ deadlock_rows h.initial (goal_state h)
rows_front h space w =
    let r = deadlock_answers h space w in
    let rows = deadlock_rows h.initial (goal_state h) in
    let k = shown_width * length (deadlock_loop h.initial (goal_state h)) in
    ap₂ (λ c l. take (shown_width * c) l) (ap (λ o. o.count) r.0) r.1 ∙ take_at rows (drop k space) k (rows_size h.initial (goal_state h))

-- so what the test says holds of the space
module _ (h : Sheet) (space : List ℕ) (w : Testable h space) where
  tested_problem : Problem h.initial (goal_state h)
  tested_problem = (bounded w.accepted).problem

  loop_count : length (deadlock_loop h.initial (goal_state h)) ≡ (deadlock_answer h space).count
  loop_count = sym (ap (λ o. o.count) (deadlock_answers h space w).0)

  pub deadlock_none : ((deadlock_answer h space).count ≡ 0) ↔ NoDeadlock h.initial (goal_state h)
  deadlock_none = let told = tests.deadlock_none tested_problem in (λ e. told.0 (loop_count ∙ e), λ free. sym loop_count ∙ told.1 free)

  pub deadlock_shown : (deadlock_answer h space).count ≢ 0
      → (blocks : List ℕ) × (length blocks ≡ (deadlock_answer h space).count)
      × Shown h.initial (goal_state h) blocks (take (shown_width * (deadlock_answer h space).count) (deadlock_space h space))
  deadlock_shown m =
      let l = deadlock_loop h.initial (goal_state h) in
      (l, loop_count, subst (Shown h.initial (goal_state h) l) (sym (rows_front h space w)) (tests.deadlock_shown tested_problem (λ e. m (sym loop_count ∙ e))))

  pub deadlock_written : (l : List ℕ) × (length l ≡ (deadlock_answer h space).count)
      × ByTest h.initial (goal_state h) l (take (shown_width * (deadlock_answer h space).count) (deadlock_space h space))
  deadlock_written =
      let l = deadlock_loop h.initial (goal_state h) in
      let told = (deadlock_told h.initial (goal_state h) tested_problem l (deadlock_rows h.initial (goal_state h))).0 (refl, refl) in
      (l, loop_count, subst (ByTest h.initial (goal_state h) l) (sym (rows_front h space w)) told)

-- ---- the limits of sheets and of the lent space

-- an office that is asked by a method, and room
plannable : (m : Method) (h : Sheet) (space : List ℕ) → Accepted h → 4 * length h.initial ≤ length space → Plannable (office (number_of m)) h space
plannable m h space w r = record { method = is_method_lem m; takes = tt; accepted = w; room = r }

plan_passes : (c : Call) (h : Sheet) (space : List ℕ) → Plannable c h space → (plan_answer c h space).number ≡ 0
plan_passes c h space w =
    let n = named c.method w.method in
    ap (λ o. o.number) (answers c h space w n.0 n.1).0

-- one entry too many
long_refused : (h : Sheet) → length h.initial ≡ 4001 → Refused h 2 0
unfolding sheet_questions asks_size
long_refused h e = inl (refl, (refl, λ k. absurd (omega (arith, e, k))))

deadlock_cramped : (h : Sheet) (space : List ℕ) → Accepted h → length space + 1 ≡ shown_width * length h.initial → DeadlockRefused h space 10 0
unfolding deadlock_questions asks_room
deadlock_cramped h space w e = behind_late none h _ 10 0 tt w (inl (refl, (refl, λ k. absurd (omega (arith, e, k)))))

pub limits : Limits
limits =
    record {
      most_passes = λ h e p l. (check_accepts h).1 (record { small = omega (arith, e); problem = p; measured = l });
      more_refused = λ h e. check_refuses h 2 0 (long_refused h e);
      room_passes = λ m h space w e. plan_passes (office (number_of m)) h space (plannable m h space w (omega (arith, e)));
      room_refused = λ m h space w e.
          (plan_refusal (office (number_of m)) h space 10 0 (room_no (office (number_of m)) h space (is_method_lem m) tt w (omega (arith, e)))).0;
      rows_pass = λ h space w e. ap (λ o. o.number) (deadlock_answers h space (record { accepted = w; room = omega (arith, e) })).0;
      rows_refused = λ h space w e. (deadlock_refusal h space 10 0 (deadlock_cramped h space w e)).0;
    }

pub panel_limits : PanelLimits
panel_limits =
    record {
      most_passes = λ m h space e p l r.
          plan_passes (panel (number_of m)) h space
          (record { method = is_method_lem m; takes = omega (arith, e); accepted = record { small = omega (arith, e); problem = p; measured = l }; room = r });
      more_refused = λ m h space e. beyond_limit (panel (number_of m)) h space (is_method_lem m) (omega (arith, e)) (λ l. absurd (omega (arith, e, l)));
      office_most_refused = λ m h space e. beyond_limit (panel (number_of m)) h space (is_method_lem m) (omega (arith, e)) (λ l. absurd (omega (arith, e, l)));
      too_many_refused = λ m h space e. beyond_most (panel (number_of m)) h space (is_method_lem m) (omega (arith, e));
    }
