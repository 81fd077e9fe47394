-- The questions in document 01's order: where those of the records are all yes, planning asks 4 on. Assumes nothing.
use Prim.Native.Nat.{ℕ, ◌*◌, ◌≤◌}
use mathlib.Core.Path.{◌≡◌, refl, sym, ◌∙◌, ap}
use mathlib.Core.Bool.{Bool, true, false}
use mathlib.Core.List.{List, [], ◌∷◌, ◌++◌, append_assoc}
use mathlib.Core.Option.{none, some}
use native.Mathlib.Omega.{arith}
use lib.ListN.{length, length-replicate}
use Rattle.blocks.specs.State.{State, most}
use Rattle.blocks.specs.Question.{Question, all_yes, first_no, numbers, IsMethod, asks_method, asks_size, asks_same, asks_outside, asks_shared, asks_floating}
use Rattle.blocks.specs.Question.{asks_plan, state_questions, limit_questions, list_questions}
use Rattle.blocks.specs.Method.{plan_outcome}
use Rattle.blocks.specs.Length.{Lengths, asks_lengths, asks_overhang, overhang_questions, length_questions, Counted}
use Rattle.blocks.specs.Sheet.{Sheet, goal_state, office, sheet_questions, plan_questions}
use Rattle.blocks.proofs.QuestionLaws.{first_no_lem}
use Rattle.blocks.proofs.DecidedLaws.{method_decided, size_decided, same_decided}
use Rattle.blocks.proofs.LengthLaws.{count_decided}
use Rattle.records.specs.declared.Kind.TheVariants.{Nw, Gl, Ln}
use Rattle.records.proofs.ThereLaws.{all_there}
use Rattle.sheets.specs.Sheets.{length_count, nows_at, goals_at, lengths_at, nows, goals, lengths}
use Rattle.responder.specs.Responses.{asks_nows, asks_goals, asks_length_records, asks_tail, sheet_in, lent, program_questions}
use Rattle.responder.specs.Order.{four_on, ordered_questions, InOrder}
use Rattle.responder.proofs.BehindLaws.{same_behind, without_yes, without_room}
use Rattle.responder.proofs.DecidedLaws.{middle, middle_decides}

-- 16 with a yes is left out
without_count : (qs : List Question) (ls : Lengths) (s g : State) (rs : List Question) → Counted ls s
    → first_no (qs ++ (length_questions ls s g ++ rs)) ≡ first_no (qs ++ (overhang_questions ls s g ++ rs))
unfolding length_questions overhang_questions asks_lengths
without_count qs none s g rs count = refl
without_count qs (some l) s g rs count = without_yes qs (asks_lengths l s ∷ []) (overhang_questions (some l) s g ++ rs) (count_decided l s, λ _. tt) (count, tt)

-- 1, 2, 3, 16 and 10 with a yes are left out
four_on_lem : (m : ℕ) (h : Sheet) (space : List ℕ) → IsMethod m → length h.initial ≤ most → length h.goal ≡ length h.initial
    → Counted h.lengths h.initial → 4 * length h.initial ≤ length space → first_no (plan_questions (office m) h space) ≡ first_no (four_on m h)
unfolding sheet_questions limit_questions list_questions asks_method asks_size asks_same
four_on_lem m h space method small even count room =
    let s = h.initial in
    let g = h.goal in
    let ls = h.lengths in
    let last = asks_plan (plan_outcome m s (goal_state h)) ∷ [] in
    let states = state_questions 4 5 6 s ++ state_questions 7 8 9 g in
    without_room m h space room
    ∙ without_yes
    []
    (asks_method m ∷ asks_size (length s) ∷ asks_same s g ∷ [])
    ((states ++ length_questions ls s g) ++ last)
    (method_decided m, λ _. (size_decided (length s), λ _. (same_decided s g, λ _. tt)))
    (method, (small, (even, tt)))
    ∙ ap first_no (append_assoc states (length_questions ls s g) last)
    ∙ without_count states ls s g last count
    ∙ ap first_no (append_assoc (state_questions 4 5 6 s) (state_questions 7 8 9 g) (overhang_questions ls s g ++ last))

pub sheet_order : (n m : ℕ) (bytes : List ℕ) → numbers (ordered_questions false n m bytes) ≡ 1 ∷ 2 ∷ 12 ∷ 12 ∷ 12 ∷ 12 ∷ 4 ∷ 5 ∷ 6 ∷ 7 ∷ 8 ∷ 9 ∷ 13 ∷ []
unfolding asks_method asks_size asks_nows asks_goals asks_length_records asks_tail state_questions asks_outside asks_shared asks_floating overhang_questions asks_plan
sheet_order n m bytes = refl

pub measured_order : (n m : ℕ) (bytes : List ℕ)
    → numbers (ordered_questions true n m bytes) ≡ 1 ∷ 2 ∷ 12 ∷ 12 ∷ 12 ∷ 12 ∷ 4 ∷ 5 ∷ 6 ∷ 7 ∷ 8 ∷ 9 ∷ 17 ∷ 18 ∷ 13 ∷ []
unfolding asks_method asks_size asks_nows asks_goals asks_length_records asks_tail state_questions asks_outside asks_shared asks_floating overhang_questions asks_overhang
    asks_plan
measured_order n m bytes = refl

pub in_order : InOrder
unfolding program_questions asks_method asks_size asks_nows asks_goals asks_length_records asks_tail
in_order t n m bytes = same_behind before (plan_questions (office m) (sheet_in t n bytes) (lent n)) (four_on m (sheet_in t n bytes)) then_four
  where
    s : State
    s = nows bytes 0 n

    g : State
    g = goals bytes 0 n

    before : List Question
    before = asks_method m ∷ middle t n bytes

    counted : (u : Bool) → length s ≡ n → length (lengths bytes 0 n (length_count u n)) ≡ length_count u n → Counted (sheet_in u n bytes).lengths s
    counted true long all = all ∙ sym long
    counted false long all = tt

    then_four : first_no before ≡ all_yes → first_no (plan_questions (office m) (sheet_in t n bytes) (lent n)) ≡ first_no (four_on m (sheet_in t n bytes))
    then_four e =
        let y = (first_no_lem before (method_decided m, λ _. middle_decides t n bytes) all_yes).0 e in
        let small : n ≤ most = y.1.0 in
        let long : length s ≡ n = (all_there Nw bytes (nows_at 0) n).1 y.1.1.0 in
        let even : length g ≡ length s = (all_there Gl bytes (goals_at 0 n) n).1 y.1.1.1.0 ∙ sym long in
        let count = counted t long ((all_there Ln bytes (lengths_at 0 n) (length_count t n)).1 y.1.1.1.1.0) in
        four_on_lem m (sheet_in t n bytes) (lent n) y.0 (omega arith) even count (omega (arith, length-replicate {A = ℕ} (4 * n) 0))
