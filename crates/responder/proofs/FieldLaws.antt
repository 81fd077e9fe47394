-- Every field of an answer fits two bytes, so an answer is bytes: slabs and destinations are at most 4,000, counts at most 8,000, places at most 12,001.
-- Assumes nothing.
use Prim.Native.Nat.{ℕ, ◌+◌, ◌*◌, ◌≤◌, ◌<◌}
use mathlib.Core.Logic.{◌⊎◌, inl, inr}
use mathlib.Core.List.{List, [], ◌∷◌, ◌++◌}
use mathlib.Core.Option.{none, some}
use native.Mathlib.Omega.{arith}
use lib.ListN.{length}
use Rattle.blocks.specs.State.{State, most, put}
use Rattle.blocks.specs.Move.{◌⟶◌, Plan, LegalPlan}
use Rattle.blocks.specs.Method.{plan_outcome}
use Rattle.blocks.specs.Question.{Question, AllYes, FirstNo, asks_method, asks_size, asks_outside, asks_shared, asks_floating, asks_plan, state_questions}
use Rattle.blocks.specs.Sheet.{Sheet, goal_state}
use Rattle.blocks.specs.Length.{Lengths, asks_overhang, overhang_questions}
use Rattle.blocks.proofs.StateLaws.{length-put}
use Rattle.blocks.proofs.QuestionLaws.{sentence_append}
use Rattle.records.specs.Records.{record_bytes}
use Rattle.records.specs.RoundTrip.{Bytes}
use Rattle.records.specs.declared.Kind.{Kind}
use Rattle.records.specs.declared.Kind.TheVariants.{Pl, Lf, No}
use Rattle.records.proofs.RoundTrip.{round_trip, small_nil, small_append}
use Rattle.sheets.specs.Sheets.{nows, goals}
use Rattle.sheets.proofs.PlaceLaws.{length_count_le}
use Rattle.sheets.proofs.SheetLaws.{nows_le, goals_le}
use Rattle.responder.specs.Responses.{asks_nows, asks_goals, asks_length_records, asks_tail, record_questions, sheet_in, refusal_bytes, move_bytes, plan_bytes}
use Rattle.responder.specs.Order.{four_on}
use Rattle.responder.specs.Refusals.{ProgramRefused}

record_bytes_lem : (k : Kind) (x y : ℕ) → x < 65536 → y < 65536 → Bytes (record_bytes k (x ∷ y ∷ []))
record_bytes_lem k x y = (round_trip k x y 0 []).bytes

-- ---- a plan

lift_bytes : (p : Plan) (s : State) → length s ≤ most → LegalPlan s p → Bytes (move_bytes p)
lift_bytes [] s small legal = small_nil
lift_bytes ((a ⟶ x) ∷ p) s small (l, legal) =
    small_append
    (record_bytes Lf (a ∷ x ∷ []))
    (record_bytes_lem Lf a x (omega (arith, l.block.high)) (omega (arith, l.inside)))
    (lift_bytes p (put s a x) (omega (arith, length-put s a x)) legal)

pub plan_bytes_lem : (c d : ℕ) (p : Plan) (s : State) → c ≤ 2 * most → d ≤ most → length s ≤ most → LegalPlan s p → Bytes (plan_bytes c d p)
plan_bytes_lem c d p s few less small legal = small_append (record_bytes Pl (c ∷ d ∷ [])) (record_bytes_lem Pl c d (omega arith) (omega arith)) (lift_bytes p s small legal)

-- ---- a refusal

-- A number and a place that a record NO can say.
abbrev Sayable : ℕ → ℕ → Type 0
Sayable k p = (k ≤ 18) × (p ≤ 3 * most + 1)

state_sayable : {k₁ k₂ k₃ : ℕ} (s : State) (k p : ℕ) → k₁ ≤ 18 → k₂ ≤ 18 → k₃ ≤ 18 → length s ≤ most → FirstNo (state_questions k₁ k₂ k₃ s) k p → Sayable k p
unfolding state_questions asks_outside asks_shared asks_floating
state_sayable s k p h₁ h₂ h₃ small (inl (e, f)) = (omega arith, omega (arith, f.high))
state_sayable s k p h₁ h₂ h₃ small (inr (_, inl (e, f))) = (omega arith, omega (arith, f.high))
state_sayable s k p h₁ h₂ h₃ small (inr (_, inr (_, inl (e, f)))) = (omega arith, omega (arith, f.high))
state_sayable s k p h₁ h₂ h₃ small (inr (_, inr (_, inr (_, f)))) = absurd f

overhang_sayable : (ls : Lengths) (s g : State) (k p : ℕ) → length s ≤ most → length g ≤ most → FirstNo (overhang_questions ls s g) k p → Sayable k p
unfolding overhang_questions asks_overhang
overhang_sayable none s g k p small even f = absurd f
overhang_sayable (some l) s g k p small even (inl (e, f)) = (omega arith, omega (arith, f.high))
overhang_sayable (some l) s g k p small even (inr (_, inl (e, f))) = (omega arith, omega (arith, f.high))
overhang_sayable (some l) s g k p small even (inr (_, inr (_, f))) = absurd f

four_sayable : (m : ℕ) (h : Sheet) (k p : ℕ) → length h.initial ≤ most → length h.goal ≤ most → FirstNo (four_on m h) k p → Sayable k p
unfolding asks_plan
four_sayable m h k p small even f = first ((sentence_append (state_questions 4 5 6 h.initial) (state_questions 7 8 9 h.goal ++ (over ++ last)) k p).0 f)
  where
    s : State
    s = h.initial

    g : State
    g = h.goal

    over : List Question
    over = overhang_questions h.lengths s g

    last : List Question
    last = asks_plan (plan_outcome m s (goal_state h)) ∷ []

    thirteen : FirstNo (asks_plan (plan_outcome m s (goal_state h)) ∷ []) k p → Sayable k p
    thirteen (inl (e, (place, _))) = (omega arith, omega arith)
    thirteen (inr (_, f)) = absurd f

    third : FirstNo over k p ⊎ (AllYes over × FirstNo last k p) → Sayable k p
    third (inl f) = overhang_sayable h.lengths s g k p small even f
    third (inr (_, f)) = thirteen f

    second : FirstNo (state_questions 7 8 9 g) k p ⊎ (AllYes (state_questions 7 8 9 g) × FirstNo (over ++ last) k p) → Sayable k p
    second (inl f) = state_sayable g k p (omega arith) (omega arith) (omega arith) even f
    second (inr (_, f)) = third ((sentence_append over last k p).0 f)

    first : FirstNo (state_questions 4 5 6 s) k p ⊎ (AllYes (state_questions 4 5 6 s) × FirstNo (state_questions 7 8 9 g ++ (over ++ last)) k p) → Sayable k p
    first (inl f) = state_sayable s k p (omega arith) (omega arith) (omega arith) small f
    first (inr (_, f)) = second ((sentence_append (state_questions 7 8 9 g) (over ++ last) k p).0 f)

refused_sayable : (bytes : List ℕ) (k p : ℕ) → ProgramRefused bytes k p → Sayable k p
unfolding asks_method asks_size asks_nows asks_goals asks_length_records asks_tail
refused_sayable bytes k p (ProgramRefused.head _ number place) = (omega arith, omega arith)
refused_sayable bytes k p (ProgramRefused.behind t n m _ (inl (e, (place, _)))) = (omega arith, omega arith)
refused_sayable bytes k p (ProgramRefused.behind t n m _ (inr (_, inl (e, (place, _))))) = (omega arith, omega arith)
refused_sayable bytes k p (ProgramRefused.behind t n m _ (inr (_, inr (small, rest)))) = by rest
  where
    by : FirstNo (record_questions t n bytes ++ four_on m (sheet_in t n bytes)) k p → Sayable k p
    by (inl (e, (i, w, place))) = (omega arith, omega (arith, w.within))
    by (inr (_, inl (e, (i, w, place)))) = (omega arith, omega (arith, w.within))
    by (inr (_, inr (_, inl (e, (i, w, place))))) = (omega arith, omega (arith, w.within, length_count_le t n))
    by (inr (_, inr (_, inr (_, inl (e, (place, _)))))) = (omega arith, omega (arith, length_count_le t n))
    by (inr (_, inr (_, inr (_, inr (_, f))))) =
        let few : length (nows bytes 0 n) ≤ most = omega (arith, nows_le bytes 0 n) in
        let fewer : length (goals bytes 0 n) ≤ most = omega (arith, goals_le bytes 0 n) in
        four_sayable m (sheet_in t n bytes) k p few fewer f

pub refusal_bytes_lem : (bytes : List ℕ) (k p : ℕ) → ProgramRefused bytes k p → Bytes (refusal_bytes k p)
refusal_bytes_lem bytes k p r = let h = refused_sayable bytes k p r in record_bytes_lem No k p (omega (arith, h.0)) (omega (arith, h.1))
