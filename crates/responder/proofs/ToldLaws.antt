-- What the answer tells, read back: the theorem of `specs/Told.antt`. What is written is read back, and it is the plan of the head's method. Assumes nothing.
use Prim.Native.Nat.{ℕ, zero, suc, ◌+◌, ◌*◌, ◌≤◌}
use mathlib.Core.Path.{◌≡◌, refl, sym, ◌∙◌, ap, ap₂, subst}
use mathlib.Core.Logic.{inl, inr}
use mathlib.Core.Bool.{Bool}
use mathlib.Core.List.{List, [], ◌∷◌, ◌++◌, append_assoc, append-nil}
use mathlib.Core.Option.{some}
use Rattle.std.specs.Prelude.{None}
use native.Mathlib.Omega.{arith}
use lib.Dec.{ltb}
use lib.ListN.{length, length-append, length-replicate}
use Rattle.lists.specs.Search.{pick}
use Rattle.blocks.specs.State.{State, most}
use Rattle.blocks.specs.Move.{◌⟶◌, Plan}
use Rattle.blocks.specs.Tests.{misplaced_count}
use Rattle.blocks.specs.Method.{Method, Us, Gn1, Gn2, plan, outcome, number_of, method_of, outcome_by, plan_of, plan_outcome}
use Rattle.blocks.specs.Question.{Asked, all_yes, no', IsMethod}
use Rattle.blocks.specs.Answer.{PlanAnswer}
use Rattle.blocks.specs.Sheet.{Sheet, goal_state, Arrives, office}
use Rattle.blocks.specs.Demands.{Promise}
use Rattle.blocks.proofs.MeasureLaws.{misplaced_le}
use Rattle.blocks.proofs.QuestionLaws.{clash}
use Rattle.blocks.proofs.Theorems.{theorems}
use Rattle.blocks.proofs.GoalStateLaws.{bounded}
use Rattle.blocks.proofs.SheetTheorems.{sheet_theorems}
use Rattle.records.specs.Marks.{marks, mark_of, size}
use Rattle.records.specs.Records.{found, has_record, record_at, record_bytes}
use Rattle.std.proofs.lemmas.Option.{same_Some}
use Rattle.records.specs.declared.Fields.{Fields}
use Rattle.records.specs.declared.Kind.{Kind}
use Rattle.records.specs.declared.Kind.TheVariants.{Pl, Lf, No}
use Rattle.records.proofs.RoundTrip.{read_between}
use Rattle.records.proofs.WriteLaws.{length_record}
use Rattle.sheets.specs.Sheets.{nows}
use Rattle.responder.specs.Responses.{sheet_in, lent, refusal_bytes, move_bytes, plan_bytes, plan_records, reply, sheet_response, response_by, response_to}
use Rattle.responder.specs.Refusals.{asked, Complete, ProgramRefused}
use Rattle.responder.specs.Told.{and_lift, lifts_at, TellsPlan, Tells, Told}
use Rattle.responder.proofs.SizeLaws.{size_lf}
use Rattle.responder.proofs.MoveLaws.{length-move_bytes}
use Rattle.responder.proofs.FieldLaws.{plan_bytes_lem, refusal_bytes_lem}
use Rattle.responder.proofs.RefusalLaws.{head_found, all_yes_lem, refused_response, refusals}

-- ---- records read back

-- A record of two fields that stands between others.
two_between : (k : Kind) (x y : ℕ) (front rest : List ℕ) → (mark_of k).fields ≡ 2
    → record_at k (front ++ (record_bytes k (x ∷ y ∷ []) ++ rest)) (length front) ≡ found x y
two_between k x y front rest two = read_between k x y front rest ∙ ap (λ f. found x (pick (ltb 1 f) y)) two

lift_between : (a x : ℕ) (front rest : List ℕ) → record_at Lf (front ++ (record_bytes Lf (a ∷ x ∷ []) ++ rest)) (length front) ≡ found a x
unfolding mark_of marks
lift_between a x front rest = two_between Lf a x front rest refl

plan_read : (c d : ℕ) (p : Plan) → record_at Pl (plan_bytes c d p) 0 ≡ found c d
unfolding mark_of marks
plan_read c d p = two_between Pl c d [] (move_bytes p) refl

refusal_read : (k p : ℕ) → record_at No (refusal_bytes k p) 0 ≡ found k p
unfolding mark_of marks
refusal_read k p = ap (λ l. record_at No l 0) (sym (append-nil (refusal_bytes k p))) ∙ two_between No k p [] [] refl

-- NO is not PL
refusal_other : (k p : ℕ) → record_at Pl (refusal_bytes k p) 0 ≡ None
unfolding mark_of marks has_record record_at record_bytes
refusal_other k p = refl

-- two refusals with the same bytes are one, and none is a plan
pub refusal_same : {k p i j : ℕ} → refusal_bytes k p ≡ refusal_bytes i j → (k ≡ i) × (p ≡ j)
refusal_same {k} {p} {i} {j} e =
    let both = same_Some _ _ (sym (refusal_read k p) ∙ ap (λ l. record_at No l 0) e ∙ refusal_read i j) in
    (ap (λ (f : Fields). f.first) both, ap (λ (f : Fields). f.second) both)

pub plan_not_refusal : (c d : ℕ) (p : Plan) (k q : ℕ) → plan_bytes c d p ≡ refusal_bytes k q → ⊥
plan_not_refusal c d p k q e =
    let both : found c d ≡ None = sym (plan_read c d p) ∙ ap (λ l. record_at Pl l 0) e ∙ refusal_other k q in
    cc

-- Lifts one after another, whatever stands before and behind them.
lifts_back : (front : List ℕ) (p : Plan) (rest : List ℕ) → lifts_at (front ++ (move_bytes p ++ rest)) (length front) (length p) ≡ p
unfolding lifts_at
lifts_back front [] rest = refl
lifts_back front ((a ⟶ x) ∷ p) rest =
    let first : List ℕ = record_bytes Lf (a ∷ x ∷ []) in
    let more : List ℕ = move_bytes p ++ rest in
    let long : length (front ++ first) ≡ length front + size Lf = length-append front first ∙ ap (λ n. length front + n) (length_record Lf a x) in
    let apart : front ++ ((first ++ move_bytes p) ++ rest) ≡ front ++ (first ++ more) = ap (λ l. front ++ l) (append_assoc first (move_bytes p) rest) in
    let next : lifts_at (front ++ (first ++ more)) (length front + size Lf) (length p) ≡ p =
    ap₂ (λ l i. lifts_at l i (length p)) (sym (append_assoc front first more)) (sym long) ∙ lifts_back (front ++ first) p rest in
    ap (λ l. lifts_at l (length front) (suc (length p))) apart ∙ ap₂ and_lift (lift_between a x front more) next

-- ---- a plan

-- Numbers 1 to 3 are methods.
named : (m : ℕ) → IsMethod m → (by : Method) × (m ≡ number_of by) × (method_of m ≡ some by)
named zero i = absurd (omega (arith, i.low))
named (suc zero) i = (Us, refl, refl)
named (suc (suc zero)) i = (Gn1, refl, refl)
named (suc (suc (suc zero))) i = (Gn2, refl, refl)
named (suc (suc (suc (suc m)))) i = absurd (omega (arith, i.high))

module _ (bytes : List ℕ) (t : Bool) (n : ℕ) (by : Method) (same : method_of (number_of by) ≡ some by) (w : Complete bytes t n (number_of by)) where
  abbrev h : Sheet
  h = sheet_in t n bytes

  abbrev s : State
  s = nows bytes 0 n

  abbrev g : State
  g = goal_state h

  abbrev demand : (p : Plan) × (outcome by s g ≡ plan p) × Promise (Arrives h) by s g p
  demand = sheet_theorems.demand by h w.accepted

  abbrev p : Plan
  p = demand.0

  abbrev answer : List ℕ
  answer = plan_bytes (length p) (misplaced_count s g) p

  room : 4 * length s ≤ length (lent n)
  room = omega (arith, w.nows_read_lem.long, length-replicate {A = ℕ} (4 * n) 0)

  written : plan_records (number_of by) h (lent n) ≡ answer
  unfolding plan_outcome
  written =
      let lifts : plan_of (outcome_by (method_of (number_of by)) s g) ≡ p = ap (λ o. plan_of (outcome_by o s g)) same ∙ ap plan_of demand.1 in
      let answers =
      (sheet_theorems.plan_answers (office (number_of by)) h (lent n) (record { method = w.begun.method; takes = tt; accepted = w.accepted; room = room }) p
      (ap (λ o. outcome_by o s g) same ∙ demand.1)).0 in
      ap₂ (λ (a : PlanAnswer) q. plan_bytes a.count a.misplaced q) answers lifts

  plan_response : response_to bytes ≡ answer
  unfolding response_to sheet_response
  plan_response =
      ap (λ h. response_by h bytes) (head_found bytes t n (number_of by) w.begun.head)
      ∙ ap (λ a. reply a (plan_records (number_of by) h (lent n))) (all_yes_lem bytes t n (number_of by) w)
      ∙ written

  lifts_read : lifts_at answer (size Pl) (length p) ≡ p
  lifts_read =
      let head : List ℕ = record_bytes Pl (length p ∷ misplaced_count s g ∷ []) in
      ap₂ (λ l i. lifts_at (head ++ l) i (length p)) (sym (append-nil (move_bytes p))) (sym (length_record Pl (length p) (misplaced_count s g)))
      ∙ lifts_back head p []

  long : length answer ≡ size Pl + length p * size Lf
  long =
      let six : length p * size Lf ≡ 6 * length p = rw size_lf (omega arith) in
      length-append (record_bytes Pl (length p ∷ misplaced_count s g ∷ [])) (move_bytes p) ∙ omega (arith, length_record Pl (length p) (misplaced_count s g), length-move_bytes p, six)

  tells_plan : TellsPlan bytes answer (length p) (misplaced_count s g)
  tells_plan =
      record {
        measured = t;
        n = n;
        method = by;
        sheet = w;
        lifts = ap length lifts_read;
        end = long;
        head_count = sheet_theorems.head_count h w.accepted;
        given = demand.1 ∙ ap plan (sym lifts_read);
        told = (theorems.methods by s g (bounded w.accepted).problem (lifts_at answer (size Pl) (length p))).0 (demand.1 ∙ ap plan (sym lifts_read));
        promise = subst (Promise (Arrives h) by s g) (sym lifts_read) demand.2;
      }

  plan_tells : Tells bytes answer
  plan_tells =
      let read = plan_read (length p) (misplaced_count s g) p in
      record {
        either = inl (length p, misplaced_count s g, read);
        planned = (λ _. (length p, misplaced_count s g, read), λ _. (t, n, number_of by, w));
        promised = promised;
        refused = λ k q. (λ r. absurd (clash (sym yes ∙ (refusals.refuses bytes k q).1 r)), λ e. absurd (other k q e));
        small = plan_bytes_lem (length p) (misplaced_count s g) p s few less w.accepted.small demand.2.arrives.solves.legal;
      }
    where
      yes : asked bytes ≡ all_yes
      yes = (refusals.accepts bytes).1 (t, n, number_of by, w)

      few : length p ≤ 2 * most
      few = omega (arith, theorems.plan_fits by s g (bounded w.accepted).problem p demand.1, w.accepted.small)

      less : misplaced_count s g ≤ most
      less = omega (arith, misplaced_le s g, w.accepted.small)

      promised : (c d : ℕ) → record_at Pl answer 0 ≡ found c d → TellsPlan bytes answer c d
      promised c d e =
          let both = same_Some _ _ (sym (plan_read (length p) (misplaced_count s g) p) ∙ e) in
          let count : length p ≡ c = ap (λ (f : Fields). f.first) both in
          let misplaced : misplaced_count s g ≡ d = ap (λ (f : Fields). f.second) both in
          subst (λ j. TellsPlan bytes answer c j) misplaced (subst (λ i. TellsPlan bytes answer i (misplaced_count s g)) count tells_plan)

      other : (k q : ℕ) → answer ≡ refusal_bytes k q → ⊥
      other k q e = plan_not_refusal (length p) (misplaced_count s g) p k q e

-- ---- a refusal

module _ (bytes : List ℕ) (k p : ℕ) (a : asked bytes ≡ no' k p) where
  no_plan : (c d : ℕ) → record_at Pl (refusal_bytes k p) 0 ≡ found c d → ⊥
  no_plan c d e =
      let both : None ≡ found c d = sym (refusal_other k p) ∙ e in
      cc

  refusal_tells : Tells bytes (refusal_bytes k p)
  refusal_tells =
      record {
        either = inr (k, p, refl);
        planned = (λ c. absurd (clash (sym ((refusals.accepts bytes).1 c) ∙ a)), λ c. absurd (no_plan c.0 c.1 c.2));
        promised = λ c d e. absurd (no_plan c d e);
        refused = λ i j. (to i j, from i j);
        small = refusal_bytes_lem bytes k p ((refusals.refuses bytes k p).0 a);
      }
    where
      to : (i j : ℕ) → ProgramRefused bytes i j → refusal_bytes k p ≡ refusal_bytes i j
      to i j r =
          let both : no' k p ≡ no' i j = sym a ∙ (refusals.refuses bytes i j).1 r in
          let number : k ≡ i = cc in
          let place : p ≡ j = cc in
          ap₂ refusal_bytes number place

      from : (i j : ℕ) → refusal_bytes k p ≡ refusal_bytes i j → ProgramRefused bytes i j
      from i j e = let same = refusal_same e in (refusals.refuses bytes i j).0 (a ∙ ap₂ no' same.0 same.1)

-- ---- the theorem

pub told : Told
told bytes = by (asked bytes) refl
  where
    by : (a : Asked) → asked bytes ≡ a → Tells bytes (response_to bytes)
    by (no' k p) a = subst (Tells bytes) (sym (refused_response bytes k p a)) (refusal_tells bytes k p a)
    by all_yes a = of ((refusals.accepts bytes).0 a)
      where
        of : (t : Bool) × (n : ℕ) × (m : ℕ) × Complete bytes t n m → Tells bytes (response_to bytes)
        of (t, n, m, w) = method (named m w.begun.method)
          where
            method : (b : Method) × (m ≡ number_of b) × (method_of m ≡ some b) → Tells bytes (response_to bytes)
            method (b, e, f) =
                let same : method_of (number_of b) ≡ some b = ap method_of (sym e) ∙ f in
                let c : Complete bytes t n (number_of b) = subst (Complete bytes t n) e w in
                subst (Tells bytes) (sym (plan_response bytes t n b same c)) (plan_tells bytes t n b same c)
