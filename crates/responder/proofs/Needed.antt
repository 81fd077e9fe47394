-- Where a record ends and more bytes are wanted, some that follow change the answer: the head behind nothing, the record that is missing behind a
-- sheet that is not whole, and a tail behind one that is. Assumes nothing.
use Prim.Native.Nat.{ℕ, zero, suc, ◌+◌, ◌-◌, ◌*◌, ◌≤◌, ◌<◌}
use mathlib.Core.Path.{◌≡◌, refl, sym, ◌∙◌, ap, ap₂}
use mathlib.Core.Logic.{inl, inr, ◌≢◌}
use mathlib.Core.Bool.{Bool, false, ◌&&◌, cond, true≢false}
use mathlib.Core.List.{List, [], ◌∷◌, ◌++◌}
use Rattle.std.specs.Prelude.{None, Ok, Err}
use native.Mathlib.Omega.{arith}
use lib.ListN.{length, get_or, length-append}
use Rattle.blocks.specs.Question.{Asked, all_yes, no', first_no, FirstNo, IsMethod}
use Rattle.blocks.specs.Question.{asks_method, asks_size}
use Rattle.blocks.specs.Sheet.{Sheet, office}
use Rattle.blocks.specs.Answer.{plan_for, plan_answer}
use Rattle.blocks.proofs.SheetLaws.{plan_among}
use Rattle.lists.proofs.ReflectLaws.{Reflects, holds, fails, to_true, ltb_reflects}
use Rattle.planner.specs.Answers.{Answer}
use Rattle.records.specs.Marks.{marks, mark_of, size}
use Rattle.records.specs.Records.{record_at, record_bytes, has_record, field_of}
use Rattle.records.specs.declared.Kind.{Kind}
use Rattle.records.specs.declared.Kind.TheVariants.{Hd, Nw, Gl, Ln}
use Rattle.records.proofs.RoundTrip.{round_trip}
use Rattle.records.proofs.ThereLaws.{missing_unique}
use Rattle.sheets.specs.declared.Unread.TheVariants.{Headless, Long, Broken}
use Rattle.sheets.specs.Sheets as case
use Rattle.sheets.specs.Sheets.{there, head_at, length_count, nows_at, goals_at, lengths_at, end_at, nows, goals, lengths, sheet_at}
use Rattle.sheets.specs.Cases.{RecordMissing, IsBroken, IsWhole, Says}
use Rattle.sheets.proofs.HeadLaws.{head_room}
use Rattle.sheets.proofs.SheetLaws.{sheet_says}
use Rattle.responder.specs.Responses.{asks_nows, asks_goals, asks_length_records, asks_tail, sheet_in, lent, program_questions}
use Rattle.responder.specs.Responses.{refusal_bytes, plan_records, reply, sheet_response, response_to}
use Rattle.responder.specs.Wanted.{decided_by, wanted_by, wanted}
use Rattle.responder.specs.Answers.{no_method, no_record, refused_as}
use Rattle.responder.specs.Bounds.{RecordEnds, Undecided, Needed}
use Rattle.responder.proofs.ToldLaws.{refusal_same, plan_not_refusal}
use Rattle.responder.proofs.PrefixLaws.{entries_room, entries_grow, one, one_there, one_bytes}
use Rattle.responder.proofs.DecidedLaws.{method_reflects, sheet_refuses}
use Rattle.responder.proofs.AnsweredLaws.{responds, headless_way, unnamed_way, broken_way, whole_room, tail_way}
use Rattle.responder.proofs.InputBound.{head_stays, whole_stays, nows_stay, goals_stay}

-- ---- answers that are told apart

-- A "no" that is answered is the first of the questions.
first_of : (t : Bool) (n m : ℕ) (bytes : List ℕ) (p : ℕ) → sheet_response t n m bytes ≡ refusal_bytes 12 p → FirstNo (program_questions t n m bytes) 12 p
unfolding sheet_response
first_of t n m bytes p = by (first_no (program_questions t n m bytes)) refl
  where
    h : Sheet
    h = sheet_in t n bytes

    apart : plan_records m h (lent n) ≡ refusal_bytes 12 p → ⊥
    apart = plan_not_refusal (plan_answer (office m) h (lent n)).count (plan_answer (office m) h (lent n)).misplaced (plan_for (office m) h) 12 p

    by : (a : Asked) → first_no (program_questions t n m bytes) ≡ a → reply a (plan_records m h (lent n)) ≡ refusal_bytes 12 p
        → FirstNo (program_questions t n m bytes) 12 p
    by all_yes e f = absurd (apart f)
    by (no' k q) e f =
        let same = refusal_same f in
        (sheet_refuses t n m bytes 12 p).0 (e ∙ ap₂ no' same.0 same.1)

-- It is not 12 with place p where no row of question 12 is answered so.
record NotSo (n k : ℕ) (bytes : List ℕ) (p : ℕ) : Type 0 where
  pub now : p ≡ 1 + length (nows bytes 0 n) → length (nows bytes 0 n) ≡ n
  pub goal : p ≡ 1 + n + length (goals bytes 0 n) → length (goals bytes 0 n) ≡ n
  pub measure : p ≡ 1 + n + n + length (lengths bytes 0 n k) → length (lengths bytes 0 n k) ≡ k
  pub tail : p ≡ 2 * n + k + 1 → length bytes ≡ end_at 0 n k

not_first : (t : Bool) (n m : ℕ) (bytes : List ℕ) {p : ℕ} → NotSo n (length_count t n) bytes p → FirstNo (program_questions t n m bytes) 12 p → ⊥
unfolding program_questions asks_method asks_size asks_nows asks_goals asks_length_records asks_tail
not_first t n m bytes w (inl f) = omega (arith, f.0)
not_first t n m bytes w (inr (i, inl f)) = omega (arith, f.0)
not_first t n m bytes w (inr (i, inr (l, inl (_, (c, f, e))))) =
    let same : length (nows bytes 0 n) ≡ c = missing_unique Nw bytes (nows_at 0) n f in
    omega (arith, w.now (omega (arith, e, same)), same, f.within)
not_first t n m bytes w (inr (i, inr (l, inr (a, inl (_, (d, f, e)))))) =
    let same : length (goals bytes 0 n) ≡ d = missing_unique Gl bytes (goals_at 0 n) n f in
    omega (arith, w.goal (omega (arith, e, same)), same, f.within)
not_first t n m bytes w (inr (i, inr (l, inr (a, inr (b, inl (_, (d, f, e))))))) =
    let same : length (lengths bytes 0 n (length_count t n)) ≡ d = missing_unique Ln bytes (lengths_at 0 n) (length_count t n) f in
    omega (arith, w.measure (omega (arith, e, same)), same, f.within)
not_first t n m bytes w (inr (i, inr (l, inr (a, inr (b, inr (c, inl (_, (e, f)))))))) = omega (arith, w.tail e, f)
not_first t n m bytes {p} w (inr (i, inr (l, inr (a, inr (b, inr (c, inr (_, f))))))) =
    true≢false (sym (plan_among (office m) (sheet_in t n bytes) (lent n) 12 p f))

-- ---- what is wanted

module _ (bytes : List ℕ) (more : wanted bytes ≢ 0) where
  -- behind a head: it says a method, and fewer bytes are there than decide
  open_behind : {t : Bool} {n m : ℕ} → head_at bytes 0 ≡ there t n m → IsMethod m × (length bytes < decided_by (sheet_at bytes 0))
  unfolding wanted
  open_behind {t} {n} {m} e = by (method_reflects m) (ltb_reflects (length bytes) (decided_by (sheet_at bytes 0))) (λ z. more (ap (λ f. wanted_by f bytes) e ∙ z))
    where
      by : {a u : Bool} → Reflects (IsMethod m) a → Reflects (length bytes < decided_by (sheet_at bytes 0)) u
          → cond (a && u) (end_at 0 n (length_count t n) + 1 - length bytes) 0 ≢ 0 → IsMethod m × (length bytes < decided_by (sheet_at bytes 0))
      by (holds i) (holds l) z = (i, l)
      by (holds i) (fails l) z = absurd (z refl)
      by (fails i) (holds l) z = absurd (z refl)
      by (fails i) (fails l) z = absurd (z refl)

  open_head : head_at bytes 0 ≡ None → length bytes < size Hd
  unfolding wanted
  open_head e = let z : size Hd - length bytes ≢ 0 = λ z. more (ap (λ f. wanted_by f bytes) e ∙ z) in omega (arith, z)

-- Question 1 has a yes.
asked_as : {m : ℕ} → IsMethod m → (p : ℕ) → ◌≡◌ {A = Answer} (Err (no_record p)) (Err (refused_as m (no_record p)))
asked_as {m} i p = ap (λ t. Err (cond t (no_record p) no_method)) (sym (to_true (method_reflects m) i))

-- A record ends at the place, and the bytes do not reach the end of the next.
exact : (at q : ℕ) {p : ℕ} → p ≡ 1 + q → RecordEnds at → nows_at 0 + q * size Nw ≤ at → at < size Hd + p * size Nw → at ≡ nows_at 0 + q * size Nw
unfolding mark_of marks
exact at q s (inl z) l h = absurd (omega (arith, z, l))
exact at q s (inr (i, e)) l h = omega (arith, s, e, l, h)

goal_place : (n d : ℕ) → goals_at 0 n + d * size Gl ≡ nows_at 0 + (n + d) * size Nw
unfolding mark_of marks
goal_place n d = omega arith

length-place : (n d : ℕ) → lengths_at 0 n + d * size Ln ≡ nows_at 0 + (n + n + d) * size Nw
unfolding mark_of marks
length-place n d = omega arith

-- ---- the cases of a sheet

head_alone : head_at (record_bytes Hd (0 ∷ 0 ∷ [])) 0 ≡ there false 0 0
unfolding record_bytes mark_of marks head_at record_at has_record field_of
head_alone = refl

headless : (bytes : List ℕ) → head_at bytes 0 ≡ None → length bytes ≡ 0 → Undecided bytes
headless [] e z = record { more = empty; small = (round_trip Hd 0 0 0 []).bytes (omega arith) (omega arith); other = λ x. clash (refusal_same (alone ∙ x ∙ sym nothing)).0 }
  where
    empty : List ℕ
    empty = record_bytes Hd (0 ∷ 0 ∷ [])

    low : 1 ≤ 0 → ⊥
    low l = omega arith

    alone : refusal_bytes 1 0 ≡ response_to empty
    alone = (unnamed_way empty head_alone [] (λ i. low i.low)).same

    nothing : refusal_bytes 12 0 ≡ response_to []
    nothing = (headless_way [] e refl).same

    clash : ◌≡◌ {A = ℕ} 1 12 → ⊥
    clash z = omega (arith, z)
headless (x ∷ l) e z = absurd (omega (arith, z))

module _ (bytes : List ℕ) (ends : RecordEnds (length bytes)) where
  broken : {m p : ℕ} (w : IsBroken bytes 0 m p) → IsMethod m → length bytes < size Hd + p * size Nw → Undecided bytes
  broken {m} {p} w i l = by w.missing
    where
      t : Bool
      t = w.measured

      n : ℕ
      n = w.n

      k : ℕ
      k = length_count t n

      begun : nows_at 0 ≤ length bytes
      begun = head_room bytes 0 w.head

      -- one record more, with which the answer has another number or place
      with_one : (j : Kind) → NotSo n (length_count t n) (bytes ++ one j) p → Undecided bytes
      with_one j other =
          let all = bytes ++ one j in
          let same = responds all (head_stays bytes (one j) w.head) [] in
          let answer = (broken_way [] w (asked_as i p)).same in
          record { more = one j; small = one_bytes j; other = λ x. not_first t n m all other (first_of t n m all p (same ∙ x ∙ sym answer)) }

      -- the GL records begin within the bytes, and so do the LN records
      goals_begin : length (nows bytes 0 n) ≡ n → goals_at 0 n ≤ length bytes
      goals_begin e = rw e at (entries_room Nw bytes n (nows_at 0) begun)

      lengths_begin : length (nows bytes 0 n) ≡ n → length (goals bytes 0 n) ≡ n → lengths_at 0 n ≤ length bytes
      lengths_begin e f = rw f at (entries_room Gl bytes n (goals_at 0 n) (goals_begin e))

      by : RecordMissing bytes 0 n (length_count t n) p → Undecided bytes
      by (inl f) =
          let c : ℕ = length (nows bytes 0 n) in
          let at : length bytes ≡ nows_at 0 + c * size Nw = exact (length bytes) c f.place ends (entries_room Nw bytes n (nows_at 0) begun) l in
          let grown : c < length (nows (bytes ++ one Nw) 0 n) = entries_grow Nw bytes (one Nw) n (nows_at 0) f.few (one_there Nw bytes at) in
          with_one Nw (record {
            now = λ g. absurd (omega (arith, g, f.place, grown));
            goal = λ g. absurd (omega (arith, g, f.place, f.few));
            measure = λ g. absurd (omega (arith, g, f.place, f.few));
            tail = λ g. absurd (omega (arith, g, f.place, f.few));
          })
      by (inr (inl f)) =
          let d : ℕ = length (goals bytes 0 n) in
          let before : goals_at 0 n ≤ length bytes = goals_begin f.nows_there_lem in
          let low : nows_at 0 + (n + d) * size Nw ≤ length bytes = rw (sym (goal_place n d)) (entries_room Gl bytes n (goals_at 0 n) before) in
          let at : length bytes ≡ nows_at 0 + (n + d) * size Nw = exact (length bytes) (n + d) (omega (arith, f.place)) ends low l in
          let behind = one_there Gl bytes (at ∙ sym (goal_place n d)) in
          let grown : d < length (goals (bytes ++ one Gl) 0 n) = entries_grow Gl bytes (one Gl) n (goals_at 0 n) f.few behind in
          with_one Gl (record {
            now = λ g. ap length (nows_stay bytes (one Gl) n before) ∙ f.nows_there_lem;
            goal = λ g. absurd (omega (arith, g, f.place, grown));
            measure = λ g. absurd (omega (arith, g, f.place, f.few));
            tail = λ g. absurd (omega (arith, g, f.place, f.few));
          })
      by (inr (inr f)) =
          let d : ℕ = length (lengths bytes 0 n k) in
          let before : lengths_at 0 n ≤ length bytes = lengths_begin f.nows_there_lem f.goals_there_lem in
          let low : nows_at 0 + (n + n + d) * size Nw ≤ length bytes = rw (sym (length-place n d)) (entries_room Ln bytes k (lengths_at 0 n) before) in
          let at : length bytes ≡ nows_at 0 + (n + n + d) * size Nw = exact (length bytes) (n + n + d) (omega (arith, f.place)) ends low l in
          let behind = one_there Ln bytes (at ∙ sym (length-place n d)) in
          let grown : d < length (lengths (bytes ++ one Ln) 0 n k) = entries_grow Ln bytes (one Ln) k (lengths_at 0 n) f.few behind in
          with_one Ln (record {
            now = λ g. ap length (nows_stay bytes (one Ln) n (goals_begin f.nows_there_lem)) ∙ f.nows_there_lem;
            goal = λ g. ap length (goals_stay bytes (one Ln) n before) ∙ f.goals_there_lem;
            measure = λ g. absurd (omega (arith, g, f.place, grown));
            tail = λ g. absurd (omega (arith, g, f.place, f.few));
          })

whole : (bytes : List ℕ) {n m : ℕ} {t : Bool} {e : ℕ} → IsWhole bytes 0 n m t e → IsMethod m → length bytes < e + 1 → Undecided bytes
whole bytes {n} {m} {t} {e} w i l = record {
  more = 0 ∷ [];
  small = record { small = zeros };
  other = λ x. not_first t n m bytes rows (first_of t n m bytes (2 * n + k + 1) (responds bytes w.head [] ∙ sym x ∙ sym tailed));
}
  where
    k : ℕ
    k = length_count t n

    zeros : (i : ℕ) → get_or (0 ∷ []) i 0 < 256
    zeros zero = omega arith
    zeros (suc i) = omega arith

    reached : e ≤ length bytes
    reached = omega (arith, whole_room w, w.end)

    longer : length (bytes ++ (0 ∷ [])) ≢ e
    longer z = omega (arith, z, reached, length-append bytes (0 ∷ []))

    tailed : refusal_bytes 12 (2 * n + k + 1) ≡ response_to (bytes ++ (0 ∷ []))
    tailed = (tail_way (whole_stays bytes (0 ∷ []) w reached) [] longer (asked_as i (2 * n + k + 1))).same

    rows : NotSo n k bytes (2 * n + k + 1)
    rows =
        record {
          now = λ g. w.nows_there_lem;
          goal = λ g. w.goals_there_lem;
          measure = λ g. w.lengths_there_lem;
          tail = λ g. omega (arith, l, whole_room w, w.end);
        }

pub needed : Needed
needed bytes ends more = by (sheet_at bytes 0) refl (sheet_says bytes 0)
  where
    start : length bytes < size Hd → RecordEnds (length bytes) → length bytes ≡ 0
    start l (inl z) = z
    start l (inr (i, e)) = absurd (omega (arith, l, e))

    by : (s : case.Sheet) → sheet_at bytes 0 ≡ s → Says bytes 0 s → Undecided bytes
    by (Err Headless) e w = headless bytes w (start (open_head bytes more w) ends)
    by (Err (Long m)) e w = absurd (omega (arith, (open_behind bytes more w.head).1, ap decided_by e, head_room bytes 0 w.head))
    by (Err (Broken m p)) e w = let o = open_behind bytes more w.head in broken bytes ends w o.0 (rw (ap decided_by e) at o.1)
    by (Ok s) e w = let o = open_behind bytes more w.head in whole bytes w o.0 (rw (ap decided_by e) at o.1)
