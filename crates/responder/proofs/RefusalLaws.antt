-- What the program asks: the theorems of `specs/Refusals.antt`. Assumes nothing.
use Prim.Native.Nat.{ℕ, ◌*◌, ◌≤◌}
use mathlib.Core.Path.{◌≡◌, refl, sym, ◌∙◌, ap, ap₂}
use mathlib.Core.Logic.Iff
use mathlib.Core.Logic.{inl, inr, ◌↔◌}
use mathlib.Core.Bool.{Bool, true, false}
use mathlib.Core.List.{List, [], ◌∷◌, ◌++◌}
use mathlib.Core.Option.{none, some}
use Rattle.std.specs.Prelude.{Option, Some, None}
use native.Mathlib.Omega.{arith}
use lib.ListN.{length, length-replicate}
use Rattle.blocks.specs.Loop.{memberᵇ}
use Rattle.blocks.specs.Method.{plan_outcome}
use Rattle.blocks.specs.Question.{all_yes, no', first_no, FirstNo, numbers, asks_method, asks_size, asks_outside, asks_shared, asks_floating, asks_plan}
use Rattle.blocks.specs.Question.{state_questions}
use Rattle.blocks.specs.Length.{Lengths, asks_overhang, overhang_questions}
use Rattle.blocks.specs.Sheet.{Sheet, goal_state, office, plan_questions}
use Rattle.blocks.proofs.QuestionLaws.{Decides, first_no_lem, decides_append, clash, other_number}
use Rattle.blocks.proofs.DecidedLaws.{method_decided, state_decides, plan_decided}
use Rattle.blocks.proofs.LengthLaws.{overhangs_decides}
use Rattle.blocks.proofs.SheetLaws.{plan_accepts, never_13}
use Rattle.records.specs.Marks.{marks, mark_of}
use Rattle.records.specs.declared.Kind.TheVariants.{Nw, Gl, Ln}
use Rattle.records.specs.Records.{found}
use Rattle.records.proofs.ReadLaws.{found_first, found_second}
use Rattle.records.proofs.ThereLaws.{found_there, there_found, missing_there, all_entries}
use Rattle.sheets.specs.declared.Head as declared
use Rattle.sheets.specs.Sheets.{head_kind, there, head_at, length_count, nows_at, goals_at, lengths_at, nows}
use Rattle.sheets.proofs.HeadLaws.{head_record, record_head, no_record, head_room}
use Rattle.responder.specs.Responses.{asks_nows, asks_goals, asks_length_records, asks_tail, record_questions, sheet_in, lent, program_questions}
use Rattle.responder.specs.Responses.{refusal_bytes, plan_records, reply, sheet_response, response_by, response_to}
use Rattle.responder.specs.Order.{four_on, ordered_questions}
use Rattle.responder.specs.Refusals.{asked_by, asked, Head, NoHead, ProgramRefused, Begun, Complete, Refused12, Refusals}
use Rattle.responder.proofs.DecidedLaws.{end_room, middle, middle_decides, asked_decides, sheet_accepts, sheet_refuses, plan_yes}
use Rattle.responder.proofs.Order.{sheet_order, measured_order, in_order}

-- ---- the head

head_fields : (t : Bool) → (mark_of (head_kind t)).fields ≡ 2
unfolding mark_of marks
head_fields true = refl
head_fields false = refl

module _ (bytes : List ℕ) (t : Bool) (n m : ℕ) where
  found_head : head_at bytes 0 ≡ there t n m → Head bytes t n m
  found_head h =
      let k = head_kind t in
      let e = head_record bytes 0 h in
      record { there = found_there k bytes 0 e; slabs = found_first k bytes 0 e; method = found_second k bytes 0 e (head_fields t) }

  pub head_found : Head bytes t n m → head_at bytes 0 ≡ there t n m
  head_found h =
      let k = head_kind t in
      let e = there_found k bytes 0 h.there in
      record_head bytes 0 t (e ∙ ap₂ found (found_first k bytes 0 e ∙ sym h.slabs) (found_second k bytes 0 e (head_fields t) ∙ sym h.method))

asked_is : (bytes : List ℕ) {o : Option declared.Head} → head_at bytes 0 ≡ o → asked bytes ≡ asked_by o bytes
unfolding asked
asked_is bytes e = ap (λ h. asked_by h bytes) e

-- ---- the questions behind the head

module _ (t : Bool) (n m : ℕ) (bytes : List ℕ) where
  abbrev h : Sheet
  h = sheet_in t n bytes

  four_decides : Decides (four_on m h)
  four_decides =
      let ls = h.lengths in
      let s = h.initial in
      let g = h.goal in
      let last = asks_plan (plan_outcome m s (goal_state h)) ∷ [] in
      let over = decides_append (overhang_questions ls s g) last (overhangs_decides ls s g) (λ _. (plan_decided (plan_outcome m s (goal_state h)), λ _. tt)) in
      let goal = decides_append (state_questions 7 8 9 g) (overhang_questions ls s g ++ last) (state_decides 7 8 9 g) (λ _. over) in
      decides_append (state_questions 4 5 6 s) (state_questions 7 8 9 g ++ (overhang_questions ls s g ++ last)) (state_decides 4 5 6 s) (λ _. goal)

  ordered_decides : Decides (ordered_questions t n m bytes)
  ordered_decides = (method_decided m, λ _. decides_append (middle t n bytes) (four_on m h) (middle_decides t n bytes) (λ _. four_decides))

  ordered_refuses : (k p : ℕ) → (first_no (ordered_questions t n m bytes) ≡ no' k p) ↔ FirstNo (ordered_questions t n m bytes) k p
  ordered_refuses k p = first_no_lem (ordered_questions t n m bytes) ordered_decides (no' k p)

-- ---- a "no"

refuses : (bytes : List ℕ) (k p : ℕ) → (asked bytes ≡ no' k p) ↔ ProgramRefused bytes k p
refuses bytes k p = by (head_at bytes 0) refl
  where
    by : (o : Option declared.Head) → head_at bytes 0 ≡ o → (asked bytes ≡ no' k p) ↔ ProgramRefused bytes k p
    by None e = (into, out)
      where
        gone : NoHead bytes
        gone t = missing_there (head_kind t) bytes 0 (no_record bytes 0 e t)

        into : asked bytes ≡ no' k p → ProgramRefused bytes k p
        into a =
            let same : no' 12 0 ≡ no' k p = sym (asked_is bytes e) ∙ a in
            let number : k ≡ 12 = cc in
            let place : p ≡ 0 = cc in
            ProgramRefused.head gone number place

        out : ProgramRefused bytes k p → asked bytes ≡ no' k p
        out (ProgramRefused.head _ number place) = asked_is bytes e ∙ ap₂ no' (sym number) (sym place)
        out (ProgramRefused.behind t n m h f) = absurd (gone t h.there)
    by (Some h) e = (λ a. ProgramRefused.behind t n m (found_head bytes t n m e) ((ordered_refuses t n m bytes k p).0 (sym (asked_is bytes e) ∙ a)), out)
      where
        t : Bool
        t = h.measured

        n : ℕ
        n = h.n

        m : ℕ
        m = h.method

        out : ProgramRefused bytes k p → asked bytes ≡ no' k p
        out (ProgramRefused.head gone _ _) = absurd (gone t (found_head bytes t n m e).there)
        out (ProgramRefused.behind u i j w f) = asked_is bytes (head_found bytes u i j w) ∙ (ordered_refuses u i j bytes k p).1 f

-- ---- the answer to it

pub refused_response : (bytes : List ℕ) (k p : ℕ) → asked bytes ≡ no' k p → response_to bytes ≡ refusal_bytes k p
unfolding response_to sheet_response
refused_response bytes k p a = by (head_at bytes 0) refl
  where
    by : (o : Option declared.Head) → head_at bytes 0 ≡ o → response_by o bytes ≡ refusal_bytes k p
    by None e = ap (λ v. reply v []) (sym (asked_is bytes e) ∙ a)
    by (Some h) e =
        ap (λ v. reply v (plan_records h.method (sheet_in h.measured h.n bytes) (lent h.n))) (in_order h.measured h.n h.method bytes ∙ sym (asked_is bytes e) ∙ a)

-- ---- all yes

module _ (bytes : List ℕ) (t : Bool) (n m : ℕ) where
  complete : head_at bytes 0 ≡ there t n m → first_no (program_questions t n m bytes) ≡ all_yes → Complete bytes t n m
  unfolding program_questions asks_method asks_size asks_nows asks_goals asks_length_records asks_tail
  complete e a =
      let k = length_count t n in
      let y = (sheet_accepts t n m bytes).0 a in
      let nows_yes = y.1.1.0 in
      let goals_yes = y.1.1.1.0 in
      let lengths_yes = y.1.1.1.1.0 in
      record {
        begun = record { head = found_head bytes t n m e; method = y.0; small = y.1.0 };
        nows_read_lem = all_entries Nw bytes (nows_at 0) n nows_yes;
        goals_read_lem = all_entries Gl bytes (goals_at 0 n) n goals_yes;
        lengths_read_lem = all_entries Ln bytes (lengths_at 0 n) k lengths_yes;
        end = omega (arith, y.1.1.1.1.1.0, end_room n k bytes (head_room bytes 0 e) nows_yes goals_yes lengths_yes);
        accepted = ((plan_accepts (office m) (sheet_in t n bytes) (lent n)).0 (plan_yes t n m bytes a)).accepted;
      }

  pub all_yes_lem : Complete bytes t n m → first_no (program_questions t n m bytes) ≡ all_yes
  unfolding program_questions asks_method asks_size asks_nows asks_goals asks_length_records asks_tail
  all_yes_lem c =
      let h = sheet_in t n bytes in
      let room : 4 * length (nows bytes 0 n) ≤ length (lent n) = omega (arith, c.nows_read_lem.long, length-replicate {A = ℕ} (4 * n) 0) in
      let planned = (plan_accepts (office m) h (lent n)).1 (record { method = c.begun.method; takes = tt; accepted = c.accepted; room = room }) in
      let rest = (first_no_lem (plan_questions (office m) h (lent n)) (asked_decides t n m bytes) all_yes).0 planned in
      (sheet_accepts t n m bytes
      ).1 (c.begun.method, (c.begun.small, (c.nows_read_lem.there, (c.goals_read_lem.there, (c.lengths_read_lem.there, (omega (arith, c.end), rest))))))

accepts : (bytes : List ℕ) → (asked bytes ≡ all_yes) ↔ ((t : Bool) × (n : ℕ) × (m : ℕ) × Complete bytes t n m)
accepts bytes = (into (head_at bytes 0) refl, out)
  where
    into : (o : Option declared.Head) → head_at bytes 0 ≡ o → asked bytes ≡ all_yes → (t : Bool) × (n : ℕ) × (m : ℕ) × Complete bytes t n m
    into None e a = absurd (clash (sym a ∙ asked_is bytes e))
    into (Some h) e a =
        (h.measured, h.n, h.method, complete bytes h.measured h.n h.method e (in_order h.measured h.n h.method bytes ∙ sym (asked_is bytes e) ∙ a))

    out : (t : Bool) × (n : ℕ) × (m : ℕ) × Complete bytes t n m → asked bytes ≡ all_yes
    out (t, n, m, c) = asked_is bytes (head_found bytes t n m c.begun.head) ∙ sym (in_order t n m bytes) ∙ all_yes_lem bytes t n m c

-- ---- question 12 alone, and 13

-- 4 on is not 12
four_not_12 : (m : ℕ) (h : Sheet) (p : ℕ) → ¬ FirstNo (four_on m h) 12 p
unfolding state_questions asks_outside asks_shared asks_floating overhang_questions asks_overhang asks_plan
four_not_12 m h p f = other_number (four_on m h) 12 (by h.lengths) 12 p f refl
  where
    by : (ls : Lengths) → memberᵇ 12 (4 ∷ 5 ∷ 6 ∷ 7 ∷ 8 ∷ 9 ∷ numbers (overhang_questions ls h.initial h.goal ++ (asks_plan (plan_outcome m h.initial (goal_state h)) ∷ []))) ≡ false
    by none = refl
    by (some l) = refl

twelve : (bytes : List ℕ) (p : ℕ) → (asked bytes ≡ no' 12 p) ↔ Refused12 bytes p
unfolding asks_method asks_size asks_nows asks_goals asks_length_records asks_tail
twelve bytes p = Iff.trans (refuses bytes 12 p) (into, out)
  where
    into : ProgramRefused bytes 12 p → Refused12 bytes p
    into (ProgramRefused.head gone number place) = Refused12.head gone place
    into (ProgramRefused.behind t n m h (inl (e, f))) = absurd (omega arith)
    into (ProgramRefused.behind t n m h (inr (i, inl (e, f)))) = absurd (omega arith)
    into (ProgramRefused.behind t n m h (inr (i, inr (l, rest)))) = by rest
      where
        begun : Begun bytes t n m
        begun = record { head = h; method = i; small = l }

        by : FirstNo (record_questions t n bytes ++ four_on m (sheet_in t n bytes)) 12 p → Refused12 bytes p
        by (inl (e, (j, w, place))) = Refused12.now_missing t n m j begun w place
        by (inr (a, inl (e, (j, w, place)))) = Refused12.goal_missing t n m j begun a w place
        by (inr (a, inr (b, inl (e, (j, w, place))))) = Refused12.length_missing t n m j begun a b w place
        by (inr (a, inr (b, inr (c, inl (e, (place, long)))))) = Refused12.tail t n m begun a b c long place
        by (inr (a, inr (b, inr (c, inr (_, f))))) = absurd (four_not_12 m (sheet_in t n bytes) p f)

    out : Refused12 bytes p → ProgramRefused bytes 12 p
    out (Refused12.head gone place) = ProgramRefused.head gone refl place
    out (Refused12.now_missing t n m i b w place) =
        ProgramRefused.behind t n m b.head (inr (b.method, inr (b.small, inl (refl, (i, w, place)))))
    out (Refused12.goal_missing t n m i b a w place) =
        ProgramRefused.behind t n m b.head (inr (b.method, inr (b.small, inr (a, inl (refl, (i, w, place))))))
    out (Refused12.length_missing t n m i b a c w place) =
        ProgramRefused.behind t n m b.head (inr (b.method, inr (b.small, inr (a, inr (c, inl (refl, (i, w, place)))))))
    out (Refused12.tail t n m b a c d long place) =
        ProgramRefused.behind t n m b.head (inr (b.method, inr (b.small, inr (a, inr (c, inr (d, inl (refl, (place, long))))))))

no_13 : (bytes : List ℕ) (p : ℕ) → ¬ ProgramRefused bytes 13 p
unfolding program_questions asks_method asks_size asks_nows asks_goals asks_length_records asks_tail
no_13 bytes p (ProgramRefused.head gone number place) = omega arith
no_13 bytes p (ProgramRefused.behind t n m h f) = by ((sheet_refuses t n m bytes 13 p).0 (in_order t n m bytes ∙ (ordered_refuses t n m bytes 13 p).1 f))
  where
    by : FirstNo (program_questions t n m bytes) 13 p → ⊥
    by (inl (e, _)) = omega arith
    by (inr (_, inl (e, _))) = omega arith
    by (inr (_, inr (_, inl (e, _)))) = omega arith
    by (inr (_, inr (_, inr (_, inl (e, _))))) = omega arith
    by (inr (_, inr (_, inr (_, inr (_, inl (e, _)))))) = omega arith
    by (inr (_, inr (_, inr (_, inr (_, inr (_, inl (e, _))))))) = omega arith
    by (inr (_, inr (_, inr (_, inr (_, inr (_, inr (_, r))))))) = never_13 (office m) (sheet_in t n bytes) (lent n) p r

-- ---- the theorems

pub refusals : Refusals
refusals =
    record {
      order = sheet_order;
      order_measured = measured_order;
      accepts = accepts;
      refuses = refuses;
      twelve = twelve;
      refusal = λ bytes k p r. refused_response bytes k p ((refuses bytes k p).1 r);
      never_13 = no_13;
    }
