-- What is answered to a sheet that was read is the definition's answer to the input: a law for each case, and one for all. Assumes nothing.
use Prim.Native.Nat.{ℕ, ◌+◌, ◌*◌, ◌≤◌}
use mathlib.Core.Path.{◌≡◌, refl, sym, ◌∙◌, ap, subst}
use mathlib.Core.Logic.{inl, inr, ◌≢◌}
use mathlib.Core.Bool.{Bool, cond}
use mathlib.Core.List.{List, [], ◌∷◌, ◌++◌}
use mathlib.Core.Option.{none}
use Rattle.std.specs.Prelude.{None, Ok, Err}
use native.Mathlib.Omega.{arith}
use lib.ListN.{length, take, length-replicate}
use Rattle.blocks.specs.State.{most}
use Rattle.blocks.specs.Question.{no', first_no, AllYes, FirstNo, IsMethod, asks_method, asks_size}
use Rattle.blocks.specs.Length.{given}
use Rattle.blocks.specs.Sheet.{Sheet, measured_by, office, sheet_questions, plan_questions}
use Rattle.blocks.proofs.SheetLaws.{late}
use Rattle.lists.proofs.ReflectLaws.{Reflects, holds, fails}
use Rattle.records.specs.There.{AllThere}
use Rattle.records.specs.declared.Kind.TheVariants.{Nw, Gl, Ln}
use Rattle.records.proofs.ThereLaws.{all_there, first_missing}
use Rattle.sheets.specs.declared.Whole.{Whole}
use Rattle.sheets.specs.declared.Unread.{Unread}
use Rattle.sheets.specs.declared.Unread.TheVariants.{Headless, Long, Broken}
use Rattle.sheets.specs.declared.Entries.{Entries}
use Rattle.sheets.specs.Sheets.{there, head_at, length_count, nows_at, goals_at, lengths_at, end_at, nows, goals}
use Rattle.sheets.specs.Reads.{ReadsSheet}
use Rattle.sheets.specs.Cases.{IsLong, RecordMissing, IsBroken, IsWhole}
use Rattle.sheets.proofs.HeadLaws.{head_room}
use Rattle.sheets.proofs.SheetLaws as read
use Rattle.refusals.specs.Refusals.{number_of}
use Rattle.refusals.specs.declared.Refusal.{Refusal}
use Rattle.planner.specs.Answers.{Answer, Plans}
use Rattle.responder.specs.Responses.{asks_nows, asks_goals, asks_length_records, asks_tail, record_questions, sheet_in, lent, program_questions}
use Rattle.responder.specs.Responses.{refusal_bytes, plan_records, reply, sheet_response, response_by, response_to}
use Rattle.responder.specs.Answers.{no_method, too_many, no_record, refused_as, refusal_of, Answered}
use Rattle.responder.proofs.BehindLaws.{once, without_yes, without_room}
use Rattle.responder.proofs.DecidedLaws.{end_room, method_reflects, middle, middle_decides, sheet_refuses}
use Rattle.responder.proofs.PlannedLaws.{made_yes, made_records, made_writable}

-- ---- a "no"

refusal : {bytes : List ℕ} (q : Refusal) (space : List ℕ) → refusal_bytes (number_of q.question) q.place ≡ response_to bytes → Answered bytes (Err q) space
refusal q space e = record { same = e; writable = record { counts = λ p f. absurd cc } }

pub headless_way : {bytes : List ℕ} (space : List ℕ) {r : Answer} → head_at bytes 0 ≡ None → r ≡ Err (no_record 0) → Answered bytes r space
unfolding response_to
headless_way {bytes} space {r} head e =
    subst (λ a. Answered bytes a space) (sym e) (refusal (no_record 0) space (sym (ap (λ h. response_by h bytes) head)))

module _ (bytes : List ℕ) {t : Bool} {n m : ℕ} (head : head_at bytes 0 ≡ there t n m) (space : List ℕ) where
  pub responds : sheet_response t n m bytes ≡ response_to bytes
  unfolding response_to
  responds = sym (ap (λ h. response_by h bytes) head)

  asked_no : (q : Refusal) → first_no (program_questions t n m bytes) ≡ no' (number_of q.question) q.place → Answered bytes (Err q) space
  unfolding sheet_response
  asked_no q e = refusal q space (sym (ap (λ a. reply a (plan_records m (sheet_in t n bytes) (lent n))) e) ∙ responds)

  no_way : (q : Refusal) → FirstNo (program_questions t n m bytes) (number_of q.question) q.place → Answered bytes (Err q) space
  no_way q f = asked_no q ((sheet_refuses t n m bytes (number_of q.question) q.place).1 f)

  -- question 1
  pub unnamed_way : ¬ IsMethod m → Answered bytes (Err no_method) space
  unfolding program_questions asks_method
  unnamed_way i = no_way no_method (inl (refl, (refl, i)))

  -- question 1 before it
  behind_way : (q : Refusal) {r : Answer} → (IsMethod m → FirstNo (program_questions t n m bytes) (number_of q.question) q.place) → r ≡ Err (refused_as m q)
      → Answered bytes r space
  unfolding program_questions asks_method
  behind_way q f e = subst (λ a. Answered bytes a space) (sym e) (by (method_reflects m))
    where
      by : {u : Bool} → Reflects (IsMethod m) u → Answered bytes (Err (cond u q no_method)) space
      by (holds i) = no_way q (f i)
      by (fails i) = unnamed_way i

module _ {bytes : List ℕ} {m : ℕ} {r : Answer} (space : List ℕ) where
  pub long_way : IsLong bytes 0 m → r ≡ Err (refused_as m too_many) → Answered bytes r space
  unfolding program_questions asks_method asks_size
  long_way w = behind_way bytes w.head space too_many (λ i. inr (i, inl (refl, (refl, λ l. omega (arith, w.long)))))

  pub broken_way : {p : ℕ} → IsBroken bytes 0 m p → r ≡ Err (refused_as m (no_record p)) → Answered bytes r space
  unfolding program_questions asks_method asks_size asks_nows asks_goals asks_length_records
  broken_way {p} w = behind_way bytes w.head space (no_record p) (λ i. inr (i, inr (w.small, by w.missing)))
    where
      t : Bool
      t = w.measured

      n : ℕ
      n = w.n

      nows_yes : length (nows bytes 0 n) ≡ n → AllThere Nw bytes (nows_at 0) n
      nows_yes e = (all_there Nw bytes (nows_at 0) n).0 e

      goals_yes : length (goals bytes 0 n) ≡ n → AllThere Gl bytes (goals_at 0 n) n
      goals_yes e = (all_there Gl bytes (goals_at 0 n) n).0 e

      by : RecordMissing bytes 0 n (length_count t n) p
          → FirstNo (record_questions t n bytes ++ plan_questions (office m) (sheet_in t n bytes) (lent n)) 12 p
      by (inl f) = inl (refl, (_, first_missing Nw bytes (nows_at 0) n f.few, f.place))
      by (inr (inl f)) = inr (nows_yes f.nows_there_lem, inl (refl, (_, first_missing Gl bytes (goals_at 0 n) n f.few, f.place)))
      by (inr (inr f)) =
          let few = first_missing Ln bytes (lengths_at 0 n) (length_count t n) f.few in
          inr (nows_yes f.nows_there_lem, inr (goals_yes f.goals_there_lem, inl (refl, (_, few, f.place))))

-- ---- a whole sheet

module _ {bytes : List ℕ} {n m : ℕ} {t : Bool} {e : ℕ} (w : IsWhole bytes 0 n m t e) where
  abbrev h : Sheet
  h = sheet_in t n bytes

  abbrev k : ℕ
  k = length_count t n

  nows_yes : AllThere Nw bytes (nows_at 0) n
  nows_yes = (all_there Nw bytes (nows_at 0) n).0 w.nows_there_lem

  goals_yes : AllThere Gl bytes (goals_at 0 n) n
  goals_yes = (all_there Gl bytes (goals_at 0 n) n).0 w.goals_there_lem

  lengths_yes : AllThere Ln bytes (lengths_at 0 n) k
  lengths_yes = (all_there Ln bytes (lengths_at 0 n) k).0 w.lengths_there_lem

  pub whole_room : end_at 0 n k ≤ length bytes
  whole_room = end_room n k bytes (head_room bytes 0 w.head) nows_yes goals_yes lengths_yes

  pub tail_way : (space : List ℕ) {r : Answer} → length bytes ≢ e → r ≡ Err (refused_as m (no_record (2 * n + k + 1))) → Answered bytes r space
  unfolding program_questions asks_method asks_size asks_nows asks_goals asks_length_records asks_tail
  tail_way space ne =
      behind_way bytes w.head space (no_record (2 * n + k + 1))
      (λ i. inr (i, inr (w.small, inr (nows_yes, inr (goals_yes, inr (lengths_yes, inl (refl, (refl, omega (arith, ne, w.end, whole_room)))))))))

  module _ (exact : length bytes ≡ e) (space : List ℕ) (room : 4 * most ≤ length space) where
    -- the questions of the records have a yes, so planning's are asked;
    then_plan : first_no (program_questions t n m bytes) ≡ first_no (plan_questions (office m) h (lent n))
    unfolding program_questions plan_questions asks_size asks_nows asks_goals asks_length_records asks_tail
    then_plan =
        let rows : AllYes (middle t n bytes) = (w.small, (nows_yes, (goals_yes, (lengths_yes, (omega (arith, exact, w.end), tt))))) in
        without_yes (asks_method m ∷ []) (middle t n bytes) (plan_questions (office m) h (lent n)) (middle_decides t n bytes) rows
        ∙ once (asks_method m) (sheet_questions none h ++ late (office m) h (lent n))

    -- and they ask nothing of the lent space but its length
    same_plan : first_no (plan_questions (office m) h (lent n)) ≡ first_no (plan_questions (office m) h space)
    same_plan =
        without_room m h (lent n) (omega (arith, length-replicate {A = ℕ} (4 * n) 0, w.nows_there_lem))
        ∙ sym (without_room m h space (omega (arith, room, w.nows_there_lem, w.small)))

    pub plan_way : (r : Answer) {space' : List ℕ} → Plans (office m) h space r space' → Answered bytes r space'
    unfolding sheet_response
    plan_way (Err q) v = asked_no bytes w.head _ q (then_plan ∙ same_plan ∙ sym v.asked)
    plan_way (Ok p) v =
        let all = same_plan ∙ made_yes v in
        record {
          same = made_records v (lent n) all ∙ sym (ap (λ a. reply a (plan_records m h (lent n))) (then_plan ∙ all)) ∙ responds bytes w.head space;
          writable = made_writable v;
        }

-- The sheet at the front of the lists.
abbrev pub sheet_of_entries : Whole → Entries → Sheet
sheet_of_entries s e = measured_by (given s.measured (take (length_count s.measured s.n) e.lengths)) (take s.n e.initial) (take s.n e.goal)

-- ---- every case of what was read

module _ {bytes : List ℕ} {entries entries' : Entries} where
  pub unread_answered : {u : Unread} → ReadsSheet bytes 0 entries (Err u) entries' → (space : List ℕ) → Answered bytes (Err (refusal_of u)) space
  unread_answered {u} w space = by u w
    where
      by : (v : Unread) → ReadsSheet bytes 0 entries (Err v) entries' → Answered bytes (Err (refusal_of v)) space
      by Headless w = headless_way space (read.headless w refl) refl
      by (Long m) w = long_way space (read.long w refl) refl
      by (Broken m p) w = broken_way space (read.broken w refl) refl

  module _ {s : Whole} (w : ReadsSheet bytes 0 entries (Ok s) entries') where
    pub tail_answered : (space : List ℕ) → length bytes ≢ s.end → Answered bytes (Err (refused_as s.method (no_record (2 * s.n + length_count s.measured s.n + 1)))) space
    tail_answered space ne = tail_way (read.whole w refl) space ne refl

    pub plan_answered : {space : List ℕ} {r : Answer} {space' : List ℕ} → length bytes ≡ s.end → 4 * most ≤ length space
        → Plans (office s.method) (sheet_of_entries s entries') space r space' → Answered bytes r space'
    plan_answered {space} {r} exact room v =
        plan_way (read.whole w refl) exact space room r (rw (read.whole_initial w refl, read.whole_goal w refl, read.whole_lengths w refl) at v)
