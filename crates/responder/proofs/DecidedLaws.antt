-- The reflection of each row of question 12, and what the questions put to a sheet come to. Assumes nothing.
use Prim.Native.Nat.{ℕ, ◌+◌, ◌≤◌, ◌<◌}
use mathlib.Core.Path.{◌≡◌, sym, ◌∙◌, ap}
use mathlib.Core.Logic.{◌↔◌}
use mathlib.Core.Bool.{Bool}
use mathlib.Core.List.{List, ◌∷◌}
use native.Mathlib.Omega.{arith}
use lib.ListN.{length}
use Rattle.blocks.specs.Question.{Question, all_yes, no', first_no, AllYes, FirstNo, IsMethod, is_method, asks_method, asks_size}
use Rattle.blocks.specs.Method.{method_of}
use Rattle.blocks.specs.Sheet.{office, plan_questions}
use Rattle.lists.proofs.ReflectLaws.{Reflects, reflects_iff, eqb_reflects, leb_reflects}
use Rattle.blocks.proofs.QuestionLaws.{Decided, Decides, first_no_lem, decides_append}
use Rattle.blocks.proofs.DecidedLaws.{method_decided, size_decided}
use Rattle.blocks.proofs.SheetLaws.{plan_decides}
use Rattle.records.specs.Records.{entries_at}
use Rattle.records.specs.There.{AllThere, FirstMissing}
use Rattle.records.specs.declared.Kind.{Kind}
use Rattle.records.specs.declared.Kind.TheVariants.{Nw, Gl, Ln}
use Rattle.records.proofs.EntryLaws.{length_entries}
use Rattle.records.proofs.ThereLaws.{all_room, all_there, first_missing, missing_unique, missing_one}
use Rattle.sheets.specs.Sheets.{length_count, nows_at, goals_at, lengths_at, end_at, nows, goals}
use Rattle.responder.specs.Responses.{asks_records, asks_nows, asks_goals, asks_length_records, asks_tail, record_questions, sheet_in, lent, program_questions}

-- ---- the rows

records_decided : (k : Kind) (n : ℕ) (bytes : List ℕ) (at before : ℕ) → Decided (asks_records k n bytes at before)
records_decided k n bytes at before =
    record {
      decides = reflects_iff (all_there k bytes at n).0 (all_there k bytes at n).1 (eqb_reflects (length (entries_at k bytes at n)) n);
      faults = λ p. (into p, out p);
    }
  where
    count : ℕ
    count = length (entries_at k bytes at n)

    into : (p : ℕ) → (i : ℕ) × FirstMissing k bytes at n i × (p ≡ before + i) → (¬ AllThere k bytes at n) × (before + count ≡ p)
    into p (i, w, e) = (missing_one k bytes at n w, ap (λ c. before + c) (missing_unique k bytes at n w) ∙ sym e)

    out : (p : ℕ) → (¬ AllThere k bytes at n) × (before + count ≡ p) → (i : ℕ) × FirstMissing k bytes at n i × (p ≡ before + i)
    out p (m, e) =
        let short : ¬ (count ≡ n) = λ f. m ((all_there k bytes at n).0 f) in
        let few : count < n = omega (arith, length_entries k bytes at n, short) in
        (count, first_missing k bytes at n few, sym e)

pub nows_decided : (n : ℕ) (bytes : List ℕ) → Decided (asks_nows n bytes)
unfolding asks_nows
nows_decided n bytes = records_decided Nw n bytes (nows_at 0) _

pub goals_decided : (n : ℕ) (bytes : List ℕ) → Decided (asks_goals n bytes)
unfolding asks_goals
goals_decided n bytes = records_decided Gl n bytes (goals_at 0 n) _

pub lengths_decided : (n k : ℕ) (bytes : List ℕ) → Decided (asks_length_records n k bytes)
unfolding asks_length_records
lengths_decided n k bytes = records_decided Ln k bytes (lengths_at 0 n) _

pub tail_decided : (n k size : ℕ) → Decided (asks_tail n k size)
unfolding asks_tail
tail_decided n k size =
    record {
      decides = leb_reflects size (end_at 0 n k);
      faults = λ p. (λ f. (λ l. omega (arith, l, f.1), sym f.0), λ f. (sym f.1, omega (arith, f.0)));
    }

-- Behind a head that is there, records that are all there end within the bytes.
pub end_room : (n k : ℕ) (bytes : List ℕ) → nows_at 0 ≤ length bytes → AllThere Nw bytes (nows_at 0) n → AllThere Gl bytes (goals_at 0 n) n
    → AllThere Ln bytes (lengths_at 0 n) k → end_at 0 n k ≤ length bytes
end_room n k bytes head nows goals lengths =
    all_room Ln bytes (lengths_at 0 n) k (all_room Gl bytes (goals_at 0 n) n (all_room Nw bytes (nows_at 0) n head nows) goals) lengths

pub method_reflects : (m : ℕ) → Reflects (IsMethod m) (is_method (method_of m))
unfolding asks_method
method_reflects m = (method_decided m).decides

-- ---- a sheet

module _ (t : Bool) (n : ℕ) (bytes : List ℕ) where
  -- the questions between 1 and planning's
  abbrev pub middle : List Question
  middle = asks_size n ∷ record_questions t n bytes

  pub middle_decides : Decides middle
  middle_decides =
      let k = length_count t n in
      let tail = tail_decided n k (length bytes) in
      (size_decided n, λ _. (nows_decided n bytes, λ _. (goals_decided n bytes, λ _. (lengths_decided n k bytes, λ _. (tail, λ _. tt)))))

module _ (t : Bool) (n m : ℕ) (bytes : List ℕ) where
  abbrev asked : List Question
  asked = plan_questions (office m) (sheet_in t n bytes) (lent n)

  pub asked_decides : Decides asked
  asked_decides = plan_decides (office m) (sheet_in t n bytes) (lent n)

  pub sheet_decides : Decides (program_questions t n m bytes)
  unfolding program_questions
  sheet_decides = (method_decided m, λ _. decides_append (middle t n bytes) asked (middle_decides t n bytes) (λ _. asked_decides))

  -- all yes, or a "no" of number k and place p, exactly where the sentences say so
  pub sheet_accepts : (first_no (program_questions t n m bytes) ≡ all_yes) ↔ AllYes (program_questions t n m bytes)
  sheet_accepts = first_no_lem (program_questions t n m bytes) sheet_decides all_yes

  pub sheet_refuses : (k p : ℕ) → (first_no (program_questions t n m bytes) ≡ no' k p) ↔ FirstNo (program_questions t n m bytes) k p
  sheet_refuses k p = first_no_lem (program_questions t n m bytes) sheet_decides (no' k p)

  -- planning is answered yes where the sheet is
  pub plan_yes : first_no (program_questions t n m bytes) ≡ all_yes → first_no asked ≡ all_yes
  unfolding program_questions
  plan_yes e = (first_no_lem asked asked_decides all_yes).1 (sheet_accepts.0 e).1.1.1.1.1.1
