-- What the planning program answers, bytes to bytes (document 01, "Records of the program" and question 12; document 02, Job 3). Assumes nothing.
use Rattle.std.specs.Prelude.{ℕ, ◌+◌, ◌*◌, ◌≤◌, ◌<◌, ◌≡◌, Bool, Option, Some, None, List, [], ◌∷◌, ◌++◌, eqb, leb, length, replicate}
use Rattle.blocks.specs.Move.{◌⟶◌, Plan}
use Rattle.blocks.specs.Question.{Question, Asked, all_yes, no', first_no, asks_method, asks_size}
use Rattle.blocks.specs.Length.{given}
use Rattle.blocks.specs.Sheet.{Sheet, measured_by, office, plan_questions}
use Rattle.blocks.specs.Answer.{plan_for, plan_answer}
use Rattle.records.specs.Records.{entries_at, record_bytes}
use Rattle.records.specs.There.{AllThere, FirstMissing}
use Rattle.records.specs.declared.Kind.{Kind}
use Rattle.records.specs.declared.Kind.TheVariants.{Nw, Gl, Pl, Lf, No, Ln}
use Rattle.sheets.specs.declared.Head.{Head}
use Rattle.sheets.specs.Sheets.{head_at, length_count, nows_at, goals_at, lengths_at, end_at, nows, goals, lengths}

-- ---- the questions after the head's: "then 1 and 2 are asked; then 12 of the other records in order; then 4 on."

-- Question 12, of n records of a kind from a place on: "are all bytes of the record there, with its own mark"? "Place: the records before it", which are
-- those before the place and the i behind it that are there. What computes goes by the entries of those that are there.
abbrev pub asks_records : Kind → ℕ → List ℕ → ℕ → ℕ → Question
asks_records k n bytes at before =
    record {
      number = 12;
      property = AllThere k bytes at n;
      fault = λ p. (i : ℕ) × FirstMissing k bytes at n i × (p ≡ before + i);
      test = eqb (length (entries_at k bytes at n)) n;
      place = before + length (entries_at k bytes at n);
    }

-- Of the n NW records behind the head, of the n GL records behind these, and of the k LN records behind these.
unfoldable pub asks_nows : ℕ → List ℕ → Question
asks_nows n bytes = asks_records Nw n bytes (nows_at 0) 1

unfoldable pub asks_goals : ℕ → List ℕ → Question
asks_goals n bytes = asks_records Gl n bytes (goals_at 0 n) (1 + n)

unfoldable pub asks_length_records : ℕ → ℕ → List ℕ → Question
asks_length_records n k bytes = asks_records Ln k bytes (lengths_at 0 n) (1 + n + n)

-- Of a tail, by the number of bytes: "and nothing after the last record?" "or 2 × n + 1 for a tail." With n LN records "its tail place is 3 × n + 1."
unfoldable pub asks_tail : ℕ → ℕ → ℕ → Question
asks_tail n k size =
    record {
      number = 12;
      property = size ≤ end_at 0 n k;
      fault = λ p. (p ≡ 2 * n + k + 1) × (end_at 0 n k < size);
      test = leb size (end_at 0 n k);
      place = 2 * n + k + 1;
    }

-- Behind a head HD no LN records are asked for.
abbrev pub record_questions : Bool → ℕ → List ℕ → List Question
record_questions measured n bytes =
    asks_nows n bytes ∷ asks_goals n bytes ∷ asks_length_records n (length_count measured n) bytes ∷ asks_tail n (length_count measured n) (length bytes) ∷ []

-- The sheet of the records: its lengths are those of the LN records, or none.
abbrev pub sheet_in : Bool → ℕ → List ℕ → Sheet
sheet_in measured n bytes = measured_by (given measured (lengths bytes 0 n (length_count measured n))) (nows bytes 0 n) (goals bytes 0 n)

-- A space of 4 × n numbers, which planning needs: by then its questions 1, 2, 3, 16 and 10 have a yes, so it asks 4 on (`InOrder`).
abbrev pub lent : ℕ → List ℕ
lent n = replicate (4 * n) 0

unfoldable pub program_questions : Bool → ℕ → ℕ → List ℕ → List Question
program_questions measured n m bytes =
    asks_method m ∷ asks_size n
    ∷ (record_questions measured n bytes ++ plan_questions (office m) (sheet_in measured n bytes) (lent n))

-- ---- the output: "It writes PL and the LF records, or one NO."

-- NO: refusal number and place.
abbrev pub refusal_bytes : ℕ → ℕ → List ℕ
refusal_bytes k p = record_bytes No (k ∷ p ∷ [])

-- LF: slab and destination.
abbrev pub move_bytes : Plan → List ℕ
move_bytes [] = []
move_bytes ((a ⟶ x) ∷ p) = record_bytes Lf (a ∷ x ∷ []) ++ move_bytes p

-- PL: lift count and, by document 02, Job 2, the number of misplaced slabs; and then the LF records.
abbrev pub plan_bytes : ℕ → ℕ → Plan → List ℕ
plan_bytes count misplaced p = record_bytes Pl (count ∷ misplaced ∷ []) ++ move_bytes p

abbrev pub reply : Asked → List ℕ → List ℕ
reply all_yes bytes = bytes
reply (no' k p) bytes = refusal_bytes k p

-- ---- the answer

-- The records of a plan: its count and that of the misplaced as planning answers them, and its lifts.
abbrev pub plan_records : ℕ → Sheet → List ℕ → List ℕ
plan_records m h space = plan_bytes (plan_answer (office m) h space).count (plan_answer (office m) h space).misplaced (plan_for (office m) h)

-- To the sheet of a head that says n and m: the first "no", or the plan's records.
unfoldable pub sheet_response : Bool → ℕ → ℕ → List ℕ → List ℕ
sheet_response measured n m bytes =
    reply (first_no (program_questions measured n m bytes)) (plan_records m (sheet_in measured n bytes) (lent n))

-- "Put first to the head": where it is not there, 12 with no records before it.
abbrev pub response_by : Option Head → List ℕ → List ℕ
response_by None bytes = refusal_bytes 12 0
response_by (Some h) bytes = sheet_response h.measured h.n h.method bytes

unfoldable pub response_to : List ℕ → List ℕ
response_to bytes = response_by (head_at bytes 0) bytes
