-- "Sheets without lengths are answered as before" (document 02, Job 3), of the program: behind HD the questions and the answer are those of document 01 alone.
-- A statement alone; `proofs/Plain.antt` proves it. Assumes nothing.
use Rattle.std.specs.Prelude.{ℕ, ◌+◌, ◌*◌, ◌≤◌, ◌<◌, ◌≡◌, List, ◌∷◌, leb, length}
use Rattle.blocks.specs.Question.{Question, first_no, asks_method, asks_size}
use Rattle.blocks.specs.Sheet.{plain, office, plan_questions}
use Rattle.records.specs.Marks.{size}
use Rattle.records.specs.Records.{found, record_at}
use Rattle.records.specs.declared.Kind.TheVariants.{Hd, Nw, Gl}
use Rattle.sheets.specs.Sheets.{nows, goals}
use Rattle.responder.specs.Responses.{asks_nows, asks_goals, lent, plan_records, reply, response_to}

-- "and nothing after the last record?" "or 2 × n + 1 for a tail": behind the head, n NW records and n GL records.
abbrev pub plain_tail : ℕ → ℕ → Question
plain_tail n long =
    record {
      number = 12;
      property = long ≤ size Hd + n * size Nw + n * size Gl;
      fault = λ p. (p ≡ 2 * n + 1) × (size Hd + n * size Nw + n * size Gl < long);
      test = leb long (size Hd + n * size Nw + n * size Gl);
      place = 2 * n + 1;
    }

-- "then 1 and 2 are asked; then 12 of the other records in order; then 4 on."
abbrev pub plain_questions : ℕ → ℕ → List ℕ → List Question
plain_questions n m bytes =
    asks_method m ∷ asks_size n ∷ asks_nows n bytes ∷ asks_goals n bytes ∷ plain_tail n (length bytes)
    ∷ plan_questions (office m) (plain (nows bytes 0 n) (goals bytes 0 n)) (lent n)

abbrev pub AsBefore : Type 0
AsBefore =
    (n m : ℕ) (bytes : List ℕ) → record_at Hd bytes 0 ≡ found n m
    → response_to bytes ≡ reply (first_no (plain_questions n m bytes)) (plan_records m (plain (nows bytes 0 n) (goals bytes 0 n)) (lent n))
