-- What the program asks of its input, and when it refuses, as sentences about the bytes (document 01, "Questions put to a sheet, in order", with question 12;
-- document 02, Job 3). Statements alone; `proofs/RefusalLaws.antt` proves them. Assumes nothing.
use Rattle.std.specs.Prelude.{ℕ, ◌+◌, ◌*◌, ◌≤◌, ◌<◌, ◌≡◌, ◌↔◌, Bool, true, false, Option, Some, None, List, [], ◌∷◌, length}
use Rattle.blocks.specs.State.{most}
use Rattle.blocks.specs.Sheet.{Accepted}
use Rattle.blocks.specs.Question.{Asked, all_yes, no', first_no, FirstNo, numbers, IsMethod}
use Rattle.records.specs.Records.{field_at}
use Rattle.records.specs.There.{There, AllThere, FirstMissing, Entries}
use Rattle.records.specs.declared.Kind.TheVariants.{Nw, Gl, Ln}
use Rattle.sheets.specs.declared.Head as declared
use Rattle.sheets.specs.Sheets.{head_kind, head_at, length_count, nows_at, goals_at, lengths_at, end_at, nows, goals, lengths}
use Rattle.responder.specs.Responses.{sheet_in, refusal_bytes, response_to}
use Rattle.responder.specs.Order.{ordered_questions}

-- ---- what the questions come to

-- "Put first to the head": where it is not there, 12 with no records before it.
abbrev pub asked_by : Option declared.Head → List ℕ → Asked
asked_by None bytes = no' 12 0
asked_by (Some h) bytes = first_no (ordered_questions h.measured h.n h.method bytes)

unfoldable pub asked : List ℕ → Asked
asked bytes = asked_by (head_at bytes 0) bytes

-- ---- the same as sentences

-- HD, or HL of a sheet with lengths: n and the method, behind its mark.
pub record Head (bytes : List ℕ) (measured : Bool) (n m : ℕ) : Type 0 where
  pub there : There (head_kind measured) bytes 0
  pub slabs : n ≡ field_at bytes 2
  pub method : m ≡ field_at bytes 4

-- Neither HD nor HL is there.
abbrev pub NoHead : List ℕ → Type 0
NoHead bytes = (measured : Bool) → ¬ There (head_kind measured) bytes 0

-- The first "no" has number k and place p: it is the head's, or, of a head that says n and m, that of the questions in document 01's order.
pub data ProgramRefused (bytes : List ℕ) (k p : ℕ) : Type 0 where
  head : NoHead bytes → k ≡ 12 → p ≡ 0 → ProgramRefused bytes k p
  behind : (measured : Bool) (n m : ℕ) → Head bytes measured n m → FirstNo (ordered_questions measured n m bytes) k p → ProgramRefused bytes k p

-- The head is there, and questions 1 and 2 get a yes.
pub record Begun (bytes : List ℕ) (measured : Bool) (n m : ℕ) : Type 0 where
  pub head : Head bytes measured n m
  pub method : IsMethod m
  pub small : n ≤ most

-- Every question gets a yes: each record is there, the last ends the input, and the sheet is accepted.
pub record Complete (bytes : List ℕ) (measured : Bool) (n m : ℕ) : Type 0 where
  pub begun : Begun bytes measured n m
  pub nows_read_lem : Entries Nw bytes (nows_at 0) n (nows bytes 0 n)
  pub goals_read_lem : Entries Gl bytes (goals_at 0 n) n (goals bytes 0 n)
  pub lengths_read_lem : Entries Ln bytes (lengths_at 0 n) (length_count measured n) (lengths bytes 0 n (length_count measured n))
  pub end : length bytes ≡ end_at 0 n (length_count measured n)
  pub accepted : Accepted (sheet_in measured n bytes)

-- ---- question 12 alone

-- The refusals by 12 with their places: "Place: the records before it, or 2 × n + 1 for a tail." With lengths "its tail place is 3 × n + 1."
pub data Refused12 (bytes : List ℕ) (p : ℕ) : Type 0 where
  -- the head is not there
  head : NoHead bytes → p ≡ 0 → Refused12 bytes p
  -- the head and i NW records are there, and the next is not
  now_missing : (t : Bool) (n m i : ℕ) → Begun bytes t n m → FirstMissing Nw bytes (nows_at 0) n i → p ≡ 1 + i → Refused12 bytes p
  -- the head, n NW records and i GL records are there, and the next is not
  goal_missing : (t : Bool) (n m i : ℕ) → Begun bytes t n m → AllThere Nw bytes (nows_at 0) n → FirstMissing Gl bytes (goals_at 0 n) n i → p ≡ 1 + n + i
      → Refused12 bytes p
  -- the head, n NW records, n GL records and i of the LN records that it asks for are there, and the next is not
  length_missing : (t : Bool) (n m i : ℕ) → Begun bytes t n m → AllThere Nw bytes (nows_at 0) n → AllThere Gl bytes (goals_at 0 n) n
      → FirstMissing Ln bytes (lengths_at 0 n) (length_count t n) i → p ≡ 1 + n + n + i → Refused12 bytes p
  -- all records are there, and there are bytes after the last
  tail : (t : Bool) (n m : ℕ) → Begun bytes t n m → AllThere Nw bytes (nows_at 0) n → AllThere Gl bytes (goals_at 0 n) n
      → AllThere Ln bytes (lengths_at 0 n) (length_count t n) → end_at 0 n (length_count t n) < length bytes → p ≡ 2 * n + length_count t n + 1 → Refused12 bytes p

-- ---- the theorems

pub record Refusals : Type 0 where
  -- "then 1 and 2 are asked; then 12 of the other records in order; then 4 on." Behind HD the third 12 is of no records.
  pub order : (n m : ℕ) (bytes : List ℕ) → numbers (ordered_questions false n m bytes) ≡ 1 ∷ 2 ∷ 12 ∷ 12 ∷ 12 ∷ 12 ∷ 4 ∷ 5 ∷ 6 ∷ 7 ∷ 8 ∷ 9 ∷ 13 ∷ []
  -- with lengths 17 and 18 "after 9"
  pub order_measured : (n m : ℕ) (bytes : List ℕ)
      → numbers (ordered_questions true n m bytes) ≡ 1 ∷ 2 ∷ 12 ∷ 12 ∷ 12 ∷ 12 ∷ 4 ∷ 5 ∷ 6 ∷ 7 ∷ 8 ∷ 9 ∷ 17 ∷ 18 ∷ 13 ∷ []
  -- all is answered yes, or the first "no" has number k and place p, exactly where the sentences say so
  pub accepts : (bytes : List ℕ) → (asked bytes ≡ all_yes) ↔ ((measured : Bool) × (n : ℕ) × (m : ℕ) × Complete bytes measured n m)
  pub refuses : (bytes : List ℕ) (k p : ℕ) → (asked bytes ≡ no' k p) ↔ ProgramRefused bytes k p
  pub twelve : (bytes : List ℕ) (p : ℕ) → (asked bytes ≡ no' 12 p) ↔ Refused12 bytes p
  -- a refusal is answered by one NO, with its number and place
  pub refusal : (bytes : List ℕ) (k p : ℕ) → ProgramRefused bytes k p → response_to bytes ≡ refusal_bytes k p
  -- question 13 is never answered no
  pub never_13 : (bytes : List ℕ) (p : ℕ) → ¬ ProgramRefused bytes 13 p
