-- Behind HD the program answers as without lengths: no LN record is asked for. Assumes nothing.
use Prim.Native.Nat.{ℕ, ◌+◌, ◌*◌}
use mathlib.Core.Path.{◌≡◌, ap, ap₂, ◌∙◌}
use mathlib.Core.Bool.{false, cond}
use mathlib.Core.List.{List, [], ◌∷◌}
use native.Mathlib.Omega.{arith}
use lib.Dec.{leb}
use lib.ListN.{length}
use Rattle.blocks.specs.Question.{Question, no', first_no, asks_method, asks_size}
use Rattle.blocks.specs.Sheet.{plain, office, plan_questions}
use Rattle.records.specs.Marks.{size}
use Rattle.records.specs.Records.{found, record_at, entries_at}
use Rattle.records.specs.declared.Kind.TheVariants.{Hd, Hl, Nw, Gl}
use Rattle.sheets.specs.Sheets.{there, head_by, head_at, end_at, nows, goals}
use Rattle.responder.specs.Responses.{asks_nows, asks_goals, asks_length_records, asks_tail, lent, program_questions, plan_records, reply, sheet_response, response_by, response_to}
use Rattle.responder.specs.Plain.{plain_tail, plain_questions, AsBefore}
use Rattle.responder.proofs.BehindLaws.{same_behind}

head_plain : (n m : ℕ) (bytes : List ℕ) → record_at Hd bytes 0 ≡ found n m → head_at bytes 0 ≡ there false n m
unfolding head_at
head_plain n m bytes e = ap (λ f. head_by f (record_at Hl bytes 0)) e

-- behind no LN records the tail is asked for as without them
tail_plain : (n : ℕ) (bytes : List ℕ) (qs : List Question) → first_no (asks_tail n 0 (length bytes) ∷ qs) ≡ first_no (plain_tail n (length bytes) ∷ qs)
unfolding asks_tail
tail_plain n bytes qs =
    let end : end_at 0 n 0 ≡ size Hd + n * size Nw + n * size Gl = omega arith in
    let place : 2 * n + 0 + 1 ≡ 2 * n + 1 = omega arith in
    ap₂ (λ e p. cond (leb (length bytes) e) (first_no qs) (no' 12 p)) end place

-- the question of no LN records gets a yes
asked_plain : (n m : ℕ) (bytes : List ℕ) → first_no (program_questions false n m bytes) ≡ first_no (plain_questions n m bytes)
unfolding program_questions asks_length_records entries_at
asked_plain n m bytes =
    let front = asks_method m ∷ asks_size n ∷ asks_nows n bytes ∷ asks_goals n bytes ∷ [] in
    let rest = plan_questions (office m) (plain (nows bytes 0 n) (goals bytes 0 n)) (lent n) in
    same_behind front (asks_tail n 0 (length bytes) ∷ rest) (plain_tail n (length bytes) ∷ rest) (λ _. tail_plain n bytes rest)

pub program_as_before : AsBefore
unfolding response_to sheet_response
program_as_before n m bytes e =
    ap (λ h. response_by h bytes) (head_plain n m bytes e)
    ∙ ap (λ v. reply v (plan_records m (plain (nows bytes 0 n) (goals bytes 0 n)) (lent n))) (asked_plain n m bytes)
