-- No answer is longer than 48,006 bytes: a plan has at most two lifts for each slab. Assumes nothing.
use Prim.Native.Nat.{ℕ, ◌*◌, ◌≤◌}
use mathlib.Core.Path.{◌≡◌, refl}
use mathlib.Core.Bool.{Bool}
use mathlib.Core.List.{List, [], ◌∷◌}
use Rattle.std.specs.Prelude.{Option, Some, None}
use native.Mathlib.Omega.{arith}
use lib.ListN.{length, length-append}
use Rattle.blocks.specs.State.{most}
use Rattle.blocks.specs.Move.{Plan}
use Rattle.blocks.specs.Question.{Asked, all_yes, no', first_no}
use Rattle.blocks.specs.Sheet.{Sheet, office, plan_questions}
use Rattle.blocks.specs.Answer.{plan_for, plan_answer}
use Rattle.records.specs.Records.{record_bytes}
use Rattle.records.specs.declared.Kind.TheVariants.{Pl, No}
use Rattle.records.proofs.WriteLaws.{length_record}
use Rattle.sheets.specs.declared.Head.{Head}
use Rattle.sheets.specs.Sheets.{head_at}
use Rattle.responder.specs.Responses.{sheet_in, lent, program_questions, refusal_bytes, move_bytes, plan_bytes, plan_records, reply, sheet_response}
use Rattle.responder.specs.Responses.{response_by, response_to}
use Rattle.responder.specs.Answers.{longest}
use Rattle.responder.specs.Bounds.{Fits}
use Rattle.responder.proofs.SizeLaws.{size_pl, size_no, longest_is}
use Rattle.responder.proofs.MoveLaws.{length-move_bytes}
use Rattle.responder.proofs.DecidedLaws.{plan_yes}
use Rattle.responder.proofs.PlannedLaws.{lifts_le}

refusal_fits : (k p : ℕ) → length (refusal_bytes k p) ≤ longest
refusal_fits k p = omega (arith, length_record No k p, size_no, longest_is)

plan_fits : (c d : ℕ) (p : Plan) → length p ≤ 2 * most → length (plan_bytes c d p) ≤ longest
plan_fits c d p h =
    let both = length-append (record_bytes Pl (c ∷ d ∷ [])) (move_bytes p) in
    omega (arith, both, length_record Pl c d, size_pl, length-move_bytes p, longest_is)

records_fit : (m : ℕ) (h : Sheet) (space : List ℕ) → first_no (plan_questions (office m) h space) ≡ all_yes → length (plan_records m h space) ≤ longest
records_fit m h space all =
    let a = plan_answer (office m) h space in
    plan_fits a.count a.misplaced (plan_for (office m) h) (lifts_le (office m) h space all)

sheet_fits : (t : Bool) (n m : ℕ) (bytes : List ℕ) → length (sheet_response t n m bytes) ≤ longest
unfolding sheet_response
sheet_fits t n m bytes = by (first_no (program_questions t n m bytes)) (plan_yes t n m bytes)
  where
    h : Sheet
    h = sheet_in t n bytes

    by : (a : Asked) → (a ≡ all_yes → first_no (plan_questions (office m) h (lent n)) ≡ all_yes) → length (reply a (plan_records m h (lent n))) ≤ longest
    by all_yes all = records_fit m h (lent n) (all refl)
    by (no' k p) all = refusal_fits k p

pub answer_bound : Fits
unfolding response_to
answer_bound bytes = by (head_at bytes 0)
  where
    by : (o : Option Head) → length (response_by o bytes) ≤ longest
    by (Some h) = sheet_fits h.measured h.n h.method bytes
    by None = refusal_fits 12 0
