-- Document 01's whole example, and the others, by computation. Assumes nothing.
use mathlib.Core.Path.{refl}
use Rattle.lists.specs.Search.{lowest, count}
use Rattle.blocks.specs.Tests.{load, clearᵇ, groundedᵇ, agreesᵇ, position, in_positionᵇ, misplacedᵇ, waitingᵇ, readyᵇ, perchedᵇ, misplaced_count}
use Rattle.blocks.specs.Method.{iterate, fuel, lowest_perched, lowest_ready, solving, outcome, plan_outcome}
use Rattle.blocks.specs.Question.{asks_method, asks_size, asks_same, outsideᵇ, first_outside, asks_outside, sharedᵇ, first_shared, asks_shared}
use Rattle.blocks.specs.Question.{floatingᵇ, first_floating, asks_floating, asks_room, asks_plan, state_questions, limit_questions, list_questions}
use Rattle.blocks.specs.Length.{fitsᵇ, asks_lengths, overhangsᵇ, first_overhang, asks_overhang, overhang_questions, length_questions}
use Rattle.blocks.specs.Sheet.{completed, sheet_questions, plan_questions}
use Rattle.blocks.specs.Answer.{plan_answer}
use Rattle.records.specs.Marks.{marks, mark_of}
use Rattle.records.specs.Records.{has_record, field_of, record_at, entries_at, record_bytes}
use Rattle.sheets.specs.Sheets.{head_at}
use Rattle.responder.specs.Responses.{asks_nows, asks_goals, asks_length_records, asks_tail, program_questions, sheet_response, response_to}
use Rattle.responder.specs.Example.{Examples}

pub examples : Examples
unfolding completed lowest count load clearᵇ groundedᵇ agreesᵇ position in_positionᵇ misplacedᵇ waitingᵇ readyᵇ perchedᵇ misplaced_count iterate fuel
    lowest_perched lowest_ready solving outcome asks_method asks_size asks_same outsideᵇ first_outside asks_outside sharedᵇ first_shared asks_shared floatingᵇ first_floating
    asks_floating asks_room asks_plan state_questions limit_questions list_questions fitsᵇ asks_lengths overhangsᵇ first_overhang asks_overhang overhang_questions length_questions
    plan_outcome sheet_questions plan_questions plan_answer marks mark_of has_record field_of record_at entries_at record_bytes head_at asks_nows asks_goals
    asks_length_records asks_tail program_questions sheet_response response_to
examples =
    record {
      whole = refl;
      nothing = refl;
      half_a_head = refl;
      no_method = refl;
      no_method_cut = refl;
      no_method_long = refl;
      marked = refl;
      planned = refl;
      refused = refl;
      behind = refl;
      behind_goals_lem = refl;
      equal = refl;
      other_method = refl;
      three_slabs = refl;
      overhangs_now = refl;
      overhangs_goal = refl;
      behind_lengths = refl;
      behind_three = refl;
      behind_three_lengths = refl;
      beyond_panel = refl;
      most_slabs = refl;
      too_many = refl;
    }
