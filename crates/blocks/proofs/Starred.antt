-- The tables of specs/Sheets proved together by computation, without a law. Assumes nothing.
use mathlib.Core.Path.{refl}
use Rattle.lists.specs.Search.{lowest, count}
use Rattle.blocks.specs.Tests.{load, clearᵇ, groundedᵇ, agreesᵇ, first_right, position, in_positionᵇ, nearest}
use Rattle.blocks.specs.Tests.{misplacedᵇ, waitingᵇ, readyᵇ, perchedᵇ, twiceᵇ, misplaced_count, measure}
use Rattle.blocks.specs.Loop.{rests_on, last_misplaced, blocker, top, successor, walk, loop, lowest_of, onward, blocked_rows}
use Rattle.blocks.specs.Method.{outcome, plan_outcome, built, deadlock_loop, deadlock_rows}
use Rattle.blocks.specs.Method.{iterate, fuel, lowest_perched, lowest_ready, lowest_on_loop, clearing, building, solving}
use Rattle.blocks.specs.Question.{asks_method, asks_size, asks_same, outsideᵇ, first_outside, asks_outside, sharedᵇ, first_shared, asks_shared, floatingᵇ, first_floating, asks_floating}
use Rattle.blocks.specs.Question.{asks_room, asks_even, asks_plan, asks_limit, state_questions, limit_questions, list_questions}
use Rattle.blocks.specs.Length.{fitsᵇ, asks_lengths, overhangsᵇ, first_overhang, asks_overhang, overhang_questions, length_questions}
use Rattle.blocks.specs.Sheet.{completed, sheet_questions, plan_questions, deadlock_questions, replay_questions}
use Rattle.blocks.specs.Replay.{move_questions, fit_questions, lift_questions}
use Rattle.blocks.specs.Answer.{check_answer, plan_answer, plan_space, deadlock_answer, deadlock_space, first_difference, replay_from, replay_answer}
use Rattle.blocks.specs.Sheets.{starred, ties, counts, lifts, verdicts, refusals, measured, AllHold}

infixr 5 ◌&◌
abbrev ◌&◌ : {A B : Type 0} → A → B → A × B
a & b = (a, b)

pub sheets_hold : AllHold starred × AllHold ties × AllHold counts × AllHold lifts × AllHold verdicts × AllHold refusals × AllHold measured
unfolding completed lowest count load clearᵇ groundedᵇ agreesᵇ first_right position in_positionᵇ nearest misplacedᵇ waitingᵇ readyᵇ perchedᵇ twiceᵇ misplaced_count
    measure rests_on last_misplaced blocker top successor walk loop lowest_of onward blocked_rows iterate fuel lowest_perched lowest_ready lowest_on_loop
    clearing building solving outcome built
    deadlock_loop deadlock_rows asks_method asks_size asks_same outsideᵇ first_outside asks_outside sharedᵇ first_shared asks_shared floatingᵇ first_floating
    asks_floating asks_room asks_plan state_questions check_answer plan_outcome plan_questions plan_answer plan_space deadlock_questions
    deadlock_answer deadlock_space asks_even replay_questions move_questions first_difference replay_from replay_answer list_questions asks_limit limit_questions sheet_questions
    fitsᵇ asks_lengths overhangsᵇ first_overhang asks_overhang overhang_questions length_questions fit_questions lift_questions
sheets_hold = (
  (refl, refl, refl) & (refl, refl, refl) & (refl, refl, refl) & (refl, refl, refl) & (refl, refl, refl) & (refl, refl, refl) & (refl, refl, refl) &
      (refl, refl, refl) & (refl, refl, refl) & (refl, refl) & (refl, refl, refl) & (refl, refl, refl) & (refl, refl) & (refl, refl, refl) &
      (refl, refl, refl) & (refl, refl, refl) & (refl, refl) & (refl, refl, refl) & refl & refl & refl & tt,
  (refl, refl, refl) & (refl, refl, refl) & (refl, refl, refl) & (refl, refl, refl) & (refl, refl, refl) & (refl, refl, refl) & (refl, refl, refl) &
      (refl, refl, refl) & (refl, refl, refl) & (refl, refl, refl) & (refl, refl, refl) & (refl, refl, refl) & (refl, refl, refl) &
      (refl, refl, refl) & (refl, refl, refl) & (refl, refl, refl) & (refl, refl, refl) & (refl, refl, refl) & (refl, refl, refl) &
      (refl, refl, refl) & (refl, refl, refl) & (refl, refl, refl) & (refl, refl, refl) & (refl, refl, refl) & (refl, refl, refl) &
      (refl, refl, refl) & (refl, refl, refl) & (refl, refl, refl) & (refl, refl, refl) & (refl, refl, refl) & (refl, refl, refl) &
      (refl, refl, refl) & (refl, refl, refl) & (refl, refl, refl) & (refl, refl, refl) & (refl, refl, refl) & (refl, refl, refl) &
      (refl, refl, refl) & (refl, refl, refl) & (refl, refl, refl) & (refl, refl, refl) & (refl, refl, refl) & (refl, refl, refl) & tt,
  (refl, refl) & (refl, refl) & (refl, refl) & (refl, refl) & (refl, refl) & (refl, refl) & (refl, refl) & (refl, refl) & tt,
  refl & (refl, refl) & (refl, refl) & (refl, refl) & refl & (refl, refl) & refl & refl & (refl, refl) & (refl, refl) & (refl, refl) & refl &
      (refl, refl) & (refl, refl) & (refl, refl) & tt,
  refl & refl & refl & refl & refl & refl & refl & refl & refl & refl & refl & refl & refl & refl & refl & refl & refl & refl & refl & refl & refl &
      refl & refl & refl & refl & refl & refl & refl & refl & tt,
  refl & refl & refl & refl & refl & refl & refl & refl & refl & refl & refl & refl & refl & refl & refl & refl & refl & refl & refl & refl & refl &
      refl & refl & refl & refl & refl & refl & refl & refl & refl & refl & refl & refl & refl & (refl, refl) & (refl, refl) & (refl, refl) &
      (refl, refl) & (refl, refl) & (refl, refl) & (refl, refl) & (refl, refl) & (refl, refl) & (refl, refl) & refl & refl & tt,
  refl & refl & refl & refl & refl & refl & refl & refl & refl & refl & refl & refl & refl & refl & refl & refl & refl & refl & refl & refl & refl &
      refl & refl & refl & refl & refl & refl & refl & refl & refl & refl & refl & refl & refl & refl & refl & refl & refl & refl & refl & refl &
      refl & refl & refl & refl & refl & refl & refl & (refl, refl, refl) & (refl, refl, refl) & (refl, refl, refl) & refl & refl & refl & refl &
      refl & refl & refl & (refl, refl) & (refl, refl) & (refl, refl) & (refl, refl) & (refl, refl) & (refl, refl) & (refl, refl) & (refl, refl) &
      refl & refl & tt,
)
