-- The table of rivals by computation, without a law. Assumes nothing.
use mathlib.Core.Path.{refl}
use Rattle.lists.specs.Search.{lowest, count}
use Rattle.blocks.specs.Tests.{load, clearᵇ, groundedᵇ, agreesᵇ, first_right, position, in_positionᵇ, nearest}
use Rattle.blocks.specs.Tests.{misplacedᵇ, waitingᵇ, readyᵇ, perchedᵇ, misplaced_count}
use Rattle.blocks.specs.Loop.{rests_on, last_misplaced, blocker, top, successor, walk, loop, lowest_of, onward, blocked_rows}
use Rattle.blocks.specs.Method.{outcome, plan_outcome, built, deadlock_loop, deadlock_rows}
use Rattle.blocks.specs.Method.{iterate, fuel, lowest_perched, lowest_ready, lowest_on_loop, clearing, building, solving}
use Rattle.blocks.specs.Question.{asks_method, asks_size, asks_same, outsideᵇ, first_outside, asks_outside, sharedᵇ, first_shared, asks_shared, floatingᵇ, first_floating, asks_floating}
use Rattle.blocks.specs.Question.{asks_room, asks_plan, state_questions, limit_questions, list_questions}
use Rattle.blocks.specs.Length.{length_questions}
use Rattle.blocks.specs.Sheet.{completed, sheet_questions, plan_questions, deadlock_questions}
use Rattle.blocks.specs.Answer.{plan_answer, plan_space, deadlock_answer, deadlock_space}
use Rattle.blocks.specs.Sheets.{AllHold}
use Rattle.rivals.specs.Rivals.{rivals}

infixr 5 ◌&◌
abbrev ◌&◌ : {A B : Type 0} → A → B → A × B
a & b = (a, b)

pub rivals_hold : AllHold rivals
unfolding completed lowest count load clearᵇ groundedᵇ agreesᵇ first_right position in_positionᵇ nearest misplacedᵇ waitingᵇ readyᵇ perchedᵇ misplaced_count rests_on
    last_misplaced blocker top successor walk loop lowest_of onward blocked_rows iterate fuel lowest_perched lowest_ready lowest_on_loop clearing building solving outcome
    built deadlock_loop deadlock_rows asks_method asks_size asks_same outsideᵇ first_outside asks_outside sharedᵇ first_shared asks_shared floatingᵇ first_floating
    asks_floating asks_room asks_plan state_questions plan_outcome plan_questions plan_answer plan_space deadlock_questions deadlock_answer deadlock_space list_questions
    limit_questions sheet_questions length_questions
rivals_hold =
    (refl, refl, refl) & (refl, refl, refl) & (refl, refl, refl) & (refl, refl, refl) & (refl, refl, refl) & (refl, refl, refl) & (refl, refl, refl) &
    (refl, refl, refl) & (refl, refl, refl) & (refl, refl, refl) & (refl, refl, refl) & (refl, refl, refl) & (refl, refl, refl) & (refl, refl, refl) &
    (refl, refl, refl) & (refl, refl, refl) & (refl, refl, refl) & (refl, refl, refl) & (refl, refl, refl) & (refl, refl, refl) & (refl, refl, refl) &
    (refl, refl, refl) & (refl, refl, refl) & (refl, refl, refl) & (refl, refl, refl) & (refl, refl, refl) & (refl, refl, refl) & (refl, refl, refl) &
    (refl, refl, refl) & (refl, refl, refl) & (refl, refl, refl) & (refl, refl, refl) & (refl, refl, refl) & (refl, refl, refl) & (refl, refl, refl) &
    (refl, refl, refl) & (refl, refl, refl) & (refl, refl, refl) & (refl, refl, refl) & (refl, refl, refl) & (refl, refl, refl) & (refl, refl, refl) &
    (refl, refl, refl) & (refl, refl, refl) & (refl, refl, refl) & (refl, refl, refl) & (refl, refl, refl) & (refl, refl, refl) & (refl, refl, refl) &
    (refl, refl, refl) & (refl, refl, refl) & (refl, refl, refl) & (refl, refl, refl) & (refl, refl, refl) & (refl, refl, refl) & (refl, refl, refl) &
    (refl, refl, refl) & (refl, refl, refl) & (refl, refl, refl) & (refl, refl, refl) & (refl, refl, refl) & (refl, refl, refl) & (refl, refl, refl) &
    (refl, refl, refl) & (refl, refl, refl) & (refl, refl, refl) & tt
