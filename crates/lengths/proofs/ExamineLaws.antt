-- The check of a sheet: what each of its ways out answers, and what an answer says. Assumes nothing.
use Rattle.std.specs.Prelude.{Ok, Err}
use mathlib.Core.Path.{◌≡◌, refl, sym, ap, ◌∙◌}
use mathlib.Core.Option.{none}
use Rattle.rows.specs.Rows.{Yard}
use Rattle.blocks.specs.State.{State}
use Rattle.blocks.specs.Question.{first_no, limit_questions, problem_questions}
use Rattle.blocks.specs.Length.{length_questions}
use Rattle.blocks.specs.Sheet as sheet
use Rattle.blocks.specs.Sheet.{Sheet, measured_by, sheet_questions}
use Rattle.blocks.specs.Answer.{checked, check_answer}
use Rattle.blocks.proofs.QuestionLaws.{first_no_append, first_no_front}
use Rattle.blocks.proofs.SheetLaws.{accepts, refuses}
use Rattle.problem.specs.Checked as problem
use Rattle.refusals.specs.Refusals.{number_of, asked_of}
use Rattle.refusals.specs.declared.Refusal.{Refusal}
use Rattle.problem.specs.Checked.{Checked, answer_of}
use Rattle.lengths.specs.Checks.{Checks, Examines}

-- the case of the answer fixes its numbers
checks : {h : Sheet} (r : Checked) → asked_of r ≡ first_no (sheet_questions none h) → Checks h r
unfolding check_answer
checks r e = record { asked = e; answer = numbers r ∙ ap checked e }
  where
    numbers : (r : Checked) → answer_of r ≡ checked (asked_of r)
    numbers (Ok x) = refl
    numbers (Err q) = refl

-- ---- the ways out of `examine`

module _ (h : Sheet) {y y' : Yard} where
  -- a "no" to questions 2 to 9
  pub refused_way : {q : Refusal} → problem.Examines h.initial h.goal (Err q) y y' → Examines h (Err q) y y'
  unfolding sheet_questions limit_questions problem_questions
  refused_way {q} w =
      record {
        checks =
            checks (Err q)
            (sym (first_no_front (problem_questions h.initial h.goal) (length_questions h.lengths h.initial h.goal) (number_of q.question) q.place (sym w.asked)));
        known = λ z. cc;
        within = w.within;
      }

  -- what is asked of the lengths is left
  pub accepted_way : {r : Checked} → problem.Examines h.initial h.goal (Ok tt) y y' → asked_of r ≡ first_no (length_questions h.lengths h.initial h.goal) → Examines h r y y'
  unfolding sheet_questions limit_questions problem_questions
  accepted_way {r} w q =
      record {
        checks = checks r (q ∙ sym (first_no_append (problem_questions h.initial h.goal) (length_questions h.lengths h.initial h.goal) (sym w.asked)));
        known = λ z. w.known refl;
        within = w.within;
      }

-- without lengths nothing more is asked
pub plain_way : (s g : State) {y y' : Yard} → problem.Examines s g (Ok tt) y y' → Examines (measured_by none s g) (Ok tt) y y'
unfolding length_questions
plain_way s g w = accepted_way (measured_by none s g) w refl

-- ---- what an answer says

module _ {h : Sheet} {r : Checked} (w : Checks h r) where
  pub accepted : r ≡ Ok tt → sheet.Accepted h
  accepted e = (accepts h).0 (sym w.asked ∙ ap asked_of e)

  pub refused_by : {q : Refusal} → r ≡ Err q → sheet.Refused h (number_of q.question) q.place
  refused_by {q} e = (refuses h (number_of q.question) q.place).0 (sym w.asked ∙ ap asked_of e)
