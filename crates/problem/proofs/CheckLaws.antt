-- The check of a problem: what each of its ways out answers. Assumes nothing.
use Prim.Native.Nat.{ℕ, ◌≤◌, ◌<◌}
use Rattle.std.specs.Prelude.{Result, Ok, Err, MatchResult, IsErrAnd, is_ok}
use mathlib.Core.Path.{◌≡◌, refl, sym, ap, ◌∙◌}
use mathlib.Core.Logic.{◌≢◌}
use mathlib.Core.List.{[], ◌∷◌, ◌++◌}
use mathlib.Core.Bool.{true}
use native.Mathlib.Omega.{arith}
use lib.ListN.{length}
use Rattle.lists.proofs.ReflectLaws.{to_true, to_false, eqb_reflects, leb_reflects}
use Rattle.rows.specs.Rows.{Yard, Fresh, Within}
use Rattle.rows.proofs.RowLaws.{within_none, within_then, within_wider}
use Rattle.blocks.specs.State.{State, most}
use Rattle.blocks.specs.Position.{Bounded}
use Rattle.blocks.specs.Question.{no', all_yes, first_no, asks_size, asks_same, state_questions, list_questions, problem_questions}
use Rattle.blocks.proofs.QuestionLaws.{first_no_lem, first_no_append, first_no_front}
use Rattle.blocks.proofs.DecidedLaws.{size_decided, same_decided, accepts}
use Rattle.refusals.specs.Refusals.{no_of, asked_of}
use Rattle.refusals.specs.declared.Question.TheVariants.{TooMany, Unequal}
use Rattle.refusals.specs.declared.Refusal.{Refusal}
use Rattle.problem.specs.Checked.{Checked, fault_of, no_by, Surveyable, Surveyed, Examines}
use Rattle.problem.specs.declared.Fault.{Fault}
use Rattle.problem.specs.declared.Fault.TheVariants.{Outside, Shared, Floating}

-- a problem that is accepted
pub accepted : {s g : State} {r : Checked} {y y' : Yard} → Examines s g r y y' → r ≡ Ok tt → Bounded s g
accepted {s} {g} w e = (accepts s g).0 (sym w.asked ∙ ap asked_of e)

-- on a refusal nothing is said of the rows
refused : {s g : State} (r : Refusal) {y : Yard} → no_of r ≡ first_no (problem_questions s g) → Examines s g (Err r) y y
refused r e = record { asked = e; known = λ z. cc; within = within_none }

-- question 2 is answered no
pub long_way : {s g : State} {y : Yard} (r : Refusal) → r ≡ record { question = TooMany; place = 0 } → most < length s → Examines s g (Err r) y y
unfolding problem_questions asks_size
long_way {s} {g} r e h = refused r (ap no_of e ∙ rw (to_false (leb_reflects (length s) most) (λ l. omega (arith, h, l))))

-- question 3 is answered no
pub uneven_way : {s g : State} {y : Yard} (r : Refusal) → r ≡ record { question = Unequal; place = 0 } → length s ≤ most → length g ≢ length s → Examines s g (Err r) y y
unfolding problem_questions list_questions asks_size asks_same
uneven_way {s} {g} r e h n =
    refused r (ap no_of e ∙ rw (to_true (leb_reflects (length s) most) h, to_false (eqb_reflects (length g) (length s)) n))

-- with both answered yes the questions of the states are left
states : (s g : State) → length s ≤ most → length g ≡ length s → first_no (state_questions 4 5 6 s ++ state_questions 7 8 9 g) ≡ first_no (problem_questions s g)
unfolding problem_questions list_questions asks_size asks_same
states s g h e =
    let front = asks_size (length s) ∷ asks_same s g ∷ [] in
    sym (first_no_append front (state_questions 4 5 6 s ++ state_questions 7 8 9 g) ((first_no_lem front (size_decided (length s), λ _. (same_decided s g, λ _. tt)) all_yes).1 (h, (e, tt))))

pub goal_surveyable : {s g : State} {r : Result (Unit {0}) Fault} {y y' : Yard} → Fresh 4 y → length s ≤ most → length g ≡ length s → Surveyed s g r 0 y y' → Surveyable g g y' 2
goal_surveyable f h e w =
    record {
      small = omega (arith, h, e);
      same = refl;
      sized = omega (arith, f.sized, w.within.size);
      blank_loads = rw (w.within.above 2 (omega arith)) (f.blank 2 (omega arith));
      blank_stands = rw (w.within.above 3 (omega arith)) (f.blank 3 (omega arith));
    }

module _ {s g : State} {y₀ y : Yard} (h : length s ≤ most) (e : length g ≡ length s) where
  -- the initial state is not sound: its fault is the answer
  pub initial_way : {r : Refusal} {f : Fault} → Surveyed s g (Err f) 0 y₀ y → no_of r ≡ no_by 4 5 6 f → Examines s g (Err r) y₀ y
  initial_way {r} {f} w q =
      record {
        asked = q ∙ sym (at f (sym (w.answer 4 5 6))) ∙ states s g h e;
        known = λ z. cc;
        within = within_wider w.within (omega arith) (omega arith);
      }
    where
      front : (k p : ℕ) → first_no (state_questions 4 5 6 s) ≡ no' k p → first_no (state_questions 4 5 6 s ++ state_questions 7 8 9 g) ≡ no' k p
      front k p = first_no_front (state_questions 4 5 6 s) (state_questions 7 8 9 g) k p

      at : (x : Fault) → first_no (state_questions 4 5 6 s) ≡ no_by 4 5 6 x → first_no (state_questions 4 5 6 s ++ state_questions 7 8 9 g) ≡ no_by 4 5 6 x
      at (Outside p) y = front 4 p y
      at (Shared p) y = front 5 p y
      at (Floating p) y = front 6 p y

  module _ (w : Surveyed s g (Ok tt) 0 y₀ y) {y' : Yard} where
    -- the initial state is sound: what is asked of the goal is left
    goal_asked : {f : Result (Unit {0}) Fault} → Surveyed g g f 2 y y' → fault_of 7 8 9 f ≡ first_no (problem_questions s g)
    goal_asked v = v.answer 7 8 9 ∙ sym (first_no_append (state_questions 4 5 6 s) (state_questions 7 8 9 g) (sym (w.answer 4 5 6))) ∙ states s g h e

    both_within : {f : Result (Unit {0}) Fault} → Surveyed g g f 2 y y' → Within 0 4 y₀ y'
    both_within v = within_then (within_wider w.within (omega arith) (omega arith)) (within_wider v.within (omega arith) (omega arith))

    pub goal_way : {r : Refusal} {f : Fault} → Surveyed g g (Err f) 2 y y' → no_of r ≡ no_by 7 8 9 f → Examines s g (Err r) y₀ y'
    goal_way v q = record { asked = q ∙ goal_asked v; known = λ z. cc; within = both_within v }

    pub sound_way : Surveyed g g (Ok tt) 2 y y' → Examines s g (Ok tt) y₀ y'
    sound_way v =
        record {
          asked = goal_asked v;
          known = λ z.
              record {
                loads = rw (v.within.below 0 (omega arith)) (w.known refl).0;
                stands = rw (v.within.below 1 (omega arith)) (w.known refl).1;
                goal_loads = (v.known refl).0;
              };
          within = both_within v;
        }

-- ---- the same where a fault is turned into a refusal by `map_err`: P is what the turning says

ok_is_no_err : {X : Type 0} {u : Unit {0}} {r : Refusal} → Ok u ≡ Err r → X
ok_is_no_err e = cc

abbrev pub Turned : Result (Unit {0}) Fault → (Fault → Refusal → Type 0) → Checked → Type 0
Turned f P r = MatchResult f (λ x. r ≡ Ok x) (λ e. IsErrAnd r (P e))

module _ {s g : State} {y₀ y : Yard} (h : length s ≤ most) (same : length g ≡ length s) {P : Fault → Refusal → Type 0} where
  pub initial_turned : (f : Result (Unit {0}) Fault) (m : Checked) {r : Refusal} → Surveyed s g f 0 y₀ y → Turned f P m → m ≡ Err r
      → ((x : Fault) (q : Refusal) → P x q → no_of q ≡ no_by 4 5 6 x) → Examines s g (Err r) y₀ y
  initial_turned (Ok x) m w t e k = ok_is_no_err (sym t ∙ e)
  initial_turned (Err x) (Ok y) w t e k = absurd t
  initial_turned (Err x) (Err q) w t e k = rw (← e) (initial_way h same w (k x q t))

  pub goal_turned : (f : Result (Unit {0}) Fault) (r : Checked) → Surveyed s g (Ok tt) 0 y₀ y → {y' : Yard} → Surveyed g g f 2 y y' → Turned f P r
      → ((x : Fault) (q : Refusal) → P x q → no_of q ≡ no_by 7 8 9 x) → Examines s g r y₀ y'
  goal_turned (Ok x) r w v t k = rw t (sound_way h same w v)
  goal_turned (Err x) (Ok y) w v t k = absurd t
  goal_turned (Err x) (Err q) w v t k = goal_way h same w v (k x q t)

-- an `Ok` that was left as it was
pub sound_turned : {s g : State} {y₀ y : Yard} (f : Result (Unit {0}) Fault) → Surveyed s g f 0 y₀ y → true ≡ is_ok f → Surveyed s g (Ok tt) 0 y₀ y
sound_turned (Ok tt) w e = w
sound_turned (Err x) w e = cc
