-- The deadlock test whole: what each way out of `deadlock` answers, and what a checked sheet with room lends to `test`. Assumes nothing.
use Rattle.std.specs.Prelude.{Option, None, Some, Ok, Err}
use Prim.Native.Nat.{ℕ, ◌*◌, ◌≤◌, ◌<◌}
use mathlib.Core.Path.{◌≡◌, refl, sym, ap, ap₂, ◌∙◌, subst}
use mathlib.Core.Logic.{◌⊎◌, inl, inr, ◌≢◌}
use mathlib.Core.List.{List}
use mathlib.Core.Option.{none}
use native.Mathlib.Omega.{arith}
use lib.ListN.{length, take}
use Rattle.lists.proofs.ReflectLaws.{same?}
use Rattle.lists.proofs.WriteLaws.{overwrite_front}
use Rattle.rows.specs.Rows.{Yard, row_count, Fresh, Sized}
use Rattle.rows.proofs.RowLaws.{sized_within}
use Rattle.blocks.specs.State.{State}
use Rattle.blocks.specs.Loop.{shown_width}
use Rattle.blocks.specs.Method.{built, deadlock_loop, deadlock_rows}
use Rattle.blocks.specs.Question.{all_yes, first_no, asks_room}
use Rattle.blocks.specs.Answer.{tested, written, deadlock_answer, deadlock_space}
use Rattle.blocks.specs.Demands.{Shown}
use Rattle.blocks.specs.Length.{Lengths}
use Rattle.blocks.specs.Sheet.{Sheet, measured_by, goal_state, Accepted, deadlock_questions, DeadlockRefused}
use Rattle.blocks.proofs.GoalStateLaws.{completed_same, bounded}
use Rattle.blocks.proofs.SheetLaws.{behind_front, behind_late, deadlock_refuses, deadlock_refusal, deadlock_accepts}
use Rattle.blocks.proofs.DeadlockTestLaws.{rows_length}
use Rattle.blocks.proofs.Theorems.{theorems}
use Rattle.lists.proofs.NonzeroLaws.{nonzero_none, nonzero_some}
use Rattle.refusals.specs.Refusals.{number_of}
use Rattle.refusals.specs.declared.Refusal.{Refusal}
use Rattle.refusals.specs.declared.Question.TheVariants.{Space}
use Rattle.lengths.specs.Checks.{Examines}
use Rattle.lengths.proofs.ExamineLaws.{accepted, refused_by}
use Rattle.runs.proofs.LentLaws.{unvisited}
use Rattle.deadlocks.specs.Looks.{Seekable, Sought}
use Rattle.deadlocks.specs.Answers.{TestsDeadlock}

-- ---- refusals

refusal : {h : Sheet} {space : List ℕ} (r : Refusal) → DeadlockRefused h space (number_of r.question) r.place → TestsDeadlock h space (Err r) space
refusal {h} {space} r q =
    let w = deadlock_refusal h space (number_of r.question) r.place q in
    record {
      asked = sym ((deadlock_refuses h space (number_of r.question) r.place).1 q);
      answer = sym w.0;
      lent = sym w.1;
      none = λ e. cc;
      some = λ c e. cc;
    }

-- ---- the ways out

-- a checked sheet with room
pub seekable : {ls : Lengths} {s g : State} {space : List ℕ} {y y' : Yard} → Examines (measured_by ls s g) (Ok tt) y y' → Sized y → Fresh row_count y
    → shown_width * length s ≤ length space → Seekable s g y' space
seekable w z f r =
    let a = accepted w.checks refl in
    record {
      problem = record { small = a.small; problem = a.problem };
      sized = sized_within z w.within;
      start = w.known refl;
      visits = unvisited f w.within;
      room = r;
    }

module _ (h : Sheet) (space : List ℕ) {y y' : Yard} where
  pub refused_way : {q : Refusal} → Examines h (Err q) y y' → TestsDeadlock h space (Err q) space
  unfolding deadlock_questions
  refused_way {q} w = refusal q (behind_front none h _ (number_of q.question) q.place (refused_by w.checks refl))

  module _ (w : Examines h (Ok tt) y y') where
    accept : Accepted h
    accept = accepted w.checks refl

    abbrev s : State
    s = h.initial

    abbrev g : State
    g = goal_state h

    pub room_way : {q : Refusal} → length space < shown_width * length s → q ≡ record { question = Space; place = 0 } → TestsDeadlock h space (Err q) space
    unfolding deadlock_questions asks_room
    room_way r e = rw e (refusal (record { question = Space; place = 0 }) (behind_late none h _ 10 0 tt accept (inl (refl, (refl, λ l. omega arith)))))

    module _ (r : shown_width * length s ≤ length space) {a : Option ℕ} {space' : List ℕ} (u : Sought s g space a space') where
      yes : first_no (deadlock_questions h space) ≡ all_yes
      yes = (deadlock_accepts h space).1 (record { accepted = accept; room = r })

      abbrev count : ℕ
      count = length (deadlock_loop s g)

      given : record { number = 0; place = 0; count = count } ≡ deadlock_answer h space
      unfolding deadlock_answer
      given = sym (ap (λ a. tested a (deadlock_loop s g)) yes)

      lent : space' ≡ deadlock_space h space
      unfolding deadlock_space
      lent = u.written ∙ sym (ap (λ a. written a (deadlock_rows s g) space) yes)

      -- nothing is deadlocked
      free_way : count ≡ 0 → TestsDeadlock h space (Ok None) space'
      free_way z =
          record {
            asked = sym yes;
            answer = ap (λ k. record { number = 0; place = 0; count = k }) (sym z) ∙ given;
            lent = lent;
            none = λ _. (theorems.deadlock_none s g (bounded accept).problem).0 z;
            some = λ k e. cc;
          }

      -- the blocks shown are
      shown_way : count ≢ 0 → TestsDeadlock h space (Ok (Some count)) space'
      unfolding deadlock_rows
      shown_way n =
          record {
            asked = sym yes;
            answer = given;
            lent = lent;
            none = λ e. cc;
            some = λ k e.
                let same : length (deadlock_loop s g) ≡ k = cc in
                subst (λ j. (blocks : List ℕ) × (length blocks ≡ j) × Shown s g blocks (take (shown_width * j) space')) same
                (deadlock_loop s g, refl, subst (Shown s g (deadlock_loop s g)) (sym front) shown);
          }
        where
          long : shown_width * length (deadlock_loop s g) ≡ length (deadlock_rows s g)
          long = omega (arith, rows_length (built s g) g (deadlock_loop s g))

          shown : Shown s g (deadlock_loop s g) (deadlock_rows s g)
          shown = theorems.deadlock_shown s g (bounded accept).problem n

          front : take (shown_width * length (deadlock_loop s g)) space' ≡ deadlock_rows s g
          front = ap₂ (λ i l. take i l) long u.written ∙ overwrite_front (deadlock_rows s g) space

      told : TestsDeadlock h space (Ok a) space'
      told = by (same? count 0)
        where
          by : (count ≡ 0) ⊎ (count ≢ 0) → TestsDeadlock h space (Ok a) space'
          by (inl z) = rw (u.count ∙ sym (nonzero_none z)) (free_way z)
          by (inr n) = rw (u.count ∙ sym (nonzero_some count n)) (shown_way n)

    -- the goal list, which is lent on, is the goal state
    pub test_way : shown_width * length s ≤ length space → {a : Option ℕ} {space' : List ℕ} → Sought s h.goal space a space' → TestsDeadlock h space (Ok a) space'
    test_way r {a} {space'} f = told r (subst (λ t. Sought s t space a space') (sym (completed_same s h.goal)) f)
