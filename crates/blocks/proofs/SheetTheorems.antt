-- The theorems of specs/SheetDemands, proved: a plan that arrives for a sheet is no shorter than one that solves the problem of its states, and what the methods
-- write fits. Assumes nothing.
use mathlib.Core.Path.{◌≡◌, sym, subst}
use mathlib.Core.List.{List}
use mathlib.Core.Option.{some}
use Prim.Native.Nat.{ℕ}
use Rattle.blocks.specs.Move.{Plan}
use Rattle.blocks.specs.Tests.{misplaced_count}
use Rattle.blocks.specs.Method.{Method, plan, outcome, method_of}
use Rattle.blocks.specs.Sheet.{Sheet, goal_state, Arrives, Accepted, Call}
use Rattle.blocks.specs.Answer.{written_plan, plan_answer, plan_space}
use Rattle.blocks.specs.Demands.{Promise, HeadCount}
use Rattle.blocks.specs.SheetDemands.{Plannable, SheetTheorems}
use Rattle.blocks.proofs.MethodLaws.{method_written}
use Rattle.blocks.proofs.PromiseLaws as promises
use Rattle.blocks.proofs.PromiseLaws.{Arrival, promised}
use Rattle.blocks.proofs.FitsLaws.{fits_test}
use Rattle.blocks.proofs.LengthLaws.{careful_fits}
use Rattle.blocks.proofs.GoalStateLaws.{bounded, goal_state_level, solves_arrives, arrives_solves}
use Rattle.blocks.proofs.ReplayLaws as replays
use Rattle.blocks.proofs.SheetLaws as sheets
use Rattle.blocks.proofs.AnsweredLaws as answers
use Rattle.blocks.proofs.BesideUsLaws as beside
use Rattle.blocks.proofs.Theorems.{exactly}

-- what a method writes fits, because its moves go to the table or to the goal support
arrival : (h : Sheet) → Accepted h → Arrival (Arrives h) h.initial (goal_state h)
arrival h a =
    record {
      problem = (bounded a).problem;
      written = λ m p w. solves_arrives a w.solves (careful_fits h.lengths p h.initial (goal_state h) (goal_state_level a) w.careful);
      shorter = arrives_solves a;
    }

pub demand : (m : Method) (h : Sheet) → Accepted h
    → (p : Plan) × (outcome m h.initial (goal_state h) ≡ plan p) × Promise (Arrives h) m h.initial (goal_state h) p
demand m h a = let w = method_written m h.initial (goal_state h) (bounded a).problem in (w.0, w.1, promised (arrival h a) m w.0 w.2)

-- so does the list in the lent space
pub written_promise : (c : Call) (h : Sheet) (space : List ℕ) → Plannable c h space → (m : Method) → method_of c.method ≡ some m
    → Promise (Arrives h) m h.initial (goal_state h) (written_plan (plan_answer c h space) (plan_space c h space))
unfolding demand
written_promise c h space w m e =
    subst (Promise (Arrives h) m h.initial (goal_state h)) (sym (answers.written_is c h space w m e)) (demand m h w.accepted).2

pub head_count : (h : Sheet) → Accepted h → HeadCount (Arrives h) h.initial (goal_state h) (misplaced_count h.initial (goal_state h))
head_count h a = promises.head_count (arrival h a)

pub sheet_theorems : SheetTheorems
sheet_theorems =
    record {
      sheet_order = sheets.sheet_order;
      plan_order = sheets.plan_order;
      deadlock_order = sheets.deadlock_order;
      replay_order = sheets.replay_order;
      lift_order = replays.lift_order;
      accepts = sheets.accepts;
      goal_bounded = λ h. bounded;
      refuses = sheets.refuses;
      plan_accepts = sheets.plan_accepts;
      plan_refuses = sheets.plan_refuses;
      deadlock_accepts = sheets.deadlock_accepts;
      deadlock_refuses = sheets.deadlock_refuses;
      replay_accepts = sheets.replay_accepts;
      replay_refuses = sheets.replay_refuses;
      check_accepts = sheets.check_accepts;
      check_refuses = sheets.check_refuses;
      plan_refusal = sheets.plan_refusal;
      deadlock_refusal = sheets.deadlock_refusal;
      replay_refusal = sheets.replay_refusal;
      plan_answers = answers.plan_answers;
      deadlock_answers = answers.deadlock_answers;
      replay_answers = sheets.replay_answers;
      never_13 = sheets.never_13;
      written_told = answers.written_told;
      deadlock_written = answers.deadlock_written;
      deadlock_none = answers.deadlock_none;
      deadlock_shown = answers.deadlock_shown;
      lift_legal = replays.lift_yes;
      replay_verdict = replays.replay_verdict;
      replay_arrives = replays.replay_arrives;
      replay_says = sheets.replay_says;
      replay_zero = sheets.replay_zero;
      no_verdict_lem = replays.no_verdict_lem;
      demand = demand;
      written_promise = written_promise;
      head_count = head_count;
      beside_us = beside.beside_us;
      fits_test = λ l a x. exactly (fits_test l a x);
      as_before = sheets.as_before;
      same_lists = sheets.same_lists;
      constructive_fits = λ h w t a x c. rw c.home ((goal_state_level w).fits a);
      panel_same = λ m h space l. sheets.entry_same _ h space l;
      entry_same = sheets.entry_same;
      no_method = sheets.no_method;
      beyond_most = sheets.beyond_most;
      beyond_limit = sheets.beyond_limit;
    }
