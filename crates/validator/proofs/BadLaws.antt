-- A bad move is a bad lift, and of a legal move the question of lengths is left. Assumes nothing.
use Rattle.std.specs.Prelude.{Ok, Err}
use Prim.Native.Nat.{ℕ}
use mathlib.Core.Path.{◌≡◌, sym}
use Rattle.blocks.specs.State.{State}
use Rattle.blocks.specs.Question.{first_no}
use Rattle.blocks.specs.Replay.{move_questions, fit_questions, lift_questions}
use Rattle.blocks.specs.Length.{Lengths}
use Rattle.blocks.proofs.QuestionLaws.{first_no_append, first_no_front}
use Rattle.validator.specs.Replayed.{verdict_of, fault_of}
use Rattle.validator.specs.declared.Fault.{Fault}

module _ (s : State) (a x : ℕ) where
  -- a bad move is a bad lift
  pub bad_move : (ls : Lengths) (f : Fault) → fault_of (Err f) ≡ first_no (move_questions s a x) → fault_of (Err f) ≡ first_no (lift_questions ls s a x)
  unfolding lift_questions
  bad_move ls f e = sym (first_no_front (move_questions s a x) (fit_questions ls a x) (verdict_of f) 0 (sym e))

  -- of a legal move the question of lengths is left
  pub left : (ls : Lengths) → fault_of (Ok tt) ≡ first_no (move_questions s a x) → first_no (fit_questions ls a x) ≡ first_no (lift_questions ls s a x)
  unfolding lift_questions
  left ls e = sym (first_no_append (move_questions s a x) (fit_questions ls a x) (sym e))
