-- The fault of a lift: the tests of a move, and then the rule of lengths. Assumes nothing.
use Rattle.std.specs.Prelude.{Ok, Err}
use Prim.Native.Nat.{ℕ, ◌≤◌}
use mathlib.Core.Path.{◌≡◌, sym, ◌∙◌}
use mathlib.Core.Bool.{Bool, true, false, not}
use mathlib.Core.List.{List}
use mathlib.Core.Option.{none, some}
use native.Mathlib.Omega.{arith}
use borrow.Author.Tests.{not-true, not-false}
use lib.ListN.{length}
use Rattle.blocks.specs.State.{State}
use Rattle.blocks.specs.Question.{first_no}
use Rattle.blocks.specs.Replay.{move_questions, fit_questions, lift_questions}
use Rattle.blocks.specs.Length.{fitsᵇ, Counted}
use Rattle.blocks.proofs.ReplayLaws.{move_yes}
use Rattle.validator.specs.Replayed.{fault_of}
use Rattle.validator.specs.declared.Fault.TheVariants.{TooLong}
use Rattle.validator.proofs.BadLaws.{left}

module _ (s : State) (a x : ℕ) (e : fault_of (Ok tt) ≡ first_no (move_questions s a x)) where
  pub unmeasured : fault_of (Ok tt) ≡ first_no (lift_questions none s a x)
  unfolding fit_questions
  unmeasured = left s a x none e

  module _ (l : List ℕ) where
    -- its blocks have lengths
    pub lift_within : Counted (some l) s → (1 ≤ a) × (a ≤ length l) × (x ≤ length l)
    lift_within c =
        let w = (move_yes s a x).0 (sym e) in
        let count : length l ≡ length s = c in
        (w.block.low, omega (arith, w.block.high, count), omega (arith, w.inside, count))

    module _ {u : Bool} (tells : u ≡ not (fitsᵇ l a x)) where
      pub long : u ≡ true → fault_of (Err TooLong) ≡ first_no (lift_questions (some l) s a x)
      unfolding fit_questions
      long y = let fits : fitsᵇ l a x ≡ false = not-true (fitsᵇ l a x) (sym tells ∙ y) in rw (← left s a x (some l) e, fits)

      pub fitting : u ≡ false → fault_of (Ok tt) ≡ first_no (lift_questions (some l) s a x)
      unfolding fit_questions
      fitting y = let fits : fitsᵇ l a x ≡ true = not-false (fitsᵇ l a x) (sym tells ∙ y) in rw (← left s a x (some l) e, fits)
