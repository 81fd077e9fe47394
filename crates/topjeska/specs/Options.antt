-- The options of an operation: the bits of one number. A bit that is not named is not looked at, and without its bit a list is not. Assumes nothing.
use Rattle.std.specs.Prelude.{ℕ, ◌/◌, ◌%◌, ◌≡◌, Bool, List, eqb}
use Rattle.std.proofs.Math.Option.{some}
use Rattle.blocks.specs.State.{State}
use Rattle.blocks.specs.Length.{given}
use Rattle.blocks.specs.Sheet.{Sheet, measured_by, plain, Call, office, panel}
use Rattle.planner.specs.Answers.{call_of}

-- The bits by their values: lengths are given;
abbrev pub lengths_bit : ℕ
lengths_bit = 1

-- the cabin panel plans. Planning alone looks at this one.
abbrev pub panel_bit : ℕ
panel_bit = 2

-- A bit of the options is set.
abbrev pub option_set : ℕ → ℕ → Bool
option_set options bit = eqb (options / bit % 2) 1

-- The sheet of the lists, and how planning is asked, by the options.
abbrev pub sheet_for : ℕ → State → State → List ℕ → Sheet
sheet_for options s g l = measured_by (given (option_set options lengths_bit) l) s g

abbrev pub call_for : ℕ → ℕ → Call
call_for options m = call_of (record { method = m; panel = option_set options panel_bit })

-- The table of the options in figures: none, lengths, the panel, both, and all bits but the one that matters. proofs/OptionLaws proves it.
pub record OptionTable : Type 0 where
  pub sheet_none : (s g : State) (l : List ℕ) → sheet_for 0 s g l ≡ plain s g
  pub sheet_lengths : (s g : State) (l : List ℕ) → sheet_for 1 s g l ≡ measured_by (some l) s g
  pub sheet_panel : (s g : State) (l : List ℕ) → sheet_for 2 s g l ≡ plain s g
  pub sheet_both : (s g : State) (l : List ℕ) → sheet_for 3 s g l ≡ measured_by (some l) s g
  pub sheet_others : (s g : State) (l : List ℕ) → sheet_for 65534 s g l ≡ plain s g
  pub call_none : (m : ℕ) → call_for 0 m ≡ office m
  pub call_lengths : (m : ℕ) → call_for 1 m ≡ office m
  pub call_panel : (m : ℕ) → call_for 2 m ≡ panel m
  pub call_both : (m : ℕ) → call_for 3 m ≡ panel m
  pub call_others : (m : ℕ) → call_for 65533 m ≡ office m
