-- A test that computes beside the property that it decides. Assumes nothing.
use Rattle.std.specs.Prelude.{Bool, true, false}

-- The test is true exactly where P holds.
pub data Reflects (P : Type 0) : Bool → Type 0 where
  holds : P → Reflects P true
  fails : ¬ P → Reflects P false
