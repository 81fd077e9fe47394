-- The test of the rule of lengths. Assumes nothing.
use Prim.Native.Nat.{ℕ}
use mathlib.Core.List.{List}
use mathlib.Core.Option.{some}
use Rattle.blocks.specs.Length.{length_of, Fits, fitsᵇ}
use Rattle.lists.proofs.ReflectLaws.{Reflects, reflects_or, eqb_reflects, leb_reflects}

pub fits_test : (l : List ℕ) (a x : ℕ) → Reflects (Fits (some l) a x) (fitsᵇ l a x)
unfolding fitsᵇ
fits_test l a x = reflects_or (eqb_reflects x 0) (leb_reflects (length_of l a) (length_of l x))
