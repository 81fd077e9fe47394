-- Lists of moves written as lists of numbers. Assumes nothing.
use mathlib.Core.Path.{◌≡◌, refl, ap}
use mathlib.Core.List.{List, [], ◌∷◌}
use Prim.Native.Nat.{ℕ, ◌*◌, ◌%◌}
use native.Mathlib.Omega.{arith}
use lib.ListN.{length}
use Rattle.blocks.specs.Move.{◌⟶◌, Plan}
use Rattle.blocks.specs.Answer.{flat, moves}

pub pairs_back : (p : Plan) → moves (flat p) ≡ p
pairs_back [] = refl
pairs_back ((a ⟶ x) ∷ p) = ap (λ q. (a ⟶ x) ∷ q) (pairs_back p)

pub length-flat : (p : Plan) → length (flat p) ≡ 2 * length p
length-flat [] = refl
length-flat ((a ⟶ x) ∷ p) = omega (arith, length-flat p)

-- a list of even length is pairs
pub pairs_forth : (l : List ℕ) → length l % 2 ≡ 0 → flat (moves l) ≡ l
pairs_forth [] e = refl
pairs_forth (a ∷ []) e = absurd (omega arith)
pairs_forth (a ∷ x ∷ l) e = ap (λ r. a ∷ x ∷ r) (pairs_forth l (omega arith))

pub length-moves : (l : List ℕ) → length l % 2 ≡ 0 → 2 * length (moves l) ≡ length l
length-moves [] e = refl
length-moves (a ∷ []) e = absurd (omega arith)
length-moves (a ∷ x ∷ l) e = omega (arith, length-moves l (omega arith))
