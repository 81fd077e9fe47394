-- Document 01's whole example, byte for byte, read and written by the definitions. Statements alone; `proofs/Example.antt` proves them
-- by computation. Assumes nothing.
use Rattle.std.specs.Prelude.{ℕ, ◌≡◌, None, List, [], ◌∷◌, ◌++◌}
use Rattle.records.specs.Records.{found, record_at, entries_at, record_bytes}
use Rattle.records.specs.declared.Kind.TheVariants.{Hd, Nw, Gl, Pl, Lf}

-- "in: 48 44 00 02 00 02 4E 57 00 02 4E 57 00 00 47 4C 00 00 47 4C 00 01."
abbrev pub input : List ℕ
input = 72 ∷ 68 ∷ 0 ∷ 2 ∷ 0 ∷ 2 ∷ 78 ∷ 87 ∷ 0 ∷ 2 ∷ 78 ∷ 87 ∷ 0 ∷ 0 ∷ 71 ∷ 76 ∷ 0 ∷ 0 ∷ 71 ∷ 76 ∷ 0 ∷ 1 ∷ []

-- "Out: 50 4C 00 02 00 02 4C 46 00 01 00 00 4C 46 00 02 00 01."
abbrev pub output : List ℕ
output = 80 ∷ 76 ∷ 0 ∷ 2 ∷ 0 ∷ 2 ∷ 76 ∷ 70 ∷ 0 ∷ 1 ∷ 0 ∷ 0 ∷ 76 ∷ 70 ∷ 0 ∷ 2 ∷ 0 ∷ 1 ∷ []

-- Two slabs by method 2, now 2 0, goal 0 1; two lifts and two slabs misplaced, the lifts 1 to the ground and 2 onto 1.
pub record Example : Type 0 where
  pub head : record_at Hd input 0 ≡ found 2 2
  pub initial : entries_at Nw input 6 2 ≡ 2 ∷ 0 ∷ []
  pub goal : entries_at Gl input 14 2 ≡ 0 ∷ 1 ∷ []
  pub no_more : entries_at Nw input 6 3 ≡ 2 ∷ 0 ∷ []
  pub ended : record_at Gl input 22 ≡ None
  pub answer : output ≡ record_bytes Pl (2 ∷ 2 ∷ []) ++ (record_bytes Lf (1 ∷ 0 ∷ []) ++ record_bytes Lf (2 ∷ 1 ∷ []))
