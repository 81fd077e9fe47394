-- Lists of numbers: zeros, and numbers written over a space. Assumes nothing.
use Rattle.std.specs.Prelude.{ℕ, ◌≡◌, List, ◌++◌, length, get_or, take, drop}

-- Every number of the list is 0.
pub record Zeros (l : List ℕ) : Type 0 where
  pub at : (k : ℕ) → get_or l k 0 ≡ 0

-- What a space holds with some numbers written from the front.
-- document 01: "Only the pairs of the answer are written, from the front; the rest of the space is unchanged."
abbrev pub overwrite : List ℕ → List ℕ → List ℕ
overwrite written space = written ++ drop (length written) space

-- What a space holds with some numbers written from a place on: before and after them what it held.
unfoldable pub overwrite_at : ℕ → List ℕ → List ℕ → List ℕ
overwrite_at at written space = take at space ++ overwrite written (drop at space)
