-- A set of numbers below 4,096 in 65 words: word i holds the members from 64 × i on, a bit each, and bit i of the last word says that word i is not 0.
-- Every `NumberSet` keeps `Valid`; callers know `member` by the contracts alone. Assumes nothing.
use Rattle.std.specs.Prelude.{ℕ, ◌/◌, ◌%◌, ◌^◌, ◌<◌, ◌≡◌, Bool, false, not, cond, List, eqb, length, get_or}

-- The members are below `limit`; a set has so many words.
abbrev pub limit : ℕ
limit = 4096

abbrev pub highest : ℕ
highest = 4095

abbrev pub word_count : ℕ
word_count = 65

-- Bit i of a number.
abbrev pub bit : ℕ → ℕ → Bool
bit w i = eqb (w / (2 ^ i) % 2) 1

-- Whether x is in the set.
unfoldable pub member : List ℕ → ℕ → Bool
member l x = bit (get_or l (x / 64) 0) (x % 64)

-- The last word says which of the others are not 0.
pub record Valid (l : List ℕ) : Type 0 where
  pub size : length l ≡ word_count
  pub words : (i : ℕ) → get_or l i 0 < 2 ^ 64
  pub summary : (i : ℕ) → i < 64 → bit (get_or l 64 0) i ≡ not (eqb (get_or l i 0) 0)

-- The set with nothing in it.
pub record Empty (l : List ℕ) : Type 0 where
  pub none : (x : ℕ) → member l x ≡ false

-- The set after x was put in or taken out.
pub record Assigned (l : List ℕ) (x : ℕ) (on : Bool) (l' : List ℕ) : Type 0 where
  pub members : (y : ℕ) → y < limit → member l' y ≡ cond (eqb y x) on (member l y)
