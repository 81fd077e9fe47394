-- Document 01's whole example by the definitions: alone, behind another, cut, with a mark that is not its own, and with lengths (document 02, Job 3).
-- Statements alone; `proofs/Example.antt` proves them by computation. Assumes nothing.
use Rattle.std.specs.Prelude.{ℕ, ◌≡◌, true, false, Err, List, ◌∷◌, [], ◌++◌, take, set}
use Rattle.records.specs.Example.{input}
use Rattle.sheets.specs.declared.Unread.TheVariants.{Headless, Long, Broken}
use Rattle.sheets.specs.Sheets.{whole_sheet, sheet_at, nows_read, goals_read, lengths_read}

-- The same sheet with head mark HL, and lengths 5 and 300 behind it: "HL (48 4C, HD's fields)", "LN (4C 4E, one field)".
abbrev pub measured : List ℕ
measured = set input 1 76 ++ (76 ∷ 78 ∷ 0 ∷ 5 ∷ 76 ∷ 78 ∷ 1 ∷ 44 ∷ [])

-- S6 by method 2 with head mark HL, and lengths 5, 5 and 7.
abbrev three : List ℕ
three =
    72 ∷ 76 ∷ 0 ∷ 3 ∷ 0 ∷ 2 ∷ 78 ∷ 87 ∷ 0 ∷ 2 ∷ 78 ∷ 87 ∷ 0 ∷ 3 ∷ 78 ∷ 87 ∷ 0 ∷ 0 ∷ 71 ∷ 76 ∷ 0 ∷ 2 ∷ 71 ∷ 76 ∷ 0 ∷ 0 ∷ 71 ∷ 76 ∷ 0 ∷ 0 ∷ 76 ∷ 78 ∷ 0 ∷ 5
    ∷ 76 ∷ 78 ∷ 0 ∷ 5 ∷ 76 ∷ 78 ∷ 0 ∷ 7 ∷ []

pub record Examples : Type 0 where
  -- two slabs by method 2, now 2 0, goal 0 1, in 22 bytes
  pub whole : sheet_at input 0 ≡ whole_sheet 2 2 false 22
  pub nows : nows_read input 0 ≡ 2 ∷ 0 ∷ []
  pub goals : goals_read input 0 ≡ 0 ∷ 1 ∷ []
  pub no_lengths : lengths_read input 0 ≡ []
  -- bytes behind a sheet are not its own
  pub first : sheet_at (input ++ input) 0 ≡ whole_sheet 2 2 false 22
  pub second : sheet_at (input ++ input) 22 ≡ whole_sheet 2 2 false 44
  pub past : sheet_at input 22 ≡ Err Headless
  -- the last byte is not there, or the last mark is NW's: four records stand before it
  pub cut : sheet_at (take 21 input) 0 ≡ Err (Broken 2 4)
  pub marked : sheet_at (set (set input 18 78) 19 87) 0 ≡ Err (Broken 2 4)
  -- the second NW record has another mark
  pub now_cut : sheet_at (set input 10 0) 0 ≡ Err (Broken 2 2)
  -- and the last byte is not there either: the first record that is not there counts
  pub both_cut : sheet_at (take 21 (set input 10 0)) 0 ≡ Err (Broken 2 2)
  -- 4,001 slabs by method 1
  pub long : sheet_at (72 ∷ 68 ∷ 15 ∷ 161 ∷ 0 ∷ 1 ∷ []) 0 ≡ Err (Long 1)
  -- with lengths, in 30 bytes; without the LN records, and without the last byte
  pub with_lengths : sheet_at measured 0 ≡ whole_sheet 2 2 true 30
  pub lengths : lengths_read measured 0 ≡ 5 ∷ 300 ∷ []
  -- HL has HD's fields: two slabs by method 3, and three by method 2, with lengths in 42 bytes; without them, so by HD
  pub other_method : sheet_at (set measured 5 3) 0 ≡ whole_sheet 2 3 true 30
  pub three_slabs : sheet_at three 0 ≡ whole_sheet 3 2 true 42
  pub other_method_plain : sheet_at (set input 5 3) 0 ≡ whole_sheet 2 3 false 22
  pub three_plain : sheet_at (set three 1 68) 0 ≡ whole_sheet 3 2 false 30
  pub lengths_gone : sheet_at (take 22 measured) 0 ≡ Err (Broken 2 5)
  pub length_cut : sheet_at (take 29 measured) 0 ≡ Err (Broken 2 6)
  -- of three slabs without the last byte, without the LN records, and with one GL record: nine, seven and five records stand before
  pub three_cut : sheet_at (take 41 three) 0 ≡ Err (Broken 2 9)
  pub three_lengths_gone : sheet_at (take 30 three) 0 ≡ Err (Broken 2 7)
  pub three_goals_gone : sheet_at (take 22 three) 0 ≡ Err (Broken 2 5)
