-- What reading a sheet promises. Assumes nothing.
use Rattle.std.specs.Prelude.{ℕ, ◌≡◌, List, replicate}
use Rattle.blocks.specs.State.{most}
use Rattle.lists.specs.Lists.{overwrite}
use Rattle.sheets.specs.declared.Entries.{Entries}
use Rattle.sheets.specs.Sheets.{Sheet, sheet_at, nows_read, goals_read, lengths_read}

-- Lists for any sheet to which nothing was read.
unfoldable pub no_entries : Entries
no_entries = record { initial = replicate most 0; goal = replicate most 0; lengths = replicate most 0 }

-- The sheet at a place is answered; the entries that are read stand at the front of the lent lists, and the rest of these is as it was.
pub record ReadsSheet (bytes : List ℕ) (at : ℕ) (entries : Entries) (r : Sheet) (entries' : Entries) : Type 0 where
  pub answer : r ≡ sheet_at bytes at
  pub initial_after : entries'.initial ≡ overwrite (nows_read bytes at) entries.initial
  pub goal_after : entries'.goal ≡ overwrite (goals_read bytes at) entries.goal
  pub lengths_after : entries'.lengths ≡ overwrite (lengths_read bytes at) entries.lengths
