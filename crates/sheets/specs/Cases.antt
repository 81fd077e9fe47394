-- What each answer says of the head and of the records behind it. Statements alone; `proofs/SheetLaws.antt` proves them. Assumes nothing.
use Rattle.std.specs.Prelude.{ℕ, ◌+◌, ◌≤◌, ◌<◌, ◌≡◌, ◌⊎◌, Bool, None, Ok, Err, List, length}
use Rattle.blocks.specs.State.{most}
use Rattle.sheets.specs.declared.Unread.TheVariants.{Headless, Long, Broken}
use Rattle.sheets.specs.Sheets.{there, head_at, length_count, nows, goals, lengths, end_at, Sheet}

-- The head is there, and says more blocks than the limit.
pub record IsLong (bytes : List ℕ) (at m : ℕ) : Type 0 where
  pub measured : Bool
  pub n : ℕ
  pub head : head_at bytes at ≡ there measured n m
  pub long : most < n

-- The first record that is not there is a NW record, or, behind n NW records, a GL record, or, behind n GL records, one of k LN records. Before it stand p
-- records, the head among them.
pub record NowMissing (bytes : List ℕ) (at n p : ℕ) : Type 0 where
  pub few : length (nows bytes at n) < n
  pub place : p ≡ 1 + length (nows bytes at n)

pub record GoalMissing (bytes : List ℕ) (at n p : ℕ) : Type 0 where
  pub nows_there_lem : length (nows bytes at n) ≡ n
  pub few : length (goals bytes at n) < n
  pub place : p ≡ 1 + n + length (goals bytes at n)

pub record LengthMissing (bytes : List ℕ) (at n k p : ℕ) : Type 0 where
  pub nows_there_lem : length (nows bytes at n) ≡ n
  pub goals_there_lem : length (goals bytes at n) ≡ n
  pub few : length (lengths bytes at n k) < k
  pub place : p ≡ 1 + n + n + length (lengths bytes at n k)

-- One of the three.
abbrev pub RecordMissing : List ℕ → ℕ → ℕ → ℕ → ℕ → Type 0
RecordMissing bytes at n k p = NowMissing bytes at n p ⊎ GoalMissing bytes at n p ⊎ LengthMissing bytes at n k p

pub record IsBroken (bytes : List ℕ) (at m p : ℕ) : Type 0 where
  pub measured : Bool
  pub n : ℕ
  pub head : head_at bytes at ≡ there measured n m
  pub small : n ≤ most
  pub missing : RecordMissing bytes at n (length_count measured n) p

-- Every record is there, and the sheet ends at e.
pub record IsWhole (bytes : List ℕ) (at n m : ℕ) (measured : Bool) (e : ℕ) : Type 0 where
  pub head : head_at bytes at ≡ there measured n m
  pub small : n ≤ most
  pub nows_there_lem : length (nows bytes at n) ≡ n
  pub goals_there_lem : length (goals bytes at n) ≡ n
  pub lengths_there_lem : length (lengths bytes at n (length_count measured n)) ≡ length_count measured n
  pub end : e ≡ end_at at n (length_count measured n)

-- What a sheet says, by its case.
abbrev pub Says : List ℕ → ℕ → Sheet → Type 0
Says bytes at (Ok w) = IsWhole bytes at w.n w.method w.measured w.end
Says bytes at (Err Headless) = head_at bytes at ≡ None
Says bytes at (Err (Long m)) = IsLong bytes at m
Says bytes at (Err (Broken m p)) = IsBroken bytes at m p
