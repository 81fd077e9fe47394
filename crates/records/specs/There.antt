-- Question 12 of one record, and of records one after another, as sentences about the bytes (document 01, question 12). `has_record` and `entries_at`
-- compute the same, by `proofs/ThereLaws.antt`. Assumes nothing.
use Rattle.std.specs.Prelude.{ℕ, ◌+◌, ◌*◌, ◌≤◌, ◌<◌, ◌≡◌, List, length, get_or}
use Rattle.records.specs.Marks.{mark_of, size}
use Rattle.records.specs.Records.{field_at}
use Rattle.records.specs.declared.Kind.{Kind}

-- document 01: "are all bytes of the record there, with its own mark"?
pub record There (k : Kind) (bytes : List ℕ) (at : ℕ) : Type 0 where
  pub all : at + size k ≤ length bytes
  pub high : get_or bytes at 0 ≡ (mark_of k).high
  pub low : get_or bytes (at + 1) 0 ≡ (mark_of k).low

-- The n records of a kind from a place on are all there.
abbrev pub AllThere : Kind → List ℕ → ℕ → ℕ → Type 0
AllThere k bytes at n = (i : ℕ) → i < n → There k bytes (at + i * size k)

-- Of these n records i are there, and the next is not.
pub record FirstMissing (k : Kind) (bytes : List ℕ) (at n i : ℕ) : Type 0 where
  pub within : i < n
  pub before : AllThere k bytes at i
  pub missing : ¬ There k bytes (at + i * size k)

-- The n records are all there, and the list has their first fields, by their order.
pub record Entries (k : Kind) (bytes : List ℕ) (at n : ℕ) (l : List ℕ) : Type 0 where
  pub there : AllThere k bytes at n
  pub long : length l ≡ n
  pub each : (i : ℕ) → i < n → get_or l i 0 ≡ field_at bytes (at + i * size k + 2)
