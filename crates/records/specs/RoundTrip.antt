-- What the writer writes the reader reads back, and what the reader accepts the writer would have written. Statements alone;
-- `proofs/RoundTrip.antt` proves them. Assumes nothing.
use Rattle.std.specs.Prelude.{ℕ, ◌+◌, ◌<◌, ◌≤◌, ◌≡◌, ◌≢◌, None, List, [], ◌∷◌, ◌++◌, ltb, length, get_or, take, drop}
use Rattle.lists.specs.Search.{pick}
use Rattle.records.specs.Marks.{mark_of, size}
use Rattle.records.specs.Records.{found, record_at, entries_at, record_bytes}
use Rattle.lists.specs.Lists.{overwrite_at}
use Rattle.records.specs.declared.Kind.{Kind}

-- Every number of the list fits a byte.
pub record Bytes (l : List ℕ) : Type 0 where
  pub small : (i : ℕ) → get_or l i 0 < 256

-- For every kind, all field values, and every place of any space with room for the record. Field values of the code are below 65,536,
-- and then what is written are bytes; that it is read back holds of any numbers.
pub record RoundTrip (k : Kind) (x y at : ℕ) (space : List ℕ) : Type 0 where
  pub back :
      at + size k ≤ length space
      → record_at k (overwrite_at at (record_bytes k (x ∷ y ∷ [])) space) at ≡ found x (pick (ltb 1 (mark_of k).fields) y)
  -- As no other kind: the mark is its own.
  pub other : (j : Kind) → j ≢ k → at + size k ≤ length space → record_at j (overwrite_at at (record_bytes k (x ∷ y ∷ [])) space) at ≡ None
  pub bytes : x < 65536 → y < 65536 → Bytes (record_bytes k (x ∷ y ∷ []))
  -- A record that is read is the record that would be written.
  pub forth : Bytes space → record_at k space at ≡ found x y → take (size k) (drop at space) ≡ record_bytes k (x ∷ y ∷ [])

-- The records of a kind with these first fields, one after another; a second field is 0.
unfoldable pub entry_bytes : Kind → List ℕ → List ℕ
entry_bytes k [] = []
entry_bytes k (v ∷ vs) = record_bytes k (v ∷ 0 ∷ []) ++ entry_bytes k vs

-- Entries written one after another are read back, whatever stands before and behind them.
pub record EntriesTrip (k : Kind) (front vs rest : List ℕ) : Type 0 where
  pub back : entries_at k (front ++ (entry_bytes k vs ++ rest)) (length front) (length vs) ≡ vs
