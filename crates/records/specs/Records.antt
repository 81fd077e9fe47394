-- Records, read and written (document 01, "Records of the program"). Assumes nothing.
use Rattle.std.specs.Prelude.{ℕ, zero, suc, ◌+◌, ◌*◌, ◌/◌, ◌%◌, ◌≡◌, Bool, true, false, ◌&&◌, Option, Some, None, List, [], ◌∷◌, leb, ltb, eqb, length, get_or, take}
use Rattle.lists.specs.Search.{pick}
use Rattle.lists.specs.Lists.{overwrite, overwrite_at}
use Rattle.records.specs.Marks.{mark_of, size}
use Rattle.records.specs.declared.Kind.{Kind}
use Rattle.records.specs.declared.Fields.{Fields}

-- ---- reading

-- "each field is 2 bytes, high byte first."
abbrev pub field_at : List ℕ → ℕ → ℕ
field_at bytes at = 256 * get_or bytes at 0 + get_or bytes (at + 1) 0

-- Question 12, of one record: "are all bytes of the record there, with its own mark"?
unfoldable pub has_record : Kind → List ℕ → ℕ → Bool
has_record k bytes at = leb (at + size k) (length bytes) && (eqb (get_or bytes at 0) (mark_of k).high && eqb (get_or bytes (at + 1) 0) (mark_of k).low)

-- Field i of the record of a kind at a place, counted from 0 behind the mark; 0 where the kind has no such field.
unfoldable pub field_of : Kind → List ℕ → ℕ → ℕ → ℕ
field_of k bytes at i = pick (ltb i (mark_of k).fields) (field_at bytes (at + 2 * (i + 1)))

-- A record that is there, by its fields.
abbrev pub found : ℕ → ℕ → Option Fields
found x y = Some (record { first = x; second = y })

-- What was found, where the test passed.
abbrev pub found_if : Bool → Option Fields → Option Fields
found_if true f = f
found_if false f = None

-- The record of a kind at a place, or none.
unfoldable pub record_at : Kind → List ℕ → ℕ → Option Fields
record_at k bytes at = found_if (has_record k bytes at) (found (field_of k bytes at 0) (field_of k bytes at 1))

-- The first field of what was found, and then the rest; nothing where nothing was found.
abbrev pub and_then : Option Fields → List ℕ → List ℕ
and_then (Some f) rest = f.first ∷ rest
and_then None rest = []

-- The first fields of the records of a kind that stand one after another from a place on, at most n, up to the first place without one.
unfoldable pub entries_at : Kind → List ℕ → ℕ → ℕ → List ℕ
entries_at k bytes at zero = []
entries_at k bytes at (suc n) = and_then (record_at k bytes at) (entries_at k bytes (at + size k) n)

-- The entries that are there stand at the front of the lent list, and their number is answered.
pub record ReadEntries (k : Kind) (bytes : List ℕ) (at : ℕ) (out : List ℕ) (count : ℕ) (out' : List ℕ) : Type 0 where
  pub counted : count ≡ length (entries_at k bytes at (length out))
  pub written : out' ≡ overwrite (entries_at k bytes at (length out)) out

-- ---- writing

-- The bytes of fields, one after another, "high byte first."
abbrev pub field_bytes : List ℕ → List ℕ
field_bytes [] = []
field_bytes (v ∷ vs) = v / 256 ∷ v % 256 ∷ field_bytes vs

-- The bytes of a record: its mark, and as many of the given numbers as it has fields.
unfoldable pub record_bytes : Kind → List ℕ → List ℕ
record_bytes k vs = (mark_of k).high ∷ (mark_of k).low ∷ field_bytes (take (mark_of k).fields vs)

-- The record stands at the place, all else is as it was, and the place after it is answered.
pub record PutRecord (k : Kind) (x y at : ℕ) (space : List ℕ) (next : ℕ) (space' : List ℕ) : Type 0 where
  pub after : next ≡ at + size k
  pub written : space' ≡ overwrite_at at (record_bytes k (x ∷ y ∷ [])) space
