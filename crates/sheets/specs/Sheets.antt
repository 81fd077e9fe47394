-- One sheet's records from a place in the bytes (document 01, "Records of the program" and question 12; document 02, Job 3). Assumes nothing.
use Rattle.std.specs.Prelude.{ℕ, ◌+◌, ◌*◌, Bool, true, false, ◌&&◌, cond, Option, Some, None, Result, Ok, Err, List, [], leb, eqb, length}
use Rattle.blocks.specs.State.{most}
use Rattle.records.specs.Marks.{size}
use Rattle.records.specs.Records.{record_at, entries_at}
use Rattle.records.specs.declared.Kind.{Kind}
use Rattle.records.specs.declared.Kind.TheVariants.{Hd, Nw, Gl, Hl, Ln}
use Rattle.records.specs.declared.Fields.{Fields}
use Rattle.sheets.specs.declared.Head.{Head}
use Rattle.sheets.specs.declared.Whole.{Whole}
use Rattle.sheets.specs.declared.Unread.{Unread}
use Rattle.sheets.specs.declared.Unread.TheVariants.{Headless, Long, Broken}

-- ---- the head: HD or, of a sheet with lengths, HL

-- "A sheet with head mark HL (48 4C, HD's fields)": the mark says whether there are lengths.
abbrev pub head_kind : Bool → Kind
head_kind true = Hl
head_kind false = Hd

-- A head that is there, with HD's fields, n and the method.
abbrev pub there : Bool → ℕ → ℕ → Option Head
there t n m = Some (record { measured = t; n = n; method = m })

-- By what was found of HD and of HL.
abbrev pub head_by : Option Fields → Option Fields → Option Head
head_by (Some f) h = there false f.first f.second
head_by None (Some f) = there true f.first f.second
head_by None None = None

unfoldable pub head_at : List ℕ → ℕ → Option Head
head_at bytes at = head_by (record_at Hd bytes at) (record_at Hl bytes at)

-- "has n records LN (4C 4E, one field) after the GL records": as many as the head asks for, none behind HD.
abbrev pub length_count : Bool → ℕ → ℕ
length_count measured n = cond measured n 0

-- ---- where the records stand: "The planning program reads HD, the NW records, the GL records."

-- Where the NW records begin, behind a head at a place.
abbrev pub nows_at : ℕ → ℕ
nows_at at = at + size Hd

-- Where the GL records begin, behind n NW records.
abbrev pub goals_at : ℕ → ℕ → ℕ
goals_at at n = nows_at at + n * size Nw

-- Where the LN records begin, behind n GL records.
abbrev pub lengths_at : ℕ → ℕ → ℕ
lengths_at at n = goals_at at n + n * size Gl

-- Where the sheet ends, behind k LN records.
abbrev pub end_at : ℕ → ℕ → ℕ → ℕ
end_at at n k = lengths_at at n + k * size Ln

-- ---- the entries that are there, up to the first record that is not

-- NW, by document 01's table: a now entry; "n of them, by slab".
abbrev pub nows : List ℕ → ℕ → ℕ → List ℕ
nows bytes at n = entries_at Nw bytes (nows_at at) n

-- GL: a goal entry; "n of them, by slab".
abbrev pub goals : List ℕ → ℕ → ℕ → List ℕ
goals bytes at n = entries_at Gl bytes (goals_at at n) n

-- LN: a length; k of them, by slab.
abbrev pub lengths : List ℕ → ℕ → ℕ → ℕ → List ℕ
lengths bytes at n k = entries_at Ln bytes (lengths_at at n) k

-- Question 12 of the NW records, of the GL records and of the LN records: "are all bytes of the record there, with its own mark"?
abbrev pub nows_there : List ℕ → ℕ → ℕ → Bool
nows_there bytes at n = eqb (length (nows bytes at n)) n

abbrev pub goals_there : List ℕ → ℕ → ℕ → Bool
goals_there bytes at n = eqb (length (goals bytes at n)) n

abbrev pub lengths_there : List ℕ → ℕ → ℕ → ℕ → Bool
lengths_there bytes at n k = eqb (length (lengths bytes at n k)) k

-- ---- the answer

-- What stands at a place: a whole sheet, or why there is none.
abbrev pub Sheet : Type 0
Sheet = Result Whole Unread

-- Every record of a sheet of n slabs is there, and it ends at e.
abbrev pub whole_sheet : ℕ → ℕ → Bool → ℕ → Sheet
whole_sheet n m t e = Ok (record { n = n; method = m; measured = t; end = e })

-- Of k LN records, behind n NW and n GL records that are there.
abbrev pub behind_goals : Bool → ℕ → ℕ → ℕ → List ℕ → ℕ → Sheet
behind_goals measured n k m bytes at =
    cond (lengths_there bytes at n k) (whole_sheet n m measured (end_at at n k)) (Err (Broken m (1 + n + n + length (lengths bytes at n k))))

-- "then 12 of the other records in order": of a head that says n and m. "Place: the records before it".
unfoldable pub body_at : Bool → ℕ → ℕ → List ℕ → ℕ → Sheet
body_at measured n m bytes at =
    cond
    (nows_there bytes at n)
    (cond (goals_there bytes at n) (behind_goals measured n (length_count measured n) m bytes at) (Err (Broken m (1 + n + length (goals bytes at n)))))
    (Err (Broken m (1 + length (nows bytes at n))))

-- n and the method; "n at most 4,000".
abbrev pub sheet_by : Option Head → List ℕ → ℕ → Sheet
sheet_by None bytes at = Err Headless
sheet_by (Some h) bytes at = cond (leb h.n most) (body_at h.measured h.n h.method bytes at) (Err (Long h.method))

-- "Put first to the head".
unfoldable pub sheet_at : List ℕ → ℕ → Sheet
sheet_at bytes at = sheet_by (head_at bytes at) bytes at

-- ---- the entries that are read

-- The now entries: none where the head is not there or says too many.
abbrev pub nows_by : Option Head → List ℕ → ℕ → List ℕ
nows_by None bytes at = []
nows_by (Some h) bytes at = cond (leb h.n most) (nows bytes at h.n) []

unfoldable pub nows_read : List ℕ → ℕ → List ℕ
nows_read bytes at = nows_by (head_at bytes at) bytes at

-- The goal entries: none either where a NW record is not there.
unfoldable pub goals_behind : ℕ → List ℕ → ℕ → List ℕ
goals_behind n bytes at = cond (nows_there bytes at n) (goals bytes at n) []

abbrev pub goals_by : Option Head → List ℕ → ℕ → List ℕ
goals_by None bytes at = []
goals_by (Some h) bytes at = cond (leb h.n most) (goals_behind h.n bytes at) []

unfoldable pub goals_read : List ℕ → ℕ → List ℕ
goals_read bytes at = goals_by (head_at bytes at) bytes at

-- The lengths: none either where a GL record is not there.
unfoldable pub lengths_behind : ℕ → ℕ → List ℕ → ℕ → List ℕ
lengths_behind n k bytes at = cond (nows_there bytes at n && goals_there bytes at n) (lengths bytes at n k) []

abbrev pub lengths_by : Option Head → List ℕ → ℕ → List ℕ
lengths_by None bytes at = []
lengths_by (Some h) bytes at = cond (leb h.n most) (lengths_behind h.n (length_count h.measured h.n) bytes at) []

unfoldable pub lengths_read : List ℕ → ℕ → List ℕ
lengths_read bytes at = lengths_by (head_at bytes at) bytes at
