-- The table of marks (document 01, "Records of the program"; document 02, Job 3). The other definitions take marks and numbers of fields from here; only the
-- examples write bytes out. Assumes nothing.
use Rattle.std.specs.Prelude.{ℕ, ◌+◌, ◌*◌, List, [], ◌∷◌, get_or}
use Rattle.records.specs.declared.Kind.{Kind}
use Rattle.records.specs.declared.Kind.TheVariants.{Hd, Nw, Gl, Pl, Lf, No, Hl, Ln}
use Rattle.records.specs.declared.Mark.{Mark}

-- Document 01's table, in its order, and behind it the marks of document 02, Job 3: the two bytes of the mark and the number of fields.
unfoldable pub marks : List Mark
marks =
    -- HD, 48 44: n, method
    record { high = 72; low = 68; fields = 2 }
    -- NW, 4E 57: now entry
    ∷ record { high = 78; low = 87; fields = 1 }
    -- GL, 47 4C: goal entry
    ∷ record { high = 71; low = 76; fields = 1 }
    -- PL, 50 4C: lift count, misplaced
    ∷ record { high = 80; low = 76; fields = 2 }
    -- LF, 4C 46: slab, destination
    ∷ record { high = 76; low = 70; fields = 2 }
    -- NO, 4E 4F: refusal number, place
    ∷ record { high = 78; low = 79; fields = 2 }
    -- HL, 48 4C: HD's fields
    ∷ record { high = 72; low = 76; fields = 2 }
    -- LN, 4C 4E: length
    ∷ record { high = 76; low = 78; fields = 1 }
    ∷ []

-- Where a kind stands in the table.
abbrev pub row : Kind → ℕ
row Hd = 0
row Nw = 1
row Gl = 2
row Pl = 3
row Lf = 4
row No = 5
row Hl = 6
row Ln = 7

-- The mark of a kind. Every kind has a row, so the default is never taken.
unfoldable pub mark_of : Kind → Mark
mark_of k = get_or marks (row k) (record { high = 0; low = 0; fields = 0 })

-- "Each record begins with a two-byte mark; each field is 2 bytes".
abbrev pub size : Kind → ℕ
size k = 2 + 2 * (mark_of k).fields
