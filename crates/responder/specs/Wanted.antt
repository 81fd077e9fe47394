-- How many bytes more of an input can still matter to its answer (document 01, question 12; document 02, Job 3). Assumes nothing.
use Rattle.std.specs.Prelude.{ℕ, ◌+◌, ◌-◌, ◌*◌, ◌&&◌, cond, Option, Some, None, Ok, Err, List, ltb, length}
use Rattle.blocks.specs.Method.{method_of}
use Rattle.blocks.specs.Question.{is_method}
use Rattle.records.specs.Marks.{size}
use Rattle.records.specs.declared.Kind.TheVariants.{Hd, Nw}
use Rattle.sheets.specs.declared.Head.{Head}
use Rattle.sheets.specs.declared.Unread.TheVariants.{Headless, Long, Broken}
use Rattle.sheets.specs.Sheets.{head_at, length_count, end_at, Sheet, sheet_at}

-- How many bytes decide what becomes of a sheet: those up to the end of the first record that is not there, with p records before it (GL and LN records
-- are as long as NW records); of a whole sheet one more, which is a tail.
abbrev pub decided_by : Sheet → ℕ
decided_by (Ok w) = w.end + 1
decided_by (Err Headless) = size Hd
decided_by (Err (Long m)) = size Hd
decided_by (Err (Broken m p)) = size Hd + p * size Nw

-- The rest of the head. Behind a head that says n and m: the rest of the sheet and a byte by which a tail is seen; none where m is no method, or where
-- the bytes decide.
abbrev pub wanted_by : Option Head → List ℕ → ℕ
wanted_by None bytes = size Hd - length bytes
wanted_by (Some h) bytes =
    cond (is_method (method_of h.method) && ltb (length bytes) (decided_by (sheet_at bytes 0))) (end_at 0 h.n (length_count h.measured h.n) + 1 - length bytes) 0

-- None where the answer is decided.
unfoldable pub wanted : List ℕ → ℕ
wanted bytes = wanted_by (head_at bytes 0) bytes
