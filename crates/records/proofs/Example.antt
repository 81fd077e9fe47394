-- Document 01's whole example: the theorem of `specs/Example.antt`, by computation. Assumes nothing.
use mathlib.Core.Path.{refl}
use Rattle.records.specs.Marks.{marks, mark_of}
use Rattle.records.specs.Records.{has_record, field_of, record_at, entries_at, record_bytes}
use Rattle.records.specs.Example.{Example}

pub example : Example
unfolding marks mark_of has_record field_of record_at entries_at record_bytes
example = record { head = refl; initial = refl; goal = refl; no_more = refl; ended = refl; answer = refl }
