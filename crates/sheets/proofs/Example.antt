-- Document 01's whole example comes out so, and with lengths. Assumes nothing.
use mathlib.Core.Path.{refl}
use Rattle.records.specs.Marks.{marks, mark_of}
use Rattle.records.specs.Records.{has_record, field_of, record_at, entries_at}
use Rattle.sheets.specs.Sheets.{head_at, body_at, sheet_at, nows_read, goals_behind, goals_read, lengths_behind, lengths_read}
use Rattle.sheets.specs.Example.{Examples}

pub examples : Examples
unfolding marks mark_of has_record field_of record_at entries_at head_at body_at sheet_at nows_read goals_behind goals_read lengths_behind lengths_read
examples =
    record {
      whole = refl;
      nows = refl;
      goals = refl;
      no_lengths = refl;
      first = refl;
      second = refl;
      past = refl;
      cut = refl;
      marked = refl;
      now_cut = refl;
      both_cut = refl;
      long = refl;
      with_lengths = refl;
      lengths = refl;
      other_method = refl;
      three_slabs = refl;
      other_method_plain = refl;
      three_plain = refl;
      lengths_gone = refl;
      length_cut = refl;
      three_cut = refl;
      three_lengths_gone = refl;
      three_goals_gone = refl;
    }
