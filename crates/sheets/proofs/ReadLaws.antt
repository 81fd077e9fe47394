-- The ways out of `read_head` and `read_sheet`: what is answered, and what the lent lists then hold. Assumes nothing.
use Prim.Native.Nat.{ℕ, ◌+◌, ◌≤◌, ◌<◌}
use mathlib.Core.Path.{◌≡◌, sym, ◌∙◌, ap, ap₂}
use mathlib.Core.List.{List, ◌++◌, append_assoc}
use mathlib.Core.Bool.{true, false}
use Rattle.std.specs.Prelude.{Option, Some, None, Err}
use Rattle.std.specs.Option.{ok_or}
use native.Mathlib.Omega.{arith}
use borrow.Author.Tests.{eq-eqb, ne_eqb}
use lib.ListN.{length, take, drop, take-append-drop}
use lib.Seq.{length-take-le, drop-append-le}
use Rattle.blocks.specs.State.{most}
use Rattle.lists.specs.Lists.{overwrite}
use Rattle.records.specs.Records.{record_at, entries_at, ReadEntries}
use Rattle.records.specs.declared.Kind.{Kind}
use Rattle.records.specs.declared.Kind.TheVariants.{Hd, Nw, Gl, Hl, Ln}
use Rattle.records.specs.declared.Fields.{Fields}
use Rattle.records.specs.declared.Reader.{Reader}
use Rattle.records.proofs.EntryLaws.{length_entries}
use Rattle.sheets.specs.declared.Head.{Head}
use Rattle.sheets.specs.declared.Unread.{Unread}
use Rattle.sheets.specs.declared.Unread.TheVariants.{Headless, Long, Broken}
use Rattle.sheets.specs.declared.Entries.{Entries}
use Rattle.sheets.specs.Sheets.{there, head_at, length_count, nows_at, goals_at, lengths_at, end_at, nows, goals, lengths, nows_there, goals_there}
use Rattle.sheets.specs.Sheets.{Sheet, whole_sheet, behind_goals, body_at, goals_behind, lengths_behind}
use Rattle.sheets.specs.Reads.{ReadsSheet}
use Rattle.sheets.proofs.HeadLaws.{record_head, no_head, headless_sheet, headless_nows, headless_goals, headless_lengths}
use Rattle.sheets.proofs.HeadLaws.{long_sheet, long_nows, long_goals, long_lengths, small_sheet, small_nows, small_goals, small_lengths}
use Rattle.sheets.proofs.SheetLaws.{nows_le, goals_le, lengths_le}

-- ---- the ways out of `read_head`

module _ (bytes : List ℕ) (at : ℕ) where
  pub plain_way : {f : Fields} → Some f ≡ record_at Hd bytes at → there false f.first f.second ≡ head_at bytes at
  plain_way e = sym (record_head bytes at false (sym e))

  pub measured_way : {f : Fields} → Some f ≡ record_at Hl bytes at → there true f.first f.second ≡ head_at bytes at
  measured_way e = sym (record_head bytes at true (sym e))

  pub missing_way : None ≡ record_at Hd bytes at → None ≡ record_at Hl bytes at → None ≡ head_at bytes at
  missing_way e f = sym (no_head bytes at (sym e) (sym f))

-- ---- entries that are read to the front of a list

-- What was written over the first n numbers of a list is written over the list.
part_written : (l space : List ℕ) (n : ℕ) → length l ≤ n → n ≤ length space → overwrite l (take n space) ++ drop n space ≡ overwrite l space
part_written l space n k h =
    append_assoc l (drop (length l) (take n space)) (drop n space)
    ∙ ap (λ r. l ++ r) (sym (drop-append-le (length l) (take n space) (drop n space) (omega (arith, length-take-le n space h))))
    ∙ ap (λ r. l ++ drop (length l) r) (take-append-drop n space)

-- The reader stands at a place of the bytes.
pub record Begins (reader : Reader) (bytes : List ℕ) (at : ℕ) : Type 0 where
  pub same : reader.bytes.now ≡ bytes
  pub place : reader.at ≡ at

module _ (k : Kind) {reader : Reader} {bytes : List ℕ} {at n : ℕ} (begins : Begins reader bytes at) (lent : List ℕ) (room : n ≤ length lent) {count : ℕ}
    {lent' : List ℕ} (w : ReadEntries k reader.bytes.now reader.at (take n lent) count lent') where
  entries_lem : entries_at k reader.bytes.now reader.at (length (take n lent)) ≡ entries_at k bytes at n
  entries_lem =
      ap₂ (entries_at k reader.bytes.now) begins.place (length-take-le n lent room) ∙ ap (λ l. entries_at k l at n) begins.same

  counted : count ≡ length (entries_at k bytes at n)
  counted = w.counted ∙ ap length entries_lem

  written : lent' ++ drop n lent ≡ overwrite (entries_at k bytes at n) lent
  written =
      ap (λ r. r ++ drop n lent) (w.written ∙ ap (λ l. overwrite l (take n lent)) entries_lem)
      ∙ part_written (entries_at k bytes at n) lent n (length_entries k bytes at n) room

-- ---- the ways out of `read_sheet`

module _ (bytes : List ℕ) (at : ℕ) (e : Entries) where
  pub headless_way : {o : Option Head} {u : Unread} → o ≡ head_at bytes at → o ≡ None → Err u ≡ ok_or o Headless → ReadsSheet bytes at e (Err u) e
  headless_way {o} {u} i none is =
      let f : head_at bytes at ≡ None = sym i ∙ none in
      let why : u ≡ Headless = cc (is ∙ ap (λ p. ok_or p Headless) none) in
      record {
        answer = ap Err why ∙ sym (headless_sheet bytes at f);
        initial_after = simp (headless_nows bytes at f);
        goal_after = simp (headless_goals bytes at f);
        lengths_after = simp (headless_lengths bytes at f);
      }

module _ (bytes : List ℕ) (at : ℕ) {h : Head} (is : Some h ≡ head_at bytes at) {n : ℕ} (wide : n ≡ h.n) (e : Entries) where
  head_lem : head_at bytes at ≡ there h.measured n h.method
  head_lem = sym is ∙ ap (λ i. there h.measured i h.method) (sym wide)

  pub long_way : most < n → ReadsSheet bytes at e (Err (Long h.method)) e
  long_way l =
      record {
        answer = sym (long_sheet bytes at head_lem l);
        initial_after = simp (long_nows bytes at head_lem l);
        goal_after = simp (long_goals bytes at head_lem l);
        lengths_after = simp (long_lengths bytes at head_lem l);
      }

  module _ (l : n ≤ most) where
    reads : {r : Sheet} {e' : Entries} → r ≡ body_at h.measured n h.method bytes at → e'.initial ≡ overwrite (nows bytes at n) e.initial
        → e'.goal ≡ overwrite (goals_behind n bytes at) e.goal → e'.lengths ≡ overwrite (lengths_behind n (length_count h.measured n) bytes at) e.lengths
        → ReadsSheet bytes at e r e'
    reads a b c d = record {
      answer = a ∙ sym (small_sheet bytes at head_lem l);
      initial_after = b ∙ ap (λ i. overwrite i e.initial) (sym (small_nows bytes at head_lem l));
      goal_after = c ∙ ap (λ i. overwrite i e.goal) (sym (small_goals bytes at head_lem l));
      lengths_after = d ∙ ap (λ i. overwrite i e.lengths) (sym (small_lengths bytes at head_lem l));
    }

    module _ {a : ℕ} {initial' : List ℕ} (room : n ≤ length e.initial) (r : Reader) (begins : Begins r bytes (nows_at at))
        (first : ReadEntries Nw r.bytes.now r.at (take n e.initial) a initial') where
      nows_counted : a ≡ length (nows bytes at n)
      nows_counted = counted Nw begins e.initial room first

      nows_written : initial' ++ drop n e.initial ≡ overwrite (nows bytes at n) e.initial
      nows_written = written Nw begins e.initial room first

      -- a NW record that is not there
      pub now_missing_way : a < n
          → ReadsSheet bytes at e (Err (Broken h.method (1 + a))) (record { initial = initial' ++ drop n e.initial; goal = e.goal; lengths = e.lengths })
      unfolding body_at goals_behind lengths_behind
      now_missing_way few = reads (simp (no, nows_counted)) nows_written (simp no) (simp no)
        where
          no : nows_there bytes at n ≡ false
          no = ne_eqb (length (nows bytes at n)) n (λ f. omega (arith, nows_counted))

      module _ (full : n ≤ a) {b : ℕ} {goal' : List ℕ} (goal_room : n ≤ length e.goal) (s : Reader) (behind : Begins s bytes (goals_at at n))
          (second : ReadEntries Gl s.bytes.now s.at (take n e.goal) b goal') where
        nows_there_lem : nows_there bytes at n ≡ true
        nows_there_lem = eq-eqb (length (nows bytes at n)) n (omega (arith, nows_counted, nows_le bytes at n))

        goals_counted : b ≡ length (goals bytes at n)
        goals_counted = counted Gl behind e.goal goal_room second

        goals_written : goal' ++ drop n e.goal ≡ overwrite (goals bytes at n) e.goal
        goals_written = written Gl behind e.goal goal_room second

        -- a GL record that is not there
        pub goal_missing_way : b < n
            → ReadsSheet bytes at e (Err (Broken h.method (1 + n + b)))
            (record { initial = initial' ++ drop n e.initial; goal = goal' ++ drop n e.goal; lengths = e.lengths })
        unfolding body_at goals_behind lengths_behind
        goal_missing_way few = reads (simp (nows_there_lem, no, goals_counted)) nows_written (simp nows_there_lem goals_written) (simp (nows_there_lem, no))
          where
            no : goals_there bytes at n ≡ false
            no = ne_eqb (length (goals bytes at n)) n (λ f. omega (arith, goals_counted))

        module _ (whole : n ≤ b) {c d : ℕ} (asked : c ≡ length_count h.measured n) {lengths' : List ℕ} (lengths_room : c ≤ length e.lengths) (u : Reader)
            (last : Begins u bytes (lengths_at at n)) (third : ReadEntries Ln u.bytes.now u.at (take c e.lengths) d lengths') where
          goals_there_lem : goals_there bytes at n ≡ true
          goals_there_lem = eq-eqb (length (goals bytes at n)) n (omega (arith, goals_counted, goals_le bytes at n))

          lengths_counted : d ≡ length (lengths bytes at n c)
          lengths_counted = counted Ln last e.lengths lengths_room third

          -- as the head asks for
          pub behind_way : {r : Sheet} → r ≡ behind_goals h.measured n c h.method bytes at
              → ReadsSheet bytes at e r
              (record { initial = initial' ++ drop n e.initial; goal = goal' ++ drop n e.goal; lengths = lengths' ++ drop c e.lengths })
          unfolding body_at goals_behind lengths_behind
          behind_way f =
              reads
              (simp (nows_there_lem, goals_there_lem) (f ∙ ap (λ i. behind_goals h.measured n i h.method bytes at) asked))
              nows_written
              (simp nows_there_lem goals_written)
              (simp (nows_there_lem, goals_there_lem) (written Ln last e.lengths lengths_room third ∙ ap (λ i. overwrite (lengths bytes at n i) e.lengths) asked))

          -- a LN record that is not there
          pub length_missing_way : d < c
              → ReadsSheet bytes at e (Err (Broken h.method (1 + n + n + d)))
              (record { initial = initial' ++ drop n e.initial; goal = goal' ++ drop n e.goal; lengths = lengths' ++ drop c e.lengths })
          length_missing_way few =
              let no = ne_eqb (length (lengths bytes at n c)) c (λ f. omega (arith, lengths_counted)) in behind_way (simp (no, lengths_counted))

          -- every record is there
          pub whole_way : {f : ℕ} → c ≤ d → f ≡ end_at at n c
              → ReadsSheet bytes at e (whole_sheet n h.method h.measured f)
              (record { initial = initial' ++ drop n e.initial; goal = goal' ++ drop n e.goal; lengths = lengths' ++ drop c e.lengths })
          whole_way few f =
              let all = eq-eqb (length (lengths bytes at n c)) c (omega (arith, lengths_counted, lengths_le bytes at n c)) in behind_way (simp (all, f))
