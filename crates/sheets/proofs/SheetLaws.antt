-- What a sheet that was read says of the head, of the records behind it and of the lent lists, by its case. Assumes nothing.
use Prim.Native.Nat.{ℕ, ◌+◌, ◌≤◌}
use mathlib.Core.Path.{◌≡◌, refl, sym, ◌∙◌, ap, ap₂, subst}
use mathlib.Core.Logic.{inl, inr}
use mathlib.Core.Bool.{Bool, cond}
use mathlib.Core.List.{List, []}
use Rattle.std.specs.Prelude.{Option, Some, None, Ok, Err}
use native.Mathlib.Omega.{arith}
use borrow.Author.Tests.{eq-eqb}
use lib.ListN.{length, take}
use Rattle.blocks.specs.State.{most}
use Rattle.lists.specs.Lists.{overwrite}
use Rattle.lists.proofs.ReflectLaws.{Reflects, holds, fails, eqb_reflects, leb_reflects}
use Rattle.lists.proofs.WriteLaws.{overwrite_front}
use Rattle.records.proofs.EntryLaws.{length_entries}
use Rattle.sheets.specs.declared.Head.{Head}
use Rattle.sheets.specs.declared.Whole.{Whole}
use Rattle.sheets.specs.declared.Unread.TheVariants.{Headless, Long, Broken}
use Rattle.sheets.specs.declared.Entries.{Entries}
use Rattle.sheets.specs.Sheets.{there, head_at, length_count, nows, goals, lengths, end_at, Sheet, whole_sheet, body_at, sheet_by, sheet_at}
use Rattle.sheets.specs.Sheets.{nows_read, goals_behind, goals_read, lengths_behind, lengths_read}
use Rattle.sheets.specs.Reads.{ReadsSheet}
use Rattle.sheets.specs.Cases.{IsLong, RecordMissing, IsBroken, IsWhole, Says}
use Rattle.sheets.proofs.HeadLaws.{headless_nows, headless_goals, headless_lengths, long_nows, long_goals, long_lengths}
use Rattle.sheets.proofs.HeadLaws.{small_nows, small_goals, small_lengths}

module _ (bytes : List ℕ) (at : ℕ) where
  pub nows_le : (n : ℕ) → length (nows bytes at n) ≤ n
  nows_le n = length_entries _ bytes _ n

  pub goals_le : (n : ℕ) → length (goals bytes at n) ≤ n
  goals_le n = length_entries _ bytes _ n

  pub lengths_le : (n k : ℕ) → length (lengths bytes at n k) ≤ k
  lengths_le n k = length_entries _ bytes _ k

  -- ---- what each case says

  body_says : {t : Bool} {n m : ℕ} → head_at bytes at ≡ there t n m → n ≤ most → Says bytes at (body_at t n m bytes at)
  unfolding body_at
  body_says {t} {n} {m} head small =
      by (eqb_reflects (length (nows bytes at n)) n) (eqb_reflects (length (goals bytes at n)) n) (eqb_reflects (length (lengths bytes at n k)) k)
    where
      k : ℕ
      k = length_count t n

      broken : {p : ℕ} → RecordMissing bytes at n (length_count t n) p → IsBroken bytes at m p
      broken missing = record { measured = t; n = n; head = head; small = small; missing = missing }

      by :
          {a b c : Bool} → Reflects (length (nows bytes at n) ≡ n) a → Reflects (length (goals bytes at n) ≡ n) b
          → Reflects (length (lengths bytes at n (length_count t n)) ≡ length_count t n) c
          → Says bytes at
          (cond a
          (cond b
          (cond c (whole_sheet n m t (end_at at n (length_count t n))) (Err (Broken m (1 + n + n + length (lengths bytes at n (length_count t n))))))
          (Err (Broken m (1 + n + length (goals bytes at n)))))
          (Err (Broken m (1 + length (nows bytes at n)))))
      by (holds e) (holds f) (holds g) = record { head = head; small = small; nows_there_lem = e; goals_there_lem = f; lengths_there_lem = g; end = refl }
      by (holds e) (holds f) (fails g) =
          broken (inr (inr (record { nows_there_lem = e; goals_there_lem = f; few = omega (arith, g, lengths_le n (length_count t n)); place = refl })))
      by (holds e) (fails f) g = broken (inr (inl (record { nows_there_lem = e; few = omega (arith, f, goals_le n); place = refl })))
      by (fails e) f g = broken (inl (record { few = omega (arith, e, nows_le n); place = refl }))

  head_says : (o : Option Head) → head_at bytes at ≡ o → Says bytes at (sheet_by o bytes at)
  head_says None e = e
  head_says (Some h) e = by (leb_reflects h.n most)
    where
      by : {u : Bool} → Reflects (h.n ≤ most) u → Says bytes at (cond u (body_at h.measured h.n h.method bytes at) (Err (Long h.method)))
      by (holds l) = body_says e l
      by (fails l) = record { measured = h.measured; n = h.n; head = e; long = omega (arith, l) }

  pub sheet_says : Says bytes at (sheet_at bytes at)
  unfolding sheet_at
  sheet_says = head_says (head_at bytes at) refl

-- the front of a list that was written over by n numbers
front : (l space : List ℕ) {n : ℕ} {l' : List ℕ} → length l ≡ n → l' ≡ overwrite l space → take n l' ≡ l
front l space e f = ap₂ take (sym e) f ∙ overwrite_front l space

-- the goal entries are read where every NW record is there, and the lengths where every GL record is too
module _ {bytes : List ℕ} {at n m : ℕ} {t : Bool} {e : ℕ} (s : IsWhole bytes at n m t e) where
  goals_behind_lem : goals_behind n bytes at ≡ goals bytes at n
  unfolding goals_behind
  goals_behind_lem = simp (eq-eqb (length (nows bytes at n)) n s.nows_there_lem)

  lengths_behind_lem : lengths_behind n (length_count t n) bytes at ≡ lengths bytes at n (length_count t n)
  unfolding lengths_behind
  lengths_behind_lem = simp (eq-eqb (length (nows bytes at n)) n s.nows_there_lem, eq-eqb (length (goals bytes at n)) n s.goals_there_lem)

-- ---- what is known by the case of the answer

module _ {bytes : List ℕ} {at : ℕ} {lent : Entries} {r : Sheet} {lent' : Entries} (w : ReadsSheet bytes at lent r lent') where
  pub says : {s : Sheet} → r ≡ s → Says bytes at s
  says {s} e = subst (Says bytes at) (sym w.answer ∙ e) (sheet_says bytes at)

  pub headless : r ≡ Err Headless → head_at bytes at ≡ None
  headless e = says e

  pub long : {m : ℕ} → r ≡ Err (Long m) → IsLong bytes at m
  long e = says e

  pub broken : {m p : ℕ} → r ≡ Err (Broken m p) → IsBroken bytes at m p
  broken e = says e

  -- ---- the lent lists

  -- with nothing read the lists are as they were
  kept : nows_read bytes at ≡ [] → goals_read bytes at ≡ [] → lengths_read bytes at ≡ []
      → (lent'.initial ≡ lent.initial) × (lent'.goal ≡ lent.goal) × (lent'.lengths ≡ lent.lengths)
  kept e f g = (
    w.initial_after ∙ ap (λ l. overwrite l lent.initial) e,
    w.goal_after ∙ ap (λ l. overwrite l lent.goal) f,
    w.lengths_after ∙ ap (λ l. overwrite l lent.lengths) g,
  )

  -- A head that is not there, and one that says too many, leave them as they were.
  pub headless_kept : r ≡ Err Headless → (lent'.initial ≡ lent.initial) × (lent'.goal ≡ lent.goal) × (lent'.lengths ≡ lent.lengths)
  headless_kept e = let h = headless e in kept (headless_nows bytes at h) (headless_goals bytes at h) (headless_lengths bytes at h)

  pub long_kept : {m : ℕ} → r ≡ Err (Long m) → (lent'.initial ≡ lent.initial) × (lent'.goal ≡ lent.goal) × (lent'.lengths ≡ lent.lengths)
  long_kept e =
      let f = long e in
      kept (long_nows bytes at f.head f.long) (long_goals bytes at f.head f.long) (long_lengths bytes at f.head f.long)

  -- Every entry of a whole sheet stands in its list.
  module _ {s : Whole} (f : r ≡ Ok s) where
    abbrev k : ℕ
    k = length_count s.measured s.n

    pub whole : IsWhole bytes at s.n s.method s.measured s.end
    whole = says f

    pub whole_small : s.n ≤ most
    whole_small = whole.small

    pub whole_initial : take s.n lent'.initial ≡ nows bytes at s.n
    whole_initial =
        front (nows bytes at s.n) lent.initial whole.nows_there_lem
        (w.initial_after ∙ ap (λ l. overwrite l lent.initial) (small_nows bytes at whole.head whole_small))

    pub whole_goal : take s.n lent'.goal ≡ goals bytes at s.n
    whole_goal =
        let all : goals_read bytes at ≡ goals bytes at s.n = small_goals bytes at whole.head whole_small ∙ goals_behind_lem whole in
        front (goals bytes at s.n) lent.goal whole.goals_there_lem (w.goal_after ∙ ap (λ l. overwrite l lent.goal) all)

    pub whole_lengths : take k lent'.lengths ≡ lengths bytes at s.n k
    whole_lengths =
        let all : lengths_read bytes at ≡ lengths bytes at s.n k = small_lengths bytes at whole.head whole_small ∙ lengths_behind_lem whole in
        front (lengths bytes at s.n k) lent.lengths whole.lengths_there_lem (w.lengths_after ∙ ap (λ l. overwrite l lent.lengths) all)
