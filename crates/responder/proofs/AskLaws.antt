-- The ways out of `ask`. Assumes nothing.
use Prim.Native.Nat.{ℕ, ◌+◌, ◌*◌, ◌≤◌}
use mathlib.Core.Path.{◌≡◌, refl, sym, ◌∙◌, ap, subst}
use mathlib.Core.Logic.{◌≢◌}
use mathlib.Core.Bool.{Bool, true, false}
use mathlib.Core.List.{List}
use Rattle.std.specs.Prelude.{Option, Result, Ok, Err}
use Rattle.std.specs.Bool.{then_some}
use Rattle.std.specs.Borrow.{Bor}
use Rattle.std.specs.Result.{MatchResult, IsErrAnd}
use lib.ListN.{length, take}
use Rattle.blocks.specs.State.{most}
use Rattle.blocks.specs.Length.{given}
use Rattle.blocks.specs.Sheet.{measured_by, office}
use Rattle.lengths.specs.Checks.{given_in}
use Rattle.sheets.specs.declared.Whole.{Whole}
use Rattle.sheets.specs.declared.Entries.{Entries}
use Rattle.sheets.specs.Sheets.{Sheet, length_count}
use Rattle.sheets.specs.Reads.{ReadsSheet}
use Rattle.sheets.proofs.SheetLaws as read
use Rattle.refusals.specs.declared.Refusal.{Refusal}
use Rattle.planner.specs.Answers.{Answer, Plans}
use Rattle.responder.specs.Answers.{no_record, refused_as, refusal_of, Answered}
use Rattle.responder.proofs.AnsweredLaws.{unread_answered, tail_answered, plan_answered}

-- ---- what was read, and what was made of it by `refusal_of`

abbrev MadeOf : Sheet → Result Whole Refusal → Type 0
MadeOf sheet r = MatchResult sheet (λ x. r ≡ Ok x) (λ u. IsErrAnd r (λ q. q ≡ refusal_of u))

module _ {bytes : List ℕ} {entries entries' : Entries} {sheet : Sheet} (w : ReadsSheet bytes 0 entries sheet entries') where
  pub whole_read : {s : Whole} → MadeOf sheet (Ok s) → ReadsSheet bytes 0 entries (Ok s) entries'
  whole_read {s} m = subst (λ t. ReadsSheet bytes 0 entries t entries') (by sheet m) w
    where
      by : (t : Sheet) → MadeOf t (Ok s) → t ≡ Ok s
      by (Ok x) e = let same : s ≡ x = cc in ap Ok (sym same)
      by (Err u) e = absurd e

  pub whole_small : (s : Whole) → MadeOf sheet (Ok s) → s.n ≤ most
  whole_small s m = read.whole_small (whole_read m) refl

  pub unread_way : {q : Refusal} → MadeOf sheet (Err q) → (space : List ℕ) → Answered bytes (Err q) space
  unread_way {q} m space = by sheet w m
    where
      by : (t : Sheet) → ReadsSheet bytes 0 entries t entries' → MadeOf t (Err q) → Answered bytes (Err q) space
      by (Ok x) v e = absurd cc
      by (Err u) v e = subst (λ r. Answered bytes (Err r) space) (sym e) (unread_answered v space)

-- ---- of a whole sheet

module _ {bytes : List ℕ} {entries entries' : Entries} {s : Whole} (w : ReadsSheet bytes 0 entries (Ok s) entries') {k : ℕ} (count : k ≡ length_count s.measured s.n) where
  pub tail_way : length bytes ≢ s.end → {t q : Refusal} → t ≡ no_record (2 * s.n + k + 1) → q ≡ refused_as s.method t → (space : List ℕ) → Answered bytes (Err q) space
  tail_way ne {t} {q} e f space =
      subst (λ r. Answered bytes (Err r) space)
      (sym (f ∙ ap (refused_as s.method) (e ∙ ap (λ i. no_record (2 * s.n + i + 1)) count)))
      (tail_answered w space ne)

  -- the lengths that are lent are given
  given_lem : (t : Bool) (l : Bor (List ℕ)) → given_in (then_some t l) ≡ given t l.now
  given_lem true l = refl
  given_lem false l = refl

  pub plan_way : {space : List ℕ} {r : Answer} {space' : List ℕ} {lengths : Option (Bor (List ℕ))} (l : Bor (List ℕ)) → length bytes ≡ s.end → 4 * most ≤ length space
      → lengths ≡ then_some s.measured l → l.now ≡ take k entries'.lengths
      → Plans (office s.method) (measured_by (given_in lengths) (take s.n entries'.initial) (take s.n entries'.goal)) space r space'
      → Answered bytes r space'
  plan_way {space} {r} {space'} l exact room e f v =
      let lent = ap given_in e ∙ given_lem s.measured l ∙ ap (given s.measured) (f ∙ ap (λ i. take i entries'.lengths) count) in
      plan_answered w exact room (rw lent at v)
