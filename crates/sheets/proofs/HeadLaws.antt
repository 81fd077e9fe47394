-- The head by the records HD and HL; the sheet at a place and the entries that are read, by the head. Assumes nothing.
use Prim.Native.Nat.{ℕ, ◌≤◌, ◌<◌}
use mathlib.Core.Path.{◌≡◌, refl, sym, ◌∙◌, subst}
use mathlib.Core.Bool.{Bool, true, false}
use mathlib.Core.List.{List, []}
use Rattle.std.specs.Prelude.{Option, Some, None, Err}
use Rattle.std.proofs.lemmas.Option.{same_Some}
use native.Mathlib.Omega.{arith}
use borrow.Author.Tests.{le-leb, lt-leb}
use lib.ListN.{length}
use Rattle.blocks.specs.State.{most}
use Rattle.records.specs.Marks.{marks, mark_of}
use Rattle.records.specs.Records.{found, record_at}
use Rattle.records.specs.declared.Kind.TheVariants.{Hd, Hl}
use Rattle.records.specs.declared.Fields.{Fields}
use Rattle.records.proofs.ReadLaws.{found_has, found_room, has_low}
use Rattle.sheets.specs.declared.Head.{Head}
use Rattle.sheets.specs.declared.Unread.TheVariants.{Headless, Long}
use Rattle.sheets.specs.Sheets.{head_kind, there, head_by, head_at, length_count, nows_at, nows, body_at, sheet_at, nows_read, goals_behind, goals_read}
use Rattle.sheets.specs.Sheets.{lengths_behind, lengths_read}
use Rattle.sheets.proofs.PlaceLaws.{size_hl}

-- ---- the head

module _ (bytes : List ℕ) (at : ℕ) where
  -- no mark is both HD and HL
  one_mark : {f g : Fields} → record_at Hd bytes at ≡ Some f → record_at Hl bytes at ≡ Some g → ⊥
  unfolding mark_of marks
  one_mark e f =
      let low : ◌≡◌ {A = ℕ} 68 76 = sym (has_low Hd bytes at (found_has Hd bytes at e)) ∙ has_low Hl bytes at (found_has Hl bytes at f) in
      omega (arith, low)

  -- a head that is there is the record of its mark
  pub head_record : {h : Head} → head_at bytes at ≡ Some h → record_at (head_kind h.measured) bytes at ≡ found h.n h.method
  unfolding head_at
  head_record {h} x = by (record_at Hd bytes at) (record_at Hl bytes at) refl refl x
    where
      by : (f g : Option Fields) → record_at Hd bytes at ≡ f → record_at Hl bytes at ≡ g → head_by f g ≡ Some h
          → record_at (head_kind h.measured) bytes at ≡ found h.n h.method
      by (Some f) g e i x = subst (λ (k : Head). record_at (head_kind k.measured) bytes at ≡ found k.n k.method) (same_Some _ _ x) e
      by None (Some f) e i x = subst (λ (k : Head). record_at (head_kind k.measured) bytes at ≡ found k.n k.method) (same_Some _ _ x) i
      by None None e i x = cc

  pub record_head : (t : Bool) {f : Fields} → record_at (head_kind t) bytes at ≡ Some f → head_at bytes at ≡ there t f.first f.second
  unfolding head_at
  record_head false e = simp e
  record_head true {f} i = by (record_at Hd bytes at) refl
    where
      by : (g : Option Fields) → record_at Hd bytes at ≡ g → head_at bytes at ≡ there true f.first f.second
      by (Some g) e = absurd (one_mark e i)
      by None e = simp (e, i)

  -- it is not there where neither is
  pub no_record : head_at bytes at ≡ None → (t : Bool) → record_at (head_kind t) bytes at ≡ None
  no_record x t = by (record_at (head_kind t) bytes at) refl
    where
      by : (o : Option Fields) → record_at (head_kind t) bytes at ≡ o → record_at (head_kind t) bytes at ≡ None
      by (Some f) e = let y = record_head t e in cc
      by None e = e

  pub no_head : record_at Hd bytes at ≡ None → record_at Hl bytes at ≡ None → head_at bytes at ≡ None
  unfolding head_at
  no_head e h = simp (e, h)

  -- all its bytes are there
  pub head_room : {h : Head} → head_at bytes at ≡ Some h → nows_at at ≤ length bytes
  head_room {h} e = by h.measured (head_record e)
    where
      by : (t : Bool) {f : Fields} → record_at (head_kind t) bytes at ≡ Some f → nows_at at ≤ length bytes
      by true i = omega (arith, found_room Hl bytes at i, size_hl)
      by false i = found_room Hd bytes at i

-- ---- the head is not there

module _ (bytes : List ℕ) (at : ℕ) (e : head_at bytes at ≡ None) where
  pub headless_sheet : sheet_at bytes at ≡ Err Headless
  unfolding sheet_at
  headless_sheet = simp e

  pub headless_nows : nows_read bytes at ≡ []
  unfolding nows_read
  headless_nows = simp e

  pub headless_goals : goals_read bytes at ≡ []
  unfolding goals_read
  headless_goals = simp e

  pub headless_lengths : lengths_read bytes at ≡ []
  unfolding lengths_read
  headless_lengths = simp e

module _ (bytes : List ℕ) (at : ℕ) {h : Head} (e : head_at bytes at ≡ Some h) where
  -- ---- it says more blocks than the limit

  module _ (l : most < h.n) where
    pub long_sheet : sheet_at bytes at ≡ Err (Long h.method)
    unfolding sheet_at
    long_sheet = simp (e, lt-leb h.n most l)

    pub long_nows : nows_read bytes at ≡ []
    unfolding nows_read
    long_nows = simp (e, lt-leb h.n most l)

    pub long_goals : goals_read bytes at ≡ []
    unfolding goals_read
    long_goals = simp (e, lt-leb h.n most l)

    pub long_lengths : lengths_read bytes at ≡ []
    unfolding lengths_read
    long_lengths = simp (e, lt-leb h.n most l)

  -- ---- it says a number within the limit

  module _ (l : h.n ≤ most) where
    pub small_sheet : sheet_at bytes at ≡ body_at h.measured h.n h.method bytes at
    unfolding sheet_at
    small_sheet = simp (e, le-leb h.n most l)

    pub small_nows : nows_read bytes at ≡ nows bytes at h.n
    unfolding nows_read
    small_nows = simp (e, le-leb h.n most l)

    pub small_goals : goals_read bytes at ≡ goals_behind h.n bytes at
    unfolding goals_read
    small_goals = simp (e, le-leb h.n most l)

    pub small_lengths : lengths_read bytes at ≡ lengths_behind h.n (length_count h.measured h.n) bytes at
    unfolding lengths_read
    small_lengths = simp (e, le-leb h.n most l)
