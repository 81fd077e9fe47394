-- The sums and the ways out of `decided_by` and of `wanted`. Assumes nothing.
use Prim.Native.Nat.{ℕ, ◌+◌, ◌-◌, ◌*◌, ◌^◌, ◌≤◌, ◌<◌}
use mathlib.Core.Path.{◌≡◌, refl, sym, ◌∙◌, ap}
use mathlib.Core.Bool.{Bool, true, false, not}
use mathlib.Core.List.{List}
use Rattle.std.specs.Prelude.{Some, None, Result, Ok, Err, is_err}
use native.Mathlib.Omega.{arith}
use borrow.Author.Tests.{lt-ltb, le-ltb}
use lib.Dec.{ltb}
use lib.ListN.{length}
use Rattle.blocks.specs.Method.{method_of}
use Rattle.blocks.specs.Question.{is_method}
use Rattle.refusals.specs.declared.Refusal.{Refusal}
use Rattle.planner.specs.Answers.{named_as, Names}
use Rattle.planner.specs.declared.Method.{Method}
use Rattle.records.specs.Marks.{size}
use Rattle.records.specs.declared.Kind.TheVariants.{Hd, Nw}
use Rattle.sheets.specs.declared.Head.{Head}
use Rattle.sheets.specs.declared.Whole.{Whole}
use Rattle.sheets.specs.declared.Entries.{Entries}
use Rattle.sheets.specs.Sheets.{head_at, length_count, end_at, sheet_at}
use Rattle.sheets.specs.Reads.{ReadsSheet}
use Rattle.sheets.proofs.PlaceLaws.{size_hd, size_nw, length_count_le, end_at_lem}
use Rattle.sheets.proofs.SheetLaws as read
use Rattle.responder.specs.Wanted.{decided_by, wanted_by, wanted}

-- ---- a whole sheet that was read

pub whole_fits : {bytes : List ℕ} {entries entries' : Entries} {s : Whole} → ReadsSheet bytes 0 entries (Ok s) entries' → s.end + 1 < 2 ^ 64
whole_fits {s = s} w =
    let i = read.whole w refl in
    omega (arith, i.end, i.small, length_count_le s.measured s.n, end_at_lem 0 s.n (length_count s.measured s.n))

-- ---- what is wanted

module _ (bytes : List ℕ) where
  pub headless_way : {h r : ℕ} → None ≡ head_at bytes 0 → h ≡ size Hd → r ≡ h - length bytes → r ≡ wanted bytes
  unfolding wanted
  headless_way is f g = g ∙ ap (λ i. i - length bytes) f ∙ ap (λ h. wanted_by h bytes) is

  module _ {head : Head} (is : Some head ≡ head_at bytes 0) where
    behind : wanted_by (Some head) bytes ≡ wanted bytes
    unfolding wanted
    behind = ap (λ h. wanted_by h bytes) is

    pub decided_way : {d : ℕ} → d ≡ decided_by (sheet_at bytes 0) → d ≤ length bytes → 0 ≡ wanted bytes
    decided_way {d} decides l = by (is_method (method_of head.method)) refl
      where
        reached : ltb (length bytes) (decided_by (sheet_at bytes 0)) ≡ false
        reached = le-ltb (length bytes) (decided_by (sheet_at bytes 0)) (omega (arith, decides))

        by : (b : Bool) → is_method (method_of head.method) ≡ b → 0 ≡ wanted bytes
        by true e = sym (simp (e, reached)) ∙ behind
        by false e = sym (simp e) ∙ behind

    module _ {called : Result Method Refusal} (named : Names head.method called) where
      is_named : {b : Bool} → is_err called ≡ b → is_method (method_of head.method) ≡ not b
      is_named {b} f = ap is_method (sym named.method) ∙ by called ∙ ap not f
        where
          by : (x : Result Method Refusal) → is_method (named_as x) ≡ not (is_err x)
          by (Ok y) = refl
          by (Err y) = refl

      pub unknown_way : is_err called ≡ true → 0 ≡ wanted bytes
      unknown_way f = sym (simp (is_named f)) ∙ behind

      pub wanting_way : is_err called ≡ false → {d : ℕ} → d ≡ decided_by (sheet_at bytes 0) → length bytes < d → {n k h s r : ℕ} → n ≡ head.n
          → k ≡ length_count head.measured n → h ≡ size Hd → s ≡ size Nw → r ≡ h + (2 * n + k) * s + 1 - length bytes → r ≡ wanted bytes
      wanting_way f decides l {n} {k} {h} {s} wide count hd nw g =
          let asked : k ≡ length_count head.measured head.n = count ∙ ap (length_count head.measured) wide in
          let less : ltb (length bytes) (decided_by (sheet_at bytes 0)) ≡ true = lt-ltb (length bytes) (decided_by (sheet_at bytes 0)) (omega (arith, decides)) in
          let records : (2 * n + k) * s ≡ 4 * (2 * n + k) = rw (nw ∙ size_nw) (omega arith) in
          let rest : end_at 0 head.n (length_count head.measured head.n) + 1 - length bytes ≡ h + (2 * n + k) * s + 1 - length bytes =
          omega (arith, asked, wide, hd, size_hd, records, end_at_lem 0 head.n (length_count head.measured head.n)) in
          g ∙ sym rest ∙ sym (simp (is_named f, less)) ∙ behind
