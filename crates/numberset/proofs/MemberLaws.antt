-- Laws of the set: what clearing, assigning and searching the words come to. Assumes nothing.
use mathlib.Core.Path.{◌≡◌, sym, ap, ap₂, ◌∙◌}
use mathlib.Core.Logic.{◌⊎◌, inl, inr}
use mathlib.Core.Bool.{Bool, true, false, not, cond, true≢false}
use mathlib.Core.List.{List}
use Prim.Native.Nat.{ℕ, ◌+◌, ◌*◌, ◌/◌, ◌%◌, ◌^◌, ◌<◌}
use native.Mathlib.Omega.{arith}
use borrow.Author.Tests.{eqb-true, eqb-false, eq-eqb, ne_eqb, not-true, not-false}
use lib.Dec.{eqb}
use lib.ListN.{get_or, set, replicate, length-set, get_or-eq_default}
use lib.Seq.{get_or-set_same, get_or-set_other}
use lib.Count.{count_trailing_zeros}
use Rattle.std.proofs.lemmas.List.{length-replicate, get_or-replicate}
use Rattle.std.specs.Prelude.{Some, None}
use Rattle.lists.specs.Search.{lowest, nonzero}
use Rattle.lists.proofs.SearchLaws.{lowest_is, lowest_zero}
use Rattle.lists.proofs.NonzeroLaws.{nonzero_none, nonzero_some}
use Rattle.lists.proofs.ReflectLaws.{same?, decided, eqb_reflects, ltb_reflects, reflects_same}
use Rattle.numberset.specs.Members.{bit, member, Valid, Empty, Assigned, limit, highest, word_count}
use Rattle.numberset.proofs.DigitLaws.{bit_zero, Low, trailing_low}

-- a number whose word is 0 is no member
absent : (l : List ℕ) (x : ℕ) → get_or l (x / 64) 0 ≡ 0 → member l x ≡ false
unfolding member
absent l x e = ap (λ w. bit w (x % 64)) e ∙ bit_zero (x % 64)

-- ---- words that are all 0

-- the words of a set with nothing in it
abbrev pub blank : List ℕ
blank = replicate word_count 0

blank_at : (k : ℕ) → get_or blank k 0 ≡ 0
blank_at k = go (decided (ltb_reflects k word_count))
  where
    go : (k < word_count) ⊎ (¬ (k < word_count)) → get_or blank k 0 ≡ 0
    go (inl a) = get_or-replicate word_count k 0 0 a
    go (inr n) = get_or-eq_default blank 0 {n = k} (omega (arith, length-replicate {A = ℕ} word_count 0))

pub blank_valid : Valid blank
blank_valid = record {
  size = length-replicate {A = ℕ} word_count 0;
  words = λ k. omega (arith, blank_at k);
  summary = λ k a. ap (λ w. bit w k) (blank_at 64) ∙ bit_zero k ∙ sym (ap not (eq-eqb (get_or blank k 0) 0 (blank_at k)));
}

pub blank_empty : Empty blank
blank_empty = record { none = λ x. absent blank x (blank_at (x / 64)) }

-- ---- assigning

-- the set after word i and then the last one were written
abbrev written : List ℕ → ℕ → ℕ → ℕ → List ℕ
written l i word last = set (set l i word) 64 last

module _ (l : List ℕ) (i word last : ℕ) (v : Valid l) (h : i < 64) where
  at_last : get_or (written l i word last) 64 0 ≡ last
  at_last = get_or-set_same (set l i word) 64 last 0 (simp length-set (omega arith))

  at_here : get_or (written l i word last) i 0 ≡ word
  at_here = get_or-set_other (set l i word) 64 i last 0 (omega arith) ∙ get_or-set_same l i word 0 (omega arith)

  elsewhere : (k : ℕ) → ¬ (k ≡ i) → ¬ (k ≡ 64) → get_or (written l i word last) k 0 ≡ get_or l k 0
  elsewhere k n m = get_or-set_other (set l i word) 64 k last 0 m ∙ get_or-set_other l i k word 0 n

  still_valid : word < 2 ^ 64 → last < 2 ^ 64 → ((j : ℕ) → bit last j ≡ cond (eqb j i) (not (eqb word 0)) (bit (get_or l 64 0) j))
      → Valid (written l i word last)
  still_valid fits fits' said = record {
    size = length-set (set l i word) 64 last ∙ length-set l i word ∙ v.size;
    words = λ k. small k (same? k i) (same? k 64);
    summary = λ k a. ap (λ w. bit w k) at_last ∙ said k ∙ sums k a (same? k i);
  }
    where
      small : (k : ℕ) → (k ≡ i) ⊎ (¬ (k ≡ i)) → (k ≡ 64) ⊎ (¬ (k ≡ 64)) → get_or (written l i word last) k 0 < 2 ^ 64
      small k (inl e) d = rw (e, at_here) fits
      small k (inr n) (inl e) = rw (e, at_last) fits'
      small k (inr n) (inr m) = rw (elsewhere k n m) (v.words k)

      sums : (k : ℕ) → k < 64 → (k ≡ i) ⊎ (¬ (k ≡ i))
          → cond (eqb k i) (not (eqb word 0)) (bit (get_or l 64 0) k) ≡ not (eqb (get_or (written l i word last) k 0) 0)
      sums k a (inl e) = rw (eq-eqb k i e) (ap (λ w. not (eqb w 0)) (sym (ap (λ j. get_or (written l i word last) j 0) e ∙ at_here)))
      sums k a (inr n) = rw (ne_eqb k i n) (v.summary k a ∙ ap (λ w. not (eqb w 0)) (sym (elsewhere k n (omega arith))))

-- the word of x with its bit assigned, and the summary with that word's bit
module _ (l : List ℕ) (x : ℕ) (on : Bool) (word last : ℕ) (v : Valid l) (h : x < limit) where
  low : x / 64 < 64
  low = omega arith

  unread : get_or (set l (x / 64) word) 64 0 ≡ get_or l 64 0
  unread = get_or-set_other l (x / 64) 64 word 0 (omega (arith, low))

  pub assigned_valid : word < 2 ^ 64 → last < 2 ^ 64
      → ((j : ℕ) → bit last j ≡ cond (eqb j (x / 64)) (not (eqb word 0)) (bit (get_or (set l (x / 64) word) 64 0) j))
      → Valid (written l (x / 64) word last)
  assigned_valid fits fits' said = still_valid l (x / 64) word last v low fits fits' (λ j. said j ∙ ap (λ w. cond (eqb j (x / 64)) (not (eqb word 0)) (bit w j)) unread)

  pub assigned : ((j : ℕ) → bit word j ≡ cond (eqb j (x % 64)) on (bit (get_or l (x / 64) 0) j)) → Assigned l x on (written l (x / 64) word last)
  unfolding member
  assigned put = record { members = λ y a. go y a (same? (y / 64) (x / 64)) }
    where
      go : (y : ℕ) → y < limit → (y / 64 ≡ x / 64) ⊎ (¬ (y / 64 ≡ x / 64)) → member (written l (x / 64) word last) y ≡ cond (eqb y x) on (member l y)
      go y a (inl e) =
          let same : eqb (y % 64) (x % 64) ≡ eqb y x =
          reflects_same (λ d. omega arith) (λ d. omega arith) (eqb_reflects (y % 64) (x % 64)) (eqb_reflects y x) in
          ap (λ w. bit w (y % 64)) (ap (λ k. get_or (written l (x / 64) word last) k 0) e ∙ at_here l (x / 64) word last v low) ∙ put (y % 64)
          ∙ ap₂ (λ t w. cond t on (bit w (y % 64))) same (ap (λ k. get_or l k 0) (sym e))
      go y a (inr n) =
          ap (λ w. bit w (y % 64)) (elsewhere l (x / 64) word last v low (y / 64) n (omega arith))
          ∙ ap (λ t. cond t on (member l y)) (sym (ne_eqb y x (λ e. n (ap (λ z. z / 64) e))))

-- ---- the lowest member

-- a word of which the summary says so is 0
word_zero : (l : List ℕ) (i : ℕ) → Valid l → i < 64 → bit (get_or l 64 0) i ≡ false → get_or l i 0 ≡ 0
word_zero l i v h e = eqb-true (get_or l i 0) 0 (not-false (eqb (get_or l i 0) 0) (sym (v.summary i h) ∙ e))

-- where the summary is 0 there is no member
pub lowest_nothing : (l : List ℕ) → Valid l → get_or l 64 0 ≡ 0 → None ≡ nonzero (lowest (member l) highest)
lowest_nothing l v e =
    nonzero_none (lowest_zero (member l) highest (λ x a b. absent l x (word_zero l (x / 64) v (omega arith) (ap (λ w. bit w (x / 64)) e ∙ bit_zero (x / 64)))))

-- where word i is the first that is not 0, and t its lowest bit that is set
module _ (l : List ℕ) (i t : ℕ) (v : Valid l) (first : Low 64 (get_or l 64 0) i) (low : Low 64 (get_or l i 0) t) where
  there : member l (64 * i + t) ≡ true
  unfolding member
  there =
      let word : (64 * i + t) / 64 ≡ i = omega arith in
      let place : (64 * i + t) % 64 ≡ t = omega arith in
      ap₂ (λ k j. bit (get_or l k 0) j) word place ∙ low.here

  none_before : (y : ℕ) → y < 64 * i + t → member l y ≡ false
  unfolding member
  none_before y a = go (same? (y / 64) i)
    where
      go : (y / 64 ≡ i) ⊎ (¬ (y / 64 ≡ i)) → member l y ≡ false
      go (inl e) = ap (λ k. bit (get_or l k 0) (y % 64)) e ∙ low.below (y % 64) (omega arith)
      go (inr n) =
          let before : y / 64 < i = omega arith in
          absent l y (word_zero l (y / 64) v (omega arith) (first.below (y / 64) before))

  found : member l 0 ≡ false → Some (64 * i + t) ≡ nonzero (lowest (member l) highest)
  found out =
      let some : ¬ (64 * i + t ≡ 0) = λ e. true≢false (sym there ∙ ap (member l) e ∙ out) in
      nonzero_some (64 * i + t) some ∙ ap nonzero (sym (lowest_is (member l) highest (64 * i + t) (omega arith) (omega arith) there (λ y a b. none_before y b)))

-- so the zeros below the summary's first bit, and below that word's, are counted
pub lowest_found : (l : List ℕ) → Valid l → member l 0 ≡ false → ¬ (get_or l 64 0 ≡ 0)
    → Some (64 * count_trailing_zeros 64 (get_or l 64 0) + count_trailing_zeros 64 (get_or l (count_trailing_zeros 64 (get_or l 64 0)) 0))
    ≡ nonzero (lowest (member l) highest)
lowest_found l v out some = found l i (count_trailing_zeros 64 (get_or l i 0)) v first (trailing_low 64 (get_or l i 0) (omega (arith, full)) (v.words i)) out
  where
    i : ℕ
    i = count_trailing_zeros 64 (get_or l 64 0)

    first : Low 64 (get_or l 64 0) i
    first = trailing_low 64 (get_or l 64 0) (omega arith) (v.words 64)

    full : ¬ (get_or l i 0 ≡ 0)
    full = eqb-false (get_or l i 0) 0 (not-true (eqb (get_or l i 0) 0) (sym (v.summary i first.inside) ∙ first.here))
