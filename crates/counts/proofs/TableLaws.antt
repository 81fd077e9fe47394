-- The table of counts: the rule is tested once over all entries, by one computation, and carried to each. Assumes nothing.
use mathlib.Core.Path.{◌≡◌, refl, ap, ◌∙◌}
use mathlib.Core.Logic.{◌⊎◌, inl, inr}
use mathlib.Core.Bool.{Bool, true, ◌&&◌, and-eq-true_iff}
use mathlib.Core.List.{List}
use Prim.Native.Nat.{ℕ, zero, suc, ◌+◌, ◌-◌, ◌*◌, ◌≤◌, ◌<◌}
use native.Mathlib.Omega.{arith}
use lib.Dec.{eqb, leb, ltb}
use lib.ListN.{length}
use Rattle.lists.specs.Search.{count}
use Rattle.lists.proofs.ReflectLaws.{from_true, eqb_reflects, leb_reflects, ltb_reflects, same?}
use Rattle.counts.specs.Ways.{ways, held}
use Rattle.counts.specs.Table.{place, entry, EvenAt, EvenCounts}
use Rattle.counts.proofs.WaysLaws.{ways_step}

-- ---- a test over all pairs

-- the test passes at each number below n
abbrev below : (ℕ → Bool) → ℕ → Bool
below P zero = true
below P (suc n) = P n && below P n

below_at : (P : ℕ → Bool) (n : ℕ) → below P n ≡ true → (i : ℕ) → i < n → P i ≡ true
below_at P zero e i h = absurd (omega arith)
below_at P (suc n) e i h = by (same? i n) (below_at P n ((and-eq-true_iff (P n) (below P n)).0 e).1 i)
  where
    by : (i ≡ n) ⊎ (¬ (i ≡ n)) → (i < n → P i ≡ true) → P i ≡ true
    by (inl k) rest = ap P k ∙ ((and-eq-true_iff (P n) (below P n)).0 e).0
    by (inr k) rest = rest (omega (arith, k))

-- the test passes wherever 2 * j + k is at most 16
abbrev pub triangle : (ℕ → ℕ → Bool) → Bool
triangle P = below (λ j. below (P j) (17 - 2 * j)) 9

pub triangle_at : (P : ℕ → ℕ → Bool) → triangle P ≡ true → (j k : ℕ) → 2 * j + k ≤ held → P j k ≡ true
triangle_at P e j k h = below_at (P j) (17 - 2 * j) (below_at (λ i. below (P i) (17 - 2 * i)) 9 e j (omega arith)) k (omega arith)

-- ---- places

pub place_below : (j k : ℕ) → 2 * j + k ≤ held → place j k < 81
place_below j k h = from_true (ltb_reflects (place j k) 81) (triangle_at (λ i m. ltb (place i m) 81) refl j k h)

-- the row of a place: of the rows 1 to 8 as many begin there or before
abbrev row : ℕ → ℕ
row i = count (λ j. leb (place j 0) i) 8

abbrev column : ℕ → ℕ
column i = i - place (row i) 0

even_at : (i : ℕ) → i < 81 → EvenAt i
unfolding count
even_at i h =
    record {
      j = row i;
      k = column i;
      within = from_true (leb_reflects (2 * row i + column i) held) (at_all (λ i. leb (2 * row i + column i) held) refl);
      there = from_true (eqb_reflects (place (row i) (column i)) i) (at_all (λ i. eqb (place (row i) (column i)) i) refl);
    }
  where
    at_all : (P : ℕ → Bool) → below P 81 ≡ true → P i ≡ true
    at_all P e = below_at P 81 e i h

-- ---- the rule

module _ (table : List ℕ) where
  -- the counts between two rows: one step of the rule
  abbrev between : ℕ → ℕ → ℕ
  between j k = entry table j (k + 1) + (2 * j + k) * entry table j k

  -- "1 when n is 0, and for n + 1 it is the count for (n, k + 1) plus (n + k) times the count for (n, k)", of the entries:
  -- two steps from each row to the next
  abbrev pub obeys : ℕ → ℕ → Bool
  obeys zero k = eqb (entry table zero k) 1
  obeys (suc j) k = eqb (entry table (suc j) k) (between j (k + 1) + (suc (2 * j) + k) * between j k)

  each : triangle obeys ≡ true → (j k : ℕ) → 2 * j + k ≤ held → entry table j k ≡ ways (2 * j) k
  unfolding ways
  each e zero k h = from_true (eqb_reflects (entry table zero k) 1) (triangle_at obeys e zero k h)
  each e (suc j) k h =
      from_true
      (eqb_reflects (entry table (suc j) k) (between j (k + 1) + (suc (2 * j) + k) * between j k))
      (triangle_at obeys e (suc j) k h)
      ∙ ways_step (suc (2 * j)) k (odd (each e j) (k + 1) (omega arith)) (odd (each e j) k (omega arith))
      ∙ ap (λ n. ways n k) (let i : suc (suc (2 * j)) ≡ 2 * suc j = omega arith in i)
    where
      odd : ((i : ℕ) → 2 * j + i ≤ held → entry table j i ≡ ways (2 * j) i) → (i : ℕ) → suc (2 * j) + i ≤ held → between j i ≡ ways (suc (2 * j)) i
      odd known i b = ways_step (2 * j) i (known (i + 1) (omega arith)) (known i (omega arith))

  pub carried : length table ≡ 81 → triangle obeys ≡ true → EvenCounts table
  carried l e = record { each = each e; only = λ i h. even_at i (omega (arith, l)) }
