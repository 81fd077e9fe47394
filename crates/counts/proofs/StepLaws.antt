-- From the counts that the table holds to every count: where n is odd one step of the rule, which fits a word. Assumes nothing.
use mathlib.Core.Path.{◌≡◌, ap, ◌∙◌}
use mathlib.Core.Logic.{◌≢◌}
use mathlib.Core.List.{List}
use Prim.Native.Nat.{ℕ, suc, ◌+◌, ◌*◌, ◌/◌, ◌%◌, ◌^◌, ◌≤◌, ◌<◌}
use native.Mathlib.Omega.{arith}
use native.Mathlib.Nat.{mul-le-mul, pow-le-pow_right}
use lib.ListN.{get_or}
use Rattle.counts.specs.Ways.{ways, held}
use Rattle.counts.specs.Table.{place, EvenCounts}
use Rattle.counts.proofs.WaysLaws.{ways_step, ways_most}

module _ (n k : ℕ) where
  -- the even number at n or just below it
  abbrev even : ℕ
  even = 2 * (n / 2)

  -- where the entry for it and k stands
  abbrev at : ℕ
  at = place (n / 2) k

  module _ (h : n + k ≤ held) where
    pub others_most : even + k ≤ held
    others_most = omega arith

    module _ (table : List ℕ) (t : EvenCounts table) where
      here : get_or table at 0 ≡ ways even k
      here = t.each (n / 2) k (omega arith)

      pub even_count : n % 2 ≡ 0 → get_or table at 0 ≡ ways n k
      even_count e = here ∙ ap (λ m. ways m k) (let i : even ≡ n = omega arith in i)

      module _ (o : n % 2 ≢ 0) where
        next : get_or table (at + 1) 0 ≡ ways even (k + 1)
        next = ap (λ i. get_or table i 0) (let i : at + 1 ≡ place (n / 2) (k + 1) = omega arith in i) ∙ t.each (n / 2) (k + 1) (omega (arith, o))

        pub odd_count : get_or table (at + 1) 0 + (even + k) * get_or table at 0 ≡ ways n k
        odd_count = ways_step even k next here ∙ ap (λ m. ways m k) (let i : suc even ≡ n = omega (arith, o) in i)

        -- both entries are at most 16 ^ 14, so there is room for one and 16 times the other
        small : {x : ℕ} (i : ℕ) → x ≡ ways even i → even + i ≤ held → x ≤ held ^ 14
        small i e b = omega (arith, e, ways_most even i b, pow-le-pow_right {n = held} (omega arith) {i = even} {j = 14} (omega (arith, o)))

        module _ (m : ℕ) (b : m ≤ held) where
          product : m * get_or table at 0 ≤ held * held ^ 14
          product = mul-le-mul b (small k here (omega arith))

          pub product_fits : m * get_or table at 0 < 2 ^ 64
          product_fits = omega (arith, product)

          pub sum_fits : get_or table (at + 1) 0 + m * get_or table at 0 < 2 ^ 64
          sum_fits = omega (arith, product, small (k + 1) next (omega (arith, o)))
