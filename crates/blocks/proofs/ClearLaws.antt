-- What rests on a block, and the test for clear. Assumes nothing.
use mathlib.Core.Path.{◌≡◌, refl, sym, ◌∙◌}
use mathlib.Core.Logic.{◌⊎◌, inl, inr, ◌≢◌}
use Prim.Native.Nat.{ℕ}
use native.Mathlib.Omega.{arith}
use lib.Dec.{eqb}
use lib.ListN.{length}
use Rattle.blocks.specs.State.{State, Block, support, Clear}
use Rattle.blocks.specs.Position.{Proper}
use Rattle.blocks.specs.Tests.{load, clearᵇ}
use Rattle.lists.proofs.ReflectLaws.{Reflects, from_true, from_false, not-not, reflects_or, reflects_iff, eqb_reflects, same?}
use Rattle.lists.proofs.SearchLaws.{lowest_le, lowest_passes, lowest_none}
use Rattle.blocks.proofs.StateLaws.{supported_block}

-- what is found to rest on b does rest there
pub load_rests : (s : State) (b : ℕ) → load s b ≢ 0 → support s (load s b) ≡ b
unfolding load
load_rests s b h = from_true (eqb_reflects (support s (load s b)) b) (lowest_passes (λ c. eqb (support s c) b) (length s) h)

pub load_block : (s : State) (b : ℕ) → load s b ≢ 0 → Block s (load s b)
unfolding load
load_block s b h = record { low = omega arith; high = lowest_le (λ c. eqb (support s c) b) (length s) }

-- nothing is found: nothing rests there, unless b is the table
pub load_none : (s : State) (b c : ℕ) → load s b ≡ 0 → support s c ≡ b → b ≡ 0
unfolding load
load_none s b c e r = not-not (eqb_reflects b 0) (λ n. found (supported_block s c (λ z. n (sym r ∙ z))))
  where
    found : Block s c → ⊥
    found k = from_false (eqb_reflects (support s c) b) (lowest_none (λ d. eqb (support s d) b) (length s) e c k.low k.high) r

-- on a state where a block carries at most one, what rests on b is what is found
pub load_is : (s : State) → Proper s → (b c : ℕ) → b ≢ 0 → support s c ≡ b → load s b ≡ c
load_is s p b c h r = p.carries (load s b) c (is ∙ sym r) (λ z. h (sym is ∙ z))
  where
    is : support s (load s b) ≡ b
    is = load_rests s b (λ e. h (load_none s b c e r))

-- the test for clear is true exactly of clear blocks, on any list whatever
pub clear_test : (s : State) (b : ℕ) → Reflects (Clear s b) (clearᵇ s b)
unfolding clearᵇ
clear_test s b = reflects_iff to from (reflects_or (eqb_reflects b 0) (eqb_reflects (load s b) 0))
  where
    to : (b ≡ 0) ⊎ (load s b ≡ 0) → Clear s b
    to (inl e) = record { free = λ c r. e }
    to (inr e) = record { free = λ c r. load_none s b c e r }

    from : Clear s b → (b ≡ 0) ⊎ (load s b ≡ 0)
    from k = by (same? (load s b) 0)
      where
        by : (load s b ≡ 0) ⊎ (¬ (load s b ≡ 0)) → (b ≡ 0) ⊎ (load s b ≡ 0)
        by (inl e) = inr e
        by (inr n) = inl (k.free (load s b) (load_rests s b n))

pub clear_table : (s : State) → Clear s 0
clear_table s = record { free = λ c r. refl }
