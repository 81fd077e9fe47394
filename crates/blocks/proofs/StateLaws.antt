-- Laws of supports, of one changed entry, and of steps down. Assumes nothing.
use mathlib.Core.Path.{◌≡◌, refl, ap, ◌∙◌}
use mathlib.Core.Logic.{◌≢◌}
use Prim.Native.Nat.{ℕ, zero, suc, ◌+◌, ◌-◌, ◌≤◌, ◌<◌}
use native.Mathlib.Omega.{arith}
use native.Mathlib.Nat.{add-zero, add-suc, le_of_suc-le-suc}
use lib.ListN.{length, get_or, set, length-set, get_or-eq_default}
use lib.Seq.{get_or-set_same, get_or-set_other, ext_get_or}
use Rattle.blocks.specs.State.{State, Block, support, put, down}
use Rattle.lists.proofs.ReflectLaws.{not-not, leb_reflects}

-- ---- supports

-- a number that is no block rests on the table
pub support_outside : (s : State) (b : ℕ) → length s < b → support s b ≡ 0
support_outside s zero h = refl
support_outside s (suc i) h = get_or-eq_default s 0 (le_of_suc-le-suc h)

-- so whatever rests on a block is a block
pub supported_block : (s : State) (b : ℕ) → support s b ≢ 0 → Block s b
supported_block s zero h = absurd (h refl)
supported_block s (suc i) h = record { low = omega arith; high = not-not (leb_reflects (suc i) (length s)) (λ n. h (support_outside s (suc i) (omega (arith, n)))) }

-- two states of the same blocks with the same supports are the same
pub same_supports : (s t : State) → length s ≡ length t → ((b : ℕ) → support s b ≡ support t b) → s ≡ t
same_supports s t e h = ext_get_or 0 s t e (λ i l. h (suc i))

-- ---- one changed entry

pub length-put : (s : State) (b x : ℕ) → length (put s b x) ≡ length s
length-put s zero x = refl
length-put s (suc i) x = length-set s i x

pub support_put_same : (s : State) (b x : ℕ) → Block s b → support (put s b x) b ≡ x
support_put_same s zero x h = absurd (omega (arith, h.low))
support_put_same s (suc i) x h = get_or-set_same s i x 0 h.high

pub support_put_other : (s : State) (b x c : ℕ) → c ≢ b → support (put s b x) c ≡ support s c
support_put_other s zero x c h = refl
support_put_other s (suc i) x zero h = refl
support_put_other s (suc i) x (suc j) h = get_or-set_other s i j x 0 (λ e. h (ap suc e))

-- a block's entry stands one place before its number
pub support_at : (s : State) (b : ℕ) → 1 ≤ b → support s b ≡ get_or s (b - 1) 0
support_at s zero h = absurd (omega arith)
support_at s (suc i) h = ap (λ k. get_or s k 0) (omega arith)

pub put_at : (s : State) (b x : ℕ) → 1 ≤ b → put s b x ≡ set s (b - 1) x
put_at s zero x h = absurd (omega arith)
put_at s (suc i) x h = ap (λ k. set s k x) (omega arith)

-- ---- steps down

-- the table stays where it is
pub down_table : (s : State) (k : ℕ) → down s k 0 ≡ 0
down_table s zero = refl
down_table s (suc k) = down_table s k

-- the last step first, and steps one after the other
pub down_suc : (s : State) (k b : ℕ) → down s (suc k) b ≡ support s (down s k b)
down_suc s zero b = refl
down_suc s (suc k) b = down_suc s k (support s b)

pub down_add : (s : State) (j k b : ℕ) → down s (j + k) b ≡ down s j (down s k b)
down_add s j zero b = ap (λ m. down s m b) (add-zero j)
down_add s j (suc k) b = ap (λ m. down s m b) (add-suc j k) ∙ down_add s j k (support s b)

-- once on the table, always on the table
pub down_more : (s : State) (j k b : ℕ) → j ≤ k → down s j b ≡ 0 → down s k b ≡ 0
down_more s zero k b h e = ap (down s k) e ∙ down_table s k
down_more s (suc j) zero b h e = absurd (omega arith)
down_more s (suc j) (suc k) b h e = down_more s j k (support s b) (le_of_suc-le-suc h) e
