-- The statements of specs/Seeds; the draws by computation. Assumes nothing.
use mathlib.Core.Path.{refl}
use mathlib.Core.Logic.{◌≢◌}
use Prim.Native.Nat.{ℕ, zero, suc, ◌<◌, ◌^◌}
use Rattle.generator.specs.Shifts.{xor_left, xor_right, next_seed, seed_after}
use Rattle.generator.specs.Seeds.{Lasting, draws, AllDrawn}
use Rattle.generator.proofs.FitLaws.{next_fits}
use Rattle.generator.proofs.SeedLaws.{next_some}

after_fits : (k x : ℕ) → x < 2 ^ 64 → seed_after k x < 2 ^ 64
unfolding seed_after
after_fits zero x h = h
after_fits (suc k) x h = next_fits (seed_after k x) (after_fits k x h)

after_some : (k x : ℕ) → x ≢ 0 → seed_after k x ≢ 0
unfolding seed_after
after_some zero x n = n
after_some (suc k) x n = next_some (seed_after k x) (after_some k x n)

pub lasting : Lasting
lasting = record { fits = after_fits; never_zero = after_some }

pub draws_hold : AllDrawn draws
unfolding next_seed xor_left xor_right
draws_hold = (refl, (refl, (refl, (refl, (refl, tt)))))
