-- A number for which 0 says none, and the answer that says it by its case. Assumes nothing.
use Rattle.std.proofs.Common.{◌≡◌, ◌≢◌, ℕ, zero, suc, Some, None, refl, sym, ap}
use Rattle.lists.specs.Search.{nonzero}

pub nonzero_none : {x : ℕ} → x ≡ 0 → None ≡ nonzero x
nonzero_none e = sym (ap nonzero e)

pub nonzero_some : (x : ℕ) → x ≢ 0 → Some x ≡ nonzero x
nonzero_some zero h = absurd (h refl)
nonzero_some (suc x) h = refl

pub none_zero : (x : ℕ) → nonzero x ≡ None → x ≡ 0
none_zero zero e = refl
none_zero (suc x) e = cc

pub some_is : {y : ℕ} (x : ℕ) → nonzero x ≡ Some y → x ≡ y
some_is zero e = cc
some_is (suc x) e = cc

pub some_nonzero : {y : ℕ} (x : ℕ) → nonzero x ≡ Some y → y ≢ 0
some_nonzero zero e h = cc
some_nonzero (suc x) e h = cc
