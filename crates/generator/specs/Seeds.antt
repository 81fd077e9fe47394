-- What holds of the seeds, and some of them: statements alone. proofs/Seeds proves them. Assumes nothing.
use Rattle.std.specs.Prelude.{ℕ, ◌<◌, ◌^◌, ◌≡◌, ◌≢◌, List, [], ◌∷◌}
use Rattle.generator.specs.Shifts.{next_seed, seed_after}

-- However often it is drawn from, a generator can be drawn from again: its seed has 64 bits, and one that is not zero never becomes zero.
pub record Lasting : Type 0 where
  pub fits : (k x : ℕ) → x < 2 ^ 64 → seed_after k x < 2 ^ 64
  pub never_zero : (k x : ℕ) → x ≢ 0 → seed_after k x ≢ 0

-- A seed and the next.
pub record Step : Type 0 where
  pub from : ℕ
  pub to : ℕ

abbrev pub AllDrawn : List Step → Type 0
AllDrawn [] = Unit {0}
AllDrawn (d ∷ ds) = (next_seed d.from ≡ d.to) × AllDrawn ds

-- Draws that were worked out apart from the definition. Zero stays zero: hence question 15.
abbrev pub draws : List Step
draws =
    record { from = 0; to = 0 } ∷
    record { from = 1; to = 1082269761 } ∷
    record { from = 11345700832569396014; to = 5086051297215008440 } ∷
    record { from = 13684250789232764460; to = 7536033406169434848 } ∷
    record { from = 18446744073709551615; to = 1065361344 } ∷
    []
