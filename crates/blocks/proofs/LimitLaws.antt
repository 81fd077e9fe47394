-- Question 19, of an entry with a limit. Assumes nothing.
use mathlib.Core.Logic.{◌↔◌}
use mathlib.Core.Option.{Option, none, some}
use Prim.Native.Nat.{ℕ}
use Rattle.blocks.specs.Question.{AllYes, asks_limit, limit_questions}
use Rattle.blocks.specs.Sheet.{Takes}
use Rattle.lists.proofs.ReflectLaws.{leb_reflects}
use Rattle.blocks.proofs.QuestionLaws.{Decides, asks_decided}

pub limit_decides : (limit : Option ℕ) (n : ℕ) → Decides (limit_questions limit n)
unfolding limit_questions asks_limit
limit_decides none n = tt
limit_decides (some limit) n = (asks_decided (leb_reflects n limit), λ _. tt)

pub limit_yes : (limit : Option ℕ) (n : ℕ) → AllYes (limit_questions limit n) ↔ Takes limit n
unfolding limit_questions asks_limit
limit_yes none n = (λ y. tt, λ t. tt)
limit_yes (some limit) n = (λ y. y.0, λ t. (t, tt))
