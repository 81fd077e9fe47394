-- The questions put to a sheet: where all are answered yes, and their order in figures. Assumes nothing.
use mathlib.Core.Path.{◌≡◌, refl, ap, ap₂, ◌∙◌}
use mathlib.Core.Logic.Iff
use mathlib.Core.Logic.{◌↔◌}
use mathlib.Core.List.{List, [], ◌∷◌, ◌++◌}
use mathlib.Core.Option.{Option, none, some}
use Prim.Native.Nat.{ℕ}
use lib.ListN.{length}
use Rattle.blocks.specs.State.{State}
use Rattle.blocks.specs.Position.{Problem}
use Rattle.blocks.specs.Question.{Question, AllYes, numbers, asks_size, asks_same}
use Rattle.blocks.specs.Question.{asks_outside, asks_shared, asks_floating, asks_limit, limit_questions, state_questions, list_questions}
use Rattle.blocks.specs.Length.{Lengths, MeasuredIf, asks_lengths, asks_overhang, overhang_questions, length_questions}
use Rattle.blocks.specs.Sheet.{Sheet, Accepted, Takes, sheet_questions}
use Rattle.blocks.specs.SheetDemands.{when, sheet_numbers}
use Rattle.blocks.proofs.QuestionLaws.{Decides, decides_append, all_yes_append}
use Rattle.blocks.proofs.DecidedLaws.{size_decided, list_decides, list_yes}
use Rattle.blocks.proofs.LengthLaws.{lengths_decides, lengths_yes}
use Rattle.blocks.proofs.LimitLaws.{limit_decides, limit_yes}

module _ (h : Sheet) where
  -- what is asked after 19: of the lists, and of what else the sheet has
  abbrev pub rest : List Question
  rest = list_questions h.initial h.goal ++ length_questions h.lengths h.initial h.goal

  pub rest_decides : Decides rest
  rest_decides =
      decides_append (list_questions h.initial h.goal) _ (list_decides h.initial h.goal) (λ _. lengths_decides h.lengths h.initial h.goal)

  pub rest_yes : AllYes rest ↔ (Problem h.initial h.goal × MeasuredIf h.lengths h.initial h.goal)
  rest_yes =
      Iff.trans (all_yes_append (list_questions h.initial h.goal) _)
      (Iff.and (list_yes h.initial h.goal) (lengths_yes h.lengths h.initial h.goal))

module _ (limit : Option ℕ) (h : Sheet) where
  pub sheet_decides : Decides (sheet_questions limit h)
  unfolding sheet_questions
  sheet_decides =
      let n = length h.initial in
      (size_decided n, λ _. decides_append (limit_questions limit n) (rest h) (limit_decides limit n) (λ _. rest_decides h))

  pub sheet_yes : AllYes (sheet_questions limit h) ↔ (Takes limit (length h.initial) × Accepted h)
  unfolding asks_size sheet_questions
  sheet_yes =
      let both = Iff.trans (all_yes_append (limit_questions limit (length h.initial)) (rest h)) (Iff.and (limit_yes limit (length h.initial)) (rest_yes h)) in (
        λ y. let z = both.0 y.1 in (z.0, record { small = y.0; problem = z.1.0; measured = z.1.1 }),
        λ a. (a.1.small, both.1 (a.0, (a.1.problem, a.1.measured))),
      )

pub numbers_append : (qs rs : List Question) → numbers (qs ++ rs) ≡ numbers qs ++ numbers rs
numbers_append [] rs = refl
numbers_append (q ∷ qs) rs = ap (λ l. q.number ∷ l) (numbers_append qs rs)

limit_order : (limit : Option ℕ) (n : ℕ) → numbers (limit_questions limit n) ≡ when limit (19 ∷ [])
unfolding limit_questions asks_limit
limit_order none n = refl
limit_order (some limit) n = refl

length_order : (ls : Lengths) (s g : State) → numbers (length_questions ls s g) ≡ when ls (16 ∷ 17 ∷ 18 ∷ [])
unfolding length_questions overhang_questions asks_lengths asks_overhang
length_order none s g = refl
length_order (some l) s g = refl

pub sheet_order : (limit : Option ℕ) (h : Sheet) → numbers (sheet_questions limit h) ≡ sheet_numbers limit h.lengths
unfolding sheet_questions list_questions state_questions asks_size asks_same asks_outside asks_shared asks_floating
sheet_order limit h =
    ap (λ l. 2 ∷ l)
    (numbers_append (limit_questions limit (length h.initial)) _
    ∙ ap₂ (λ k l. k ++ (3 ∷ 4 ∷ 5 ∷ 6 ∷ 7 ∷ 8 ∷ 9 ∷ l)) (limit_order limit (length h.initial)) (length_order h.lengths h.initial h.goal))
