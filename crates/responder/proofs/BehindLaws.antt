-- Questions behind others: what a list of questions comes to by what its parts come to. Assumes nothing.
use Prim.Native.Nat.{ℕ, ◌*◌, ◌≤◌}
use mathlib.Core.Path.{◌≡◌, refl}
use mathlib.Core.Bool.{Bool, true, false, cond}
use mathlib.Core.List.{List, [], ◌∷◌, ◌++◌}
use mathlib.Core.Option.{none}
use lib.ListN.{length}
use Rattle.blocks.specs.Method.{plan_outcome}
use Rattle.blocks.specs.Question.{Question, all_yes, no', first_no, AllYes, asks_method, asks_room, asks_plan}
use Rattle.blocks.specs.Sheet.{Sheet, goal_state, office, sheet_questions, plan_questions}
use Rattle.blocks.proofs.QuestionLaws.{Decides, first_no_lem, first_no_append}
use Rattle.blocks.proofs.DecidedLaws.{room_decided}

-- a question asked twice
pub once : (q : Question) (rs : List Question) → first_no (q ∷ q ∷ rs) ≡ first_no (q ∷ rs)
once q rs = by q.test
  where
    by : (t : Bool) → cond t (cond t (first_no rs) (no' q.number q.place)) (no' q.number q.place) ≡ cond t (first_no rs) (no' q.number q.place)
    by true = refl
    by false = refl

-- others behind that come to the same where all before are yes
pub same_behind : (qs rs rs' : List Question) → (first_no qs ≡ all_yes → first_no rs ≡ first_no rs') → first_no (qs ++ rs) ≡ first_no (qs ++ rs')
same_behind [] rs rs' h = h refl
same_behind (q ∷ qs) rs rs' h = by q.test h (λ f. same_behind qs rs rs' f)
  where
    by : (t : Bool) → (cond t (first_no qs) (no' q.number q.place) ≡ all_yes → first_no rs ≡ first_no rs')
        → ((first_no qs ≡ all_yes → first_no rs ≡ first_no rs') → first_no (qs ++ rs) ≡ first_no (qs ++ rs'))
        → cond t (first_no (qs ++ rs)) (no' q.number q.place) ≡ cond t (first_no (qs ++ rs')) (no' q.number q.place)
    by true h rest = rest h
    by false h rest = refl

-- questions with a yes may be left out
pub without_yes : (qs ys rs : List Question) → Decides ys → AllYes ys → first_no (qs ++ (ys ++ rs)) ≡ first_no (qs ++ rs)
without_yes qs ys rs d y = same_behind qs (ys ++ rs) rs (λ _. first_no_append ys rs ((first_no_lem ys d all_yes).1 y))

-- planning with room for the plan
pub without_room : (m : ℕ) (h : Sheet) (space : List ℕ) → 4 * length h.initial ≤ length space
    → first_no (plan_questions (office m) h space)
    ≡ first_no (asks_method m ∷ (sheet_questions none h ++ (asks_plan (plan_outcome m h.initial (goal_state h)) ∷ [])))
unfolding plan_questions asks_room
without_room m h space l =
    let room = asks_room (4 * length h.initial) space in
    let last = asks_plan (plan_outcome m h.initial (goal_state h)) ∷ [] in
    without_yes (asks_method m ∷ sheet_questions none h) (room ∷ []) last (room_decided (4 * length h.initial) space, λ _. tt) (l, tt)
