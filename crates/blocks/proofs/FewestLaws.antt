-- The fewest moves of a sheet: as many as blocks are misplaced, and one more where a deadlock costs it and a method writes so many; S2 and S6. Assumes nothing.
use Prim.Native.Nat.{suc, ◌<◌}
use mathlib.Core.Path.{◌≡◌, refl, subst}
use mathlib.Core.Logic.{◌⊎◌, inl, inr, ◌≢◌}
use mathlib.Core.List.{[], ◌∷◌}
use native.Mathlib.Omega.{arith}
use lib.ListN.{length}
use Rattle.lists.specs.Search.{lowest, count}
use Rattle.lists.proofs.ReflectLaws.{same?}
use Rattle.blocks.specs.Move.{◌⟶◌, Plan}
use Rattle.blocks.specs.Tests.{load, clearᵇ, groundedᵇ, agreesᵇ, first_right, position, in_positionᵇ, nearest}
use Rattle.blocks.specs.Tests.{misplacedᵇ, waitingᵇ, readyᵇ, perchedᵇ, misplaced_count}
use Rattle.blocks.specs.Loop.{rests_on, last_misplaced, blocker, top, successor, walk, loop, lowest_of, onward}
use Rattle.blocks.specs.Method.{Method, Gn1, plan, outcome, iterate, fuel, lowest_perched, lowest_ready, building, solving, built, deadlock_loop}
use Rattle.blocks.specs.Question.{asks_size, asks_same, outsideᵇ, first_outside, asks_outside, sharedᵇ, first_shared, asks_shared, floatingᵇ, first_floating, asks_floating}
use Rattle.blocks.specs.Question.{state_questions, limit_questions, list_questions}
use Rattle.blocks.specs.Length.{length_questions}
use Rattle.blocks.specs.Sheet.{Sheet, completed, goal_state, Arrives, Accepted, sheet_questions}
use Rattle.blocks.specs.Demands.{Fewest, HeadCount}
use Rattle.blocks.specs.Sheets.{S2, S6, fewest, AllHold}
use Rattle.blocks.proofs.DeadlockTestLaws.{deadlock_none}
use Rattle.blocks.proofs.GoalStateLaws.{bounded}
use Rattle.blocks.proofs.SheetLaws.{accepts}
use Rattle.blocks.proofs.SheetTheorems.{demand, head_count}

-- without a deadlock as many moves as blocks are misplaced are the fewest
as_many : (h : Sheet) → Accepted h → length (deadlock_loop h.initial (goal_state h)) ≡ 0 → Fewest (Arrives h) (misplaced_count h.initial (goal_state h))
as_many h a e = (head_count h a).fewest.1 ((deadlock_none (bounded a).problem).0 e)

-- with one, one move more, where a method writes so many
one_more : (m : Method) (h : Sheet) (p : Plan) → Accepted h → length (deadlock_loop h.initial (goal_state h)) ≢ 0 → outcome m h.initial (goal_state h) ≡ plan p
    → length p ≡ suc (misplaced_count h.initial (goal_state h)) → Fewest (Arrives h) (length p)
one_more m h p a d o k =
    let w = demand m h a in
    let same : w.0 ≡ p = cc w.1 in
    record { some = (p, subst (Arrives h) same w.2.arrives, refl); least = λ q r. omega (arith, k, more q r) }
  where
    head : HeadCount (Arrives h) h.initial (goal_state h) (misplaced_count h.initial (goal_state h))
    head = head_count h a

    more : (q : Plan) → Arrives h q → misplaced_count h.initial (goal_state h) < length q
    more q r = by (same? (length q) (misplaced_count h.initial (goal_state h)))
      where
        by : (length q ≡ misplaced_count h.initial (goal_state h)) ⊎ (¬ (length q ≡ misplaced_count h.initial (goal_state h))) → misplaced_count h.initial (goal_state h) < length q
        by (inl e) = absurd (d ((deadlock_none (bounded a).problem).1 (head.fewest.0 (record { some = (q, r, e); least = head.floor }))))
        by (inr f) = omega (arith, f, head.floor q r)

pub fewest_hold : AllHold fewest
unfolding completed lowest count groundedᵇ clearᵇ load agreesᵇ first_right position in_positionᵇ nearest misplacedᵇ waitingᵇ readyᵇ perchedᵇ misplaced_count
    rests_on last_misplaced blocker top successor walk loop lowest_of onward iterate fuel lowest_perched lowest_ready building solving outcome built deadlock_loop
    sheet_questions limit_questions list_questions length_questions state_questions asks_size asks_same asks_outside first_outside outsideᵇ asks_shared first_shared
    sharedᵇ asks_floating first_floating floatingᵇ
fewest_hold = (two, (six, tt))
  where
    two : Fewest (Arrives S2) 2
    two = as_many S2 ((accepts S2).0 refl) refl

    six : Fewest (Arrives S6) 3
    six = one_more Gn1 S6 ((1 ⟶ 0) ∷ (2 ⟶ 0) ∷ (1 ⟶ 2) ∷ []) ((accepts S6).0 refl) (λ e. omega (arith, e)) refl refl
