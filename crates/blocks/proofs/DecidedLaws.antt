-- The reflection of each row of document 01's questions, and what the questions put to a problem come to. Assumes nothing.
use mathlib.Core.Path.{◌≡◌, refl, sym, ◌∙◌}
use mathlib.Core.Logic.Iff
use mathlib.Core.Logic.{◌⊎◌, inl, inr, ◌≢◌, ◌↔◌}
use mathlib.Core.Bool.{Bool}
use mathlib.Core.List.{List, ◌++◌}
use Prim.Native.Nat.{ℕ, zero, suc, pred, ◌%◌, ◌≤◌, ◌<◌}
use native.Mathlib.Omega.{arith}
use lib.Dec.{eqb}
use lib.ListN.{length}
use Rattle.lists.specs.Search.{lowest}
use Rattle.blocks.specs.State.{State, most, Block, support, Grounded}
use Rattle.blocks.specs.Position.{Proper, Problem, Bounded}
use Rattle.blocks.specs.Move.{Plan}
use Rattle.blocks.specs.Method.{Outcome, plan, nothing_to_put_down, method_of}
use Rattle.blocks.specs.Question.{None, all_yes, first_no, AllYes, IsMethod, is_method, asks_method, asks_size, asks_same}
use Rattle.blocks.specs.Question.{Outside, outsideᵇ, first_outside, asks_outside, Shared, sharedᵇ, first_shared, asks_shared}
use Rattle.blocks.specs.Question.{Floating, floatingᵇ, first_floating, asks_floating, asks_room, asks_even, is_plan, asks_plan}
use Rattle.blocks.specs.Question.{state_questions, list_questions, problem_questions}
use Rattle.lists.proofs.ReflectLaws.{Reflects, holds, fails, from_true, from_false, not-not, reflects_not, reflects_and, reflects_iff, eqb_reflects, leb_reflects, ltb_reflects, same?}
use Rattle.lists.proofs.SearchLaws.{lowest_le, lowest_passes, lowest_none, lowest_absent}
use Rattle.blocks.proofs.StateLaws.{supported_block}
use Rattle.blocks.proofs.GroundLaws.{grounded_test}
use Rattle.blocks.proofs.QuestionLaws.{Decided, Decides, asks_decided, none_decided, first_no_lem, decides_append, all_yes_append}

-- ---- questions 1 to 3

pub method_decided : (m : ℕ) → Decided (asks_method m)
unfolding asks_method
method_decided m = asks_decided (known m)
  where
    known : (m : ℕ) → Reflects (IsMethod m) (is_method (method_of m))
    known zero = fails (λ h. omega (arith, h.low))
    known (suc zero) = holds (record { low = omega arith; high = omega arith })
    known (suc (suc zero)) = holds (record { low = omega arith; high = omega arith })
    known (suc (suc (suc zero))) = holds (record { low = omega arith; high = omega arith })
    known (suc (suc (suc (suc m)))) = fails (λ h. omega (arith, h.high))

pub size_decided : (n : ℕ) → Decided (asks_size n)
unfolding asks_size
size_decided n = asks_decided (leb_reflects n most)

pub same_decided : (s g : State) → Decided (asks_same s g)
unfolding asks_same
same_decided s g = asks_decided (eqb_reflects (length g) (length s))

-- ---- questions 4 to 6, and 7 to 9

pub outside_test : (s : State) (b : ℕ) → Reflects (Outside s b) (outsideᵇ s b)
unfolding outsideᵇ
outside_test s b = ltb_reflects (length s) (support s b)

pub outside_decided : (k : ℕ) (s : State) → Decided (asks_outside k s)
unfolding asks_outside first_outside
outside_decided k s = none_decided (Outside s) (outsideᵇ s) (length s) (λ b l h. outside_test s b)

pub shared_test : (s : State) (b : ℕ) → 1 ≤ b → Reflects (Shared s b) (sharedᵇ s b)
unfolding sharedᵇ
shared_test s b h =
    reflects_iff to from (reflects_and (reflects_not (eqb_reflects (support s b) 0)) (reflects_not (eqb_reflects (lowest rests (pred b)) 0)))
  where
    rests : ℕ → Bool
    rests c = eqb (support s c) (support s b)

    to : (support s b ≢ 0) × (lowest rests (pred b) ≢ 0) → Shared s b
    to e = record {
      off = e.0;
      other = lowest rests (pred b);
      lower = omega (arith, lowest_le rests (pred b));
      same = from_true (eqb_reflects (support s (lowest rests (pred b))) (support s b)) (lowest_passes rests (pred b) e.1);
    }

    from : Shared s b → (support s b ≢ 0) × (lowest rests (pred b) ≢ 0)
    from w = (w.off, λ e. from_false (eqb_reflects (support s w.other) (support s b)) (lowest_none rests (pred b) e w.other low high) w.same)
      where
        low : 1 ≤ w.other
        low = (supported_block s w.other (λ e. w.off (sym w.same ∙ e))).low

        high : w.other ≤ pred b
        high = omega (arith, w.lower)

pub shared_decided : (k : ℕ) (s : State) → Decided (asks_shared k s)
unfolding asks_shared first_shared
shared_decided k s = none_decided (Shared s) (sharedᵇ s) (length s) (λ b l h. shared_test s b l)

-- no block has an entry outside, so no number has
entries_fit : (s : State) → None (Outside s) (length s) → (b : ℕ) → support s b ≤ length s
entries_fit s none b = not-not (leb_reflects (support s b) (length s)) bad
  where
    bad : ¬ ¬ (support s b ≤ length s)
    bad m =
        let w : Block s b = supported_block s b (omega (arith, m)) in
        none b w.low w.high (omega (arith, m))

pub floating_test : (s : State) → None (Outside s) (length s) → (b : ℕ) → b ≤ length s → Reflects (Floating s b) (floatingᵇ s b)
unfolding floatingᵇ
floating_test s none b h = reflects_not (grounded_test s (entries_fit s none) b h)

-- after a yes to question 4
pub floating_decided : (k : ℕ) (s : State) → None (Outside s) (length s) → Decided (asks_floating k s)
unfolding asks_floating first_floating
floating_decided k s none = none_decided (Floating s) (floatingᵇ s) (length s) (λ b l h. floating_test s none b h)

-- ---- questions 10, 11 and 13

pub room_decided : (needed : ℕ) (space : List ℕ) → Decided (asks_room needed space)
unfolding asks_room
room_decided needed space = asks_decided (leb_reflects needed (length space))

pub even_decided : (lifts : List ℕ) → Decided (asks_even lifts)
unfolding asks_even
even_decided lifts = asks_decided (eqb_reflects (length lifts % 2) 0)

pub plan_decided : (o : Outcome) → Decided (asks_plan o)
unfolding asks_plan
plan_decided o = asks_decided (given o)
  where
    given : (o : Outcome) → Reflects ((p : Plan) × (o ≡ plan p)) (is_plan o)
    given (plan p) = holds (p, refl)
    given nothing_to_put_down = fails (λ h. let e = h.1 in let z : ◌≡◌ {A = ℕ} 0 1 = cc in omega arith)

-- ---- a state

pub state_decides : (k₁ k₂ k₃ : ℕ) (s : State) → Decides (state_questions k₁ k₂ k₃ s)
unfolding state_questions asks_outside
state_decides k₁ k₂ k₃ s = (outside_decided k₁ s, λ none. (shared_decided k₂ s, λ _. (floating_decided k₃ s none, λ _. tt)))

-- of two blocks on one neither is the lower, so they are one
none_carries : (s : State) → None (Shared s) (length s) → (b c : ℕ) → support s b ≡ support s c → support s b ≢ 0 → b ≡ c
none_carries s none b c e m = omega (arith, apart b c e (λ z. m (e ∙ z)), apart c b (sym e) m)
  where
    apart : (d f : ℕ) → support s d ≡ support s f → support s f ≢ 0 → ¬ (d < f)
    apart d f same off l =
        let w : Block s f = supported_block s f off in
        none f w.low w.high (record { off = off; other = d; lower = l; same = same })

-- questions 4 and 5 by themselves
pub entries_yes : (s : State) → first_outside s ≡ 0 → (b : ℕ) → support s b ≤ length s
unfolding first_outside
entries_yes s e = entries_fit s (lowest_absent (Outside s) (outsideᵇ s) (length s) (λ b l h. outside_test s b) e)

pub carries_yes : (s : State) → first_shared s ≡ 0 → (b c : ℕ) → support s b ≡ support s c → support s b ≢ 0 → b ≡ c
unfolding first_shared
carries_yes s e = none_carries s (lowest_absent (Shared s) (sharedᵇ s) (length s) (λ b l h. shared_test s b l) e)

-- no bad block of any kind, exactly where the state is proper
pub state_yes : (k₁ k₂ k₃ : ℕ) (s : State) → AllYes (state_questions k₁ k₂ k₃ s) ↔ Proper s
unfolding state_questions asks_outside asks_shared asks_floating
state_yes k₁ k₂ k₃ s = (λ y. record { entries = entries_fit s y.0; carries = none_carries s y.1.0; grounded = grounded y.0 y.1.1.0 }, into)
  where
    grounded : None (Outside s) (length s) → None (Floating s) (length s) → (b : ℕ) → Grounded s b
    grounded fit none b = go (same? (support s b) 0)
      where
        go : (support s b ≡ 0) ⊎ (¬ (support s b ≡ 0)) → Grounded s b
        go (inl e) = record { steps = 1; reaches = e }
        go (inr m) =
            let w : Block s b = supported_block s b m in
            not-not (grounded_test s (entries_fit s fit) b w.high) (none b w.low w.high)

    into : Proper s → None (Outside s) (length s) × (None (Shared s) (length s) × (None (Floating s) (length s) × Unit {0}))
    into w = (λ b l h m. omega (arith, m, w.entries b), (single, (λ b l h m. m (w.grounded b), tt)))
      where
        single : None (Shared s) (length s)
        single b l h m =
            let same : m.other ≡ b = w.carries m.other b m.same (λ z. m.off (sym m.same ∙ z)) in
            omega (arith, m.lower)

-- ---- a problem: questions 3 to 9, and 2 to 9

module _ (s g : State) where
  pub list_decides : Decides (list_questions s g)
  unfolding list_questions
  list_decides =
      (same_decided s g, λ _. decides_append (state_questions 4 5 6 s) (state_questions 7 8 9 g) (state_decides 4 5 6 s) (λ _. state_decides 7 8 9 g))

  pub list_yes : AllYes (list_questions s g) ↔ Problem s g
  unfolding list_questions asks_same
  list_yes = (into, λ w. (w.same, both.1 ((state_yes 4 5 6 s).1 w.initial, (state_yes 7 8 9 g).1 w.goal)))
    where
      both : AllYes (state_questions 4 5 6 s ++ state_questions 7 8 9 g) ↔ (AllYes (state_questions 4 5 6 s) × AllYes (state_questions 7 8 9 g))
      both = all_yes_append (state_questions 4 5 6 s) (state_questions 7 8 9 g)

      into : (length g ≡ length s) × AllYes (state_questions 4 5 6 s ++ state_questions 7 8 9 g) → Problem s g
      into y = let z = both.0 y.1 in record { initial = (state_yes 4 5 6 s).0 z.0; goal = (state_yes 7 8 9 g).0 z.1; same = y.0 }

  pub problem_yes : AllYes (problem_questions s g) ↔ Bounded s g
  unfolding problem_questions asks_size
  problem_yes = (λ y. record { small = y.0; problem = list_yes.0 y.1 }, λ w. (w.small, list_yes.1 w.problem))

  -- all yes exactly on problems of that size
  pub accepts : (first_no (problem_questions s g) ≡ all_yes) ↔ Bounded s g
  unfolding problem_questions
  accepts = Iff.trans (first_no_lem (problem_questions s g) (size_decided (length s), λ _. list_decides) all_yes) problem_yes
