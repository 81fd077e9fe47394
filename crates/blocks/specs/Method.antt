-- The three methods and the deadlock test as functions (document 01, "The three methods"; document 001, sections 3.1 and 3.2). Assumes nothing.
use Rattle.std.specs.Prelude.{ℕ, zero, suc, ◌*◌, cond, List, [], ◌∷◌, ◌++◌, eqb, length}
use Rattle.std.proofs.Math.Option.{Option, none, some}
use Rattle.blocks.specs.State.{State, support, put}
use Rattle.blocks.specs.Move.{◌⟶◌, Plan, after}
use Rattle.lists.specs.Search.{lowest}
use Rattle.blocks.specs.Tests.{readyᵇ, perchedᵇ, misplaced_count}
use Rattle.blocks.specs.Loop.{loop, lowest_of, onward, blocked_rows}

-- What a method does next: nothing more, a move, or, at question 13, nothing for want of a block to put down.
pub data Step : Type 0 where
  stop : Step
  go : ℕ → ℕ → Step
  no_block : Step

-- What a method gives: a plan, or the "no" of question 13.
pub data Outcome : Type 0 where
  plan : Plan → Outcome
  nothing_to_put_down : Outcome

-- The moves p come first.
abbrev pub precede : Plan → Outcome → Outcome
precede p (plan q) = plan (p ++ q)
precede p nothing_to_put_down = nothing_to_put_down

-- Steps are made one after the other until there is none. The fuel never runs out: proofs/MethodLaws.
abbrev pub follow : Step → State → (State → Outcome) → Outcome
follow stop s rest = plan []
follow (go a x) s rest = precede ((a ⟶ x) ∷ []) (rest (put s a x))
follow no_block s rest = nothing_to_put_down

unfoldable pub iterate : (State → Step) → ℕ → State → Outcome
iterate step zero s = plan []
iterate step (suc f) s = follow (step s) s (λ t. iterate step f t)

unfoldable pub fuel : State → ℕ
fuel s = 2 * length s

-- A block that goes to the table, or `other` where there is no such block.
abbrev pub to_table : ℕ → Step → Step
to_table zero other = other
to_table (suc i) other = go (suc i) 0

-- A block that goes to its goal support, or `other` where there is no such block.
abbrev pub to_goal : State → ℕ → Step → Step
to_goal g zero other = other
to_goal g (suc i) other = go (suc i) (support g (suc i))

-- "the lowest-numbered misplaced clear slab off the ground".
unfoldable pub lowest_perched : State → State → ℕ
lowest_perched s g = lowest (perchedᵇ s g) (length s)

-- "the lowest-numbered slab with a constructive lift".
unfoldable pub lowest_ready : State → State → ℕ
lowest_ready s g = lowest (readyᵇ s g) (length s)

-- "the slab put down is the lowest-numbered one on the loop".
unfoldable pub lowest_on_loop : State → State → ℕ
lowest_on_loop s g = lowest_of s (loop s g)

-- The steps of the first loop of US, and of constructive moves alone.
unfoldable pub clearing : State → State → Step
clearing g s = to_table (lowest_perched s g) stop

unfoldable pub building : State → State → Step
building g s = to_goal g (lowest_ready s g) stop

-- Method 2 and 3: "until no slab is misplaced, the lowest-numbered slab with a constructive lift makes it; when there is none", `putDown` says which
-- block goes to the table.
unfoldable pub solving : (State → State → ℕ) → State → State → Step
solving putDown g s = cond (eqb (misplaced_count s g) 0) stop (to_goal g (lowest_ready s g) (to_table (putDown s g) no_block))

-- One outcome after another.
abbrev pub and_then : State → Outcome → (State → Outcome) → Outcome
and_then s (plan p) rest = precede p (rest (after s p))
and_then s nothing_to_put_down rest = nothing_to_put_down

-- Document 01's methods 1, 2 and 3.
pub data Method : Type 0 where
  Us Gn1 Gn2 : Method

unfoldable pub outcome : Method → State → State → Outcome
outcome Us s g = and_then s (iterate (clearing g) (fuel s) s) (λ t. iterate (building g) (fuel s) t)
outcome Gn1 s g = iterate (solving lowest_perched g) (fuel s) s
outcome Gn2 s g = iterate (solving lowest_on_loop g) (fuel s) s

-- The method of a number, and the number of a method.
abbrev pub method_of : ℕ → Option Method
method_of zero = none
method_of (suc zero) = some Us
method_of (suc (suc zero)) = some Gn1
method_of (suc (suc (suc zero))) = some Gn2
method_of (suc (suc (suc (suc m)))) = none

abbrev pub number_of : Method → ℕ
number_of Us = 1
number_of Gn1 = 2
number_of Gn2 = 3

-- The outcome of the method of number m; without a method no plan is asked for.
abbrev pub outcome_by : Option Method → State → State → Outcome
outcome_by none s g = plan []
outcome_by (some m) s g = outcome m s g

unfoldable pub plan_outcome : ℕ → State → State → Outcome
plan_outcome m s g = outcome_by (method_of m) s g

-- The moves of an outcome, and the state at its end.
abbrev pub plan_of : Outcome → Plan
plan_of (plan p) = p
plan_of nothing_to_put_down = []

abbrev pub end_of : State → Outcome → State
end_of s (plan p) = after s p
end_of s nothing_to_put_down = s

-- The deadlock test "makes constructive lifts, as in method 2, on a copy of the yard until none is left."
unfoldable pub built : State → State → State
built s g = end_of s (iterate (building g) (fuel s) s)

-- "No misplaced slab left: the answer is none, count 0. Otherwise the count is the length of the loop, and the loop is written from its lowest number onward".
unfoldable pub deadlock_loop : State → State → List ℕ
deadlock_loop s g = let t = built s g in cond (eqb (misplaced_count t g) 0) [] (onward t (loop t g))

-- document 02, Job 6: c "as the yard stands when it stalls".
unfoldable pub deadlock_rows : State → State → List ℕ
deadlock_rows s g = blocked_rows (built s g) g (deadlock_loop s g)
