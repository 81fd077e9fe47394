-- Which blocks a plan moves: every plan that arrives moves every misplaced block, a careful plan moves no other. Assumes nothing.
use mathlib.Core.Path.{◌≡◌, sym, subst}
use mathlib.Core.Logic.{◌⊎◌, inl, inr}
use mathlib.Core.List.{[], ◌∷◌}
use Prim.Native.Nat.{ℕ}
use Rattle.blocks.specs.State.{State, put}
use Rattle.blocks.specs.Position.{InPosition, Misplaced}
use Rattle.blocks.specs.Move.{◌⟶◌, Plan, LegalPlan, CarefulPlan, Moved, first, later, Solves}
use Rattle.lists.proofs.ReflectLaws.{same?}
use Rattle.blocks.proofs.FrameLaws.{position_frame, position_unframe}
use Rattle.blocks.proofs.PositionLaws.{position_goal}
use Rattle.blocks.proofs.BoundLaws.{solves_rest}

pub moves_all : (q : Plan) (s g : State) → Solves s g q → (b : ℕ) → Misplaced s g b → Moved b q
moves_all [] s g w b m = absurd (m (subst (λ t. InPosition t g b) (sym w.arrives) (position_goal g b)))
moves_all ((a ⟶ x) ∷ q) s g w b m = by (same? b a) (λ n. moves_all q (put s a x) g (solves_rest w) b n)
  where
    by : (b ≡ a) ⊎ (¬ (b ≡ a)) → (Misplaced (put s a x) g b → Moved b q) → Moved b ((a ⟶ x) ∷ q)
    by (inl e) rest = subst (λ c. Moved b ((c ⟶ x) ∷ q)) e first
    by (inr h) rest = later (rest (λ i. m (position_unframe w.legal.0 h i)))

pub careful_moves_only : (p : Plan) (s g : State) → LegalPlan s p → CarefulPlan s g p → (b : ℕ) → Moved b p → Misplaced s g b
careful_moves_only [] s g l c b m = elim m [ ]
careful_moves_only ((a ⟶ x) ∷ p) s g l c b first = c.0.misplaced
careful_moves_only ((a ⟶ x) ∷ p) s g l c b (later r) = by (same? b a) (careful_moves_only p (put s a x) g l.1 c.1 b r)
  where
    by : (b ≡ a) ⊎ (¬ (b ≡ a)) → Misplaced (put s a x) g b → Misplaced s g b
    by (inl e) m i = subst (Misplaced s g) (sym e) c.0.misplaced i
    by (inr h) m i = m (position_frame l.0 h i)
