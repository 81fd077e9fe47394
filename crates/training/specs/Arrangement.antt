-- The state of a number (document 02, Job 1; document 001, section 2.2). Document 01 says arrangement for state, pile for tower, ground for table.
-- A state that is not finished is a whole list too: a block that has not been taken yet rests on 0, as one on the table does, and how many are left
-- says which of the two it is. Assumes nothing.
use Rattle.std.specs.Prelude.{ℕ, zero, suc, pred, ◌+◌, ◌-◌, ◌/◌, ◌%◌, Bool, not, cond, ◌&&◌, eqb, ltb, length, replicate}
use Rattle.lists.specs.Search.{lowest, count}
use Rattle.blocks.specs.State.{State, put}
use Rattle.blocks.specs.Tests.{clearᵇ}
use Rattle.blocks.specs.Loop.{top}
use Rattle.counts.specs.Ways.{ways}

-- Number q, from 0, of the numbers from 1 to n that pass the test, in ascending order: the one that passes and has q passing ones below it.
unfoldable pub nth : (ℕ → Bool) → ℕ → ℕ → ℕ
nth P n q = lowest (λ t. P t && eqb (count P (pred t)) q) n

-- t is the top of another tower than b's.
unfoldable pub other_topᵇ : State → ℕ → ℕ → Bool
other_topᵇ s b t = clearᵇ s t && not (eqb t (top s (length s) b))

-- "the quotient picks one of the other piles, by ascending top slab".
unfoldable pub picked : State → ℕ → ℕ → ℕ
picked s b q = nth (other_topᵇ s b) (length s) q

-- A state on its way: how many towers are grounded, what is left of the number, and the supports so far.
pub record PartState : Type 0 where
  pub grounded : ℕ
  pub rest : ℕ
  pub state : State

-- "If r is below the count with this slab's pile grounded, ground it."
abbrev pub ground : PartState → PartState
ground p = record { grounded = p.grounded + 1; rest = p.rest; state = p.state }

-- "Otherwise subtract that count and divide by the count for one loose pile fewer and as many grounded;
-- the quotient picks one of the other piles, by ascending top slab, and the remainder goes on."
abbrev pub stack : ℕ → PartState → PartState
stack m p =
    let over = p.rest - ways m (p.grounded + 1) in
    let b = length p.state - m in
    record {
      grounded = p.grounded;
      rest = over % ways m p.grounded;
      state = put p.state b (picked p.state b (over / ways m p.grounded));
    }

-- The next block is taken: m towers are loose after it, so that it is block n - m.
unfoldable pub next : ℕ → PartState → PartState
next m p = cond (ltb p.rest (ways m (p.grounded + 1))) (ground p) (stack m p)

-- "taking slabs in order": m are left.
unfoldable pub finish : ℕ → PartState → State
finish zero p = p.state
finish (suc m) p = finish m (next m p)

-- "Turn a number r into an arrangement of n slabs, [..] all n piles single and off the ground at first."
unfoldable pub arrangement : ℕ → ℕ → State
arrangement n r = finish n (record { grounded = 0; rest = r; state = replicate n 0 })
