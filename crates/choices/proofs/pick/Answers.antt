-- `pick` meets its contract: a law for each way out. Assumes nothing.
use mathlib.Core.Logic.{inl, inr}
use mathlib.Core.Path.{◌≡◌, sym, ◌∙◌}
use mathlib.Core.Bool.{true}
use borrow.Author.Rules.{rules}
use Rattle.statuses.specs.Modes.{puts_downᵇ}
use Rattle.choices.proofs.PickLaws.{Stalls, ready_zero, loose_zero, ready_within, build_way, build_end, loose_end, down_way, walkable, loop_way}
use Rattle.choices.proofs.pick.Goals.{Joined-builds, Else-not-puts_down, then-builds+in_default, else-builds}
use Rattle.choices.proofs.pick.Goals as goal

pub lowest-requires : goal.lowest-requires
lowest-requires c = search (rules, ready_zero)

pub offset_bounds-goal-block : goal.offset_bounds-goal-block
offset_bounds-goal-block c = search (rules, ready_within)

pub bounds-goal-block : goal.bounds-goal-block
bounds-goal-block c = search (rules, ready_within)

pub returns-in-Some : goal.returns-in-Some
returns-in-Some c = build_way c.requires c.lowest.ensures c.in-Some.is (sym c.builds.ensures ∙ c.if-builds.true) c.from.ensures

-- no constructive move is made
stalls : (c : Joined-builds) → Stalls c.requires
stalls c =
    elim c.if-builds.branch [
      | then-builds+in_default w ↦ inr (sym c.builds.ensures ∙ w.if-builds.true, sym w.in_default.is ∙ w.lowest.ensures)
      | else-builds w ↦ inl (sym c.builds.ensures ∙ w.if-builds.false)
    ]

pub returns-then-not-puts_down : goal.returns-then-not-puts_down
returns-then-not-puts_down c =
    build_end c.requires (stalls (goal.at.returns-then-not-puts_down c).Joined-builds) (sym c.puts_down.ensures ∙ c.if-not-puts_down.true)

pub lowest-requires-2 : goal.lowest-requires-2
lowest-requires-2 c = search (rules, loose_zero)

-- blocks are put down
downs : (c : Else-not-puts_down) → puts_downᵇ c.args.mode ≡ true
downs c = sym c.puts_down.ensures ∙ c.if-not-puts_down.false

pub returns-in_err-low : goal.returns-in_err-low
returns-in_err-low c =
    let at = goal.at.returns-in_err-low c in
    rw c.from_residual.ensures (loose_end c.requires (downs at.Else-not-puts_down) (stalls at.Joined-builds) (sym c.in_err-low.was ∙ c.lowest-2.ensures))

pub unlock-block-requires : goal.unlock-block-requires
unlock-block-requires c =
    let at = goal.at.unlock-block-requires c in
    walkable c.requires (downs at.Else-not-puts_down) (sym c.in_ok-low.was ∙ c.lowest-2.ensures) (sym c.walks.ensures ∙ c.if-walks.true) (stalls at.Joined-builds)

pub returns-then-walks : goal.returns-then-walks
returns-then-walks c =
    let at = goal.at.returns-then-walks c in
    loop_way c.requires (downs at.Else-not-puts_down) (sym c.in_ok-low.was ∙ c.lowest-2.ensures) (sym c.walks.ensures ∙ c.if-walks.true) (stalls at.Joined-builds) c.unlock-block.ensures

pub returns-else-walks : goal.returns-else-walks
returns-else-walks c =
    let at = goal.at.returns-else-walks c in
    down_way c.requires (downs at.Else-not-puts_down) (sym c.in_ok-low.was ∙ c.lowest-2.ensures) (stalls at.Joined-builds) (sym c.walks.ensures ∙ c.if-walks.false)
