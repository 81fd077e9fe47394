-- The modes of a run, and what differs between them: which blocks are loose, whether towers are kept, and which block is put down. Assumes nothing.
use Rattle.std.specs.Prelude.{ℕ, Bool, true, false, cond}
use Rattle.blocks.specs.State.{State}
use Rattle.blocks.specs.Tests.{perchedᵇ, waitingᵇ}
use Rattle.blocks.specs.Method.{Step, lowest_perched, lowest_on_loop, clearing, building, solving}
use Rattle.statuses.specs.declared.Mode.{Mode}
use Rattle.statuses.specs.declared.Mode.TheVariants.{Clearing, Building, Gn1, Gn2}

-- The steps of a run: the first loop of US, constructive moves alone, and the methods GN1 and GN2.
abbrev pub step_of : Mode → State → State → Step
step_of Clearing = clearing
step_of Building = building
step_of Gn1 = solving lowest_perched
step_of Gn2 = solving lowest_on_loop

-- Whether constructive moves are made,
abbrev pub buildsᵇ : Mode → Bool
buildsᵇ Clearing = false
buildsᵇ Building = true
buildsᵇ Gn1 = true
buildsᵇ Gn2 = true

-- whether blocks are put down,
abbrev pub puts_downᵇ : Mode → Bool
puts_downᵇ Clearing = true
puts_downᵇ Building = false
puts_downᵇ Gn1 = true
puts_downᵇ Gn2 = true

-- and whether the loop is walked, for which the towers are kept.
abbrev pub walksᵇ : Mode → Bool
walksᵇ Clearing = false
walksᵇ Building = false
walksᵇ Gn1 = false
walksᵇ Gn2 = true

-- Loose blocks are those from which the run takes the one to put down. The loop is walked from the lowest block that waits; other runs put down the lowest
-- perched block. Document 001 (section 3.4) keeps its stuck blocks in one list for GN1 and GN2.
abbrev pub looseᵇ : Mode → State → State → ℕ → Bool
looseᵇ m s g b = cond (walksᵇ m) (waitingᵇ s g b) (perchedᵇ s g b)
