-- `nearest` meets its contract: it is the block that the test names. Assumes nothing.
use Rattle.std.proofs.Common.{refl}
use Rattle.towers.specs.declared.Position.TheVariants.{InPosition, MisplacedAbove}
use Rattle.towers.proofs.FindLaws.{names}
use Rattle.towers.proofs.nearest.Goals as goal

pub returns-in-InPosition : goal.returns-in-InPosition
returns-in-InPosition c = names {q = InPosition} c.in-InPosition.ensures refl

pub returns-in-MisplacedAbove : goal.returns-in-MisplacedAbove
returns-in-MisplacedAbove c = names {q = MisplacedAbove c.in-MisplacedAbove.c} c.in-MisplacedAbove.ensures refl
