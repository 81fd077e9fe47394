-- How many bytes the records of an answer have, and the bounds in numbers. Assumes nothing.
use Prim.Native.Nat.{◌+◌, ◌*◌}
use mathlib.Core.Path.{◌≡◌, refl}
use Rattle.blocks.specs.State.{most}
use Rattle.records.specs.Marks.{marks, mark_of, size}
use Rattle.records.specs.declared.Kind.TheVariants.{Pl, Lf, No}
use Rattle.responder.specs.Answers.{longest}
use Rattle.responder.specs.Bounds.{enough}

pub size_pl : size Pl ≡ 6
unfolding mark_of marks
size_pl = refl

pub size_lf : size Lf ≡ 6
unfolding mark_of marks
size_lf = refl

pub size_no : size No ≡ 6
unfolding mark_of marks
size_no = refl

pub longest_is : longest ≡ 6 + 12 * most
unfolding mark_of marks
longest_is = refl

pub enough_is : enough ≡ 7 + 12 * most
unfolding mark_of marks
enough_is = refl
