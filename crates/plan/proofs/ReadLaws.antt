-- The bytes that are wanted fit behind those that are there. Assumes nothing.
use Prim.Native.Nat.{ℕ, ◌+◌, ◌-◌, ◌^◌, ◌≤◌, ◌<◌}
use mathlib.Core.Path.{◌≡◌, refl, sym}
use mathlib.Core.List.{List}
use native.Mathlib.Omega.{arith}
use lib.ListN.{length, take}
use lib.Seq.{length-take-le}
use Rattle.responder.specs.Wanted.{wanted}
use Rattle.responder.specs.Bounds.{enough}
use Rattle.responder.proofs.SizeLaws.{enough_is}
use Rattle.responder.proofs.InputBound.{wanted_bounded}

-- n bytes are there, in a space for all that can matter
module _ (input : List ℕ) {n : ℕ} (within : n ≤ enough) (room : enough ≤ length input) where
  pub front : n ≡ length (take n input)
  front = sym (length-take-le n input (omega (arith, within, room)))

  -- all that are wanted have room
  module _ {more : ℕ} (all : more ≡ wanted (take n input)) where
    within_all : n + more ≤ enough
    within_all = omega (arith, all, front, wanted_bounded (take n input) (omega (arith, front, within)))

    pub end_fits : n + more < 2 ^ 64
    end_fits = omega (arith, within_all, enough_is)

    pub end_room : n + more ≤ length input
    end_room = omega (arith, within_all, room)

  -- and those that come
  module _ {got : ℕ} (some : got ≤ wanted (take n input)) where
    pub next_within : n + got ≤ enough
    next_within = omega (arith, some, within_all refl)

    pub next_fits : n + got < 2 ^ 64
    next_fits = omega (arith, next_within, enough_is)

    pub fewer_left : 0 < got → enough - (n + got) < enough - n
    fewer_left one = omega (arith, next_within, one)
