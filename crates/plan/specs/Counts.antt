-- What the contracts of the program say of the bytes that it keeps.
use Rattle.std.specs.Prelude.{◌≡◌, ℕ, ◌≤◌, List, length, take}

-- So many bytes are at the front of the space, and `&space[..n]` is in bounds. The second part follows from the first.
abbrev pub IsPrefixLen : ℕ → List ℕ → Type 0
IsPrefixLen n space = (n ≤ length space) × (n ≡ length (take n space))
