-- The words of a line.
use Rattle.std.specs.Prelude.{ℕ, ◌<◌, List, length}
use Rattle.byte_text.specs.Splitting.{NoByte}

-- bytes between marks can be a row's words: none is empty, and the last one has no mark
abbrev pub AreWords : (mark : ℕ) → (movie cart digest : List ℕ) → Type 0
AreWords mark movie cart digest = (0 < length movie) × (0 < length cart) × (0 < length digest) × NoByte mark digest
