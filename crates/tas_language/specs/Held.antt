-- What is held of a line that comes in pieces.
use Rattle.std.specs.Prelude.{◌≡◌, ℕ, ◌<◌, ◌≤◌, List, length, Bool, true, false}
use Rattle.tas_language.specs.Requests.{most_bytes}

-- these bytes are what was said so far; or it is too long, and nothing is held but this
abbrev pub HoldsLine : List ℕ → List ℕ → Bool → Type 0
HoldsLine said bytes false = (bytes ≡ said) × (length said ≤ most_bytes)
HoldsLine said bytes true = most_bytes < length said
