-- Bytes in which a byte doesn't occur.
use Rattle.std.specs.Prelude.{◌≡◌, ℕ, List, [], ◌∷◌}

-- a byte doesn't stand in the bytes
abbrev pub NoByte : ℕ → List ℕ → Type 0
NoByte c [] = Unit {0}
NoByte c (b ∷ bytes) = (b ≡ c → ⊥) × NoByte c bytes
