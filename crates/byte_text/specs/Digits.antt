-- Upper case hexadecimal digits, as bytes.
use Rattle.std.specs.Prelude.{ℕ, ◌+◌, ◌/◌, ◌%◌, nat_lt, if◌then◌else◌, List, [], ◌∷◌, ◌++◌}

-- an upper case hexadecimal digit
abbrev pub digit_of : ℕ → ℕ
digit_of n = if nat_lt n 10 then 48 + n else 55 + n

-- a byte as two digits
abbrev pub hex_byte : ℕ → List ℕ
hex_byte b = digit_of (b / 16) ∷ digit_of (b % 16) ∷ []

-- an address as four digits
abbrev pub hex_word : ℕ → List ℕ
hex_word w = hex_byte (w / 256) ++ hex_byte (w % 256)
