-- Names of bytes of RAM.
use Rattle.std.specs.Prelude.{ℕ, ◌+◌, ◌-◌, ◌*◌, nat_lt, nat_le, ◌&&◌, if◌then◌else◌, List, [], ◌∷◌, map, slice_index, Option, Some, None}
use Rattle.std.specs.Str.{bytes_eq}
use Rattle.byte_text.specs.Digits.{hex_byte}
use Rattle.tas_engines.specs.declared.name.Name.{Name}

-- the value of an upper case hexadecimal digit
abbrev pub hex_value : ℕ → ℕ
hex_value b = if nat_lt b 58 then b - 48 else b - 55

-- what two upper case hexadecimal digits write, the high one first
abbrev pub digits_address : List ℕ → ℕ
digits_address w = 16 * hex_value (slice_index w 0) + hex_value (slice_index w 1)

-- an address of RAM, 80 to FF, in two such digits
abbrev pub address_of : List ℕ → Option ℕ
address_of w = let at = digits_address w in if nat_le 128 at && nat_lt at 256 && bytes_eq w (hex_byte at) then Some at else None

-- names, each with its address
abbrev pub Names : Type 0
Names = List (List ℕ × ℕ)

abbrev pub names_of : {Z : Type 0} → List (Name Z) → Names
names_of names = map (λ n. (n.text.items, n.address)) names

-- the address of a name
abbrev pub named : Names → List ℕ → Option ℕ
named [] w = None
named (n ∷ names) w = if bytes_eq n.0 w then Some n.1 else named names w
