-- What a line of a names file says.
use Rattle.std.specs.Prelude.{◌≡◌, ℕ, ◌<◌, ◌≤◌, true, List, ◌∷◌, ◌++◌}
use Rattle.byte_text.specs.Digits.{hex_byte}
use Rattle.tas_engines.specs.declared.names.NamesError.{NamesError}
use Rattle.tas_engines.specs.declared.names.NamesError.TheVariants.{Memory, Line}
use Rattle.tas_engines.specs.NamesFile.{IsWrong, is_name}
use Rattle.tas_engines.specs.Names.{Names}

-- the line, without its newline, gives this name and this address, after these names
pub record Gives (names : Names) (line name : List ℕ) (at : ℕ) : Type 0 where
  pub is : line ≡ name ++ 32 ∷ hex_byte at
  pub name_is : is_name names name ≡ true
  pub low : 128 ≤ at
  pub high : at < 256

-- the line, without its newline, is wrong, and it is the one of this number
abbrev pub IsWrongLine : Names → ℕ → List ℕ → NamesError → Type 0
IsWrongLine names number said Memory = ⊥
IsWrongLine names number said (Line at kind) = (at ≡ number) × IsWrong names said kind
