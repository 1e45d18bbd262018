-- Names files, and why a text is none.
use Rattle.std.specs.Prelude.{◌≡◌, ℕ, ◌+◌, ◌<◌, ◌≤◌, ◌==◌, Bool, true, false, not, ◌&&◌, ◌||◌, List, [], ◌∷◌, ◌++◌, length, codes, is_none, None, Some}
use Rattle.std.specs.Char.{is_ascii_digit, is_ascii_alphanumeric}
use Rattle.std.specs.List.{flat_map, list_all}
use Rattle.std.specs.Str.{bytes_eq}
use Rattle.byte_text.specs.Digits.{hex_byte}
use Rattle.byte_text.specs.Splitting.{NoByte}
use Rattle.tas_movie.specs.Text.{line}
use Rattle.tas_engines.specs.declared.names.NamesError.{NamesError}
use Rattle.tas_engines.specs.declared.names.NamesError.TheVariants.{Memory, Line}
use Rattle.tas_engines.specs.declared.names.NamesFaultKind.{NamesFaultKind}
use Rattle.tas_engines.specs.declared.names.NamesFaultKind.TheVariants.{End, Space, Address, Name}
use Rattle.tas_engines.specs.Names.{Names, address_of, named}

-- the line of a name: a space, and its address in two upper case hexadecimal digits
abbrev pub name_line : List ℕ × ℕ → List ℕ
name_line n = line (n.0 ++ 32 ∷ hex_byte n.1)

-- a letter, a digit or `_`
abbrev pub is_name_byte : ℕ → Bool
is_name_byte b = is_ascii_alphanumeric b || b == 95

-- one or more of them, the first of which is no digit
abbrev pub is_identifier : List ℕ → Bool
is_identifier [] = false
is_identifier (b ∷ bytes) = not (is_ascii_digit b) && list_all is_name_byte (b ∷ bytes)

-- one of the words of goals that look like names
abbrev pub is_reserved : List ℕ → Bool
is_reserved w = bytes_eq w (codes "not") || bytes_eq w (codes "and") || bytes_eq w (codes "or")

-- after these names this can be one, too: it is no word of goals, no address and none of these names
abbrev pub is_name : Names → List ℕ → Bool
is_name names w = is_identifier w && not (is_reserved w) && is_none (address_of w) && is_none (named names w)

-- a further name, and an address of RAM
pub record IsNew (names : Names) (n : List ℕ × ℕ) : Type 0 where
  pub is : is_name names n.0 ≡ true
  pub low : 128 ≤ n.1
  pub high : n.1 < 256

-- the same of further names, one after the other
abbrev pub AreNew : Names → Names → Type 0
AreNew names [] = Unit {0}
AreNew names (n ∷ more) = IsNew names n × AreNew (names ++ n ∷ []) more

-- the text is that of these names
pub record AreNames (text : List ℕ) (names : Names) : Type 0 where
  pub is : text ≡ flat_map name_line names
  pub new : AreNew [] names

-- what is wrong with a line, without its newline, after these names: it has no space; after its first space no address; or before it what can be no name
abbrev pub IsWrong : Names → List ℕ → NamesFaultKind → Type 0
IsWrong names line End = ⊥
IsWrong names line Space = NoByte 32 line
IsWrong names line Address = (name : List ℕ) × (digits : List ℕ) × (line ≡ name ++ 32 ∷ digits) × NoByte 32 name × (address_of digits ≡ None)
IsWrong names line Name = (name : List ℕ) × (digits : List ℕ) × (at : ℕ) × (line ≡ name ++ 32 ∷ digits) × NoByte 32 name × (address_of digits ≡ Some at) × (is_name names name ≡ false)

-- what is wrong with the first line of the rest of a text: nothing ends it, or it is wrong
abbrev pub IsLineFault : Names → List ℕ → NamesFaultKind → Type 0
IsLineFault names rest End = (0 < length rest) × NoByte 10 rest
IsLineFault names rest kind = (first : List ℕ) × (after : List ℕ) × (rest ≡ first ++ 10 ∷ after) × NoByte 10 first × IsWrong names first kind

-- why the text is no names file: the lines before the one at fault are those of names
pub record IsNamesFault (text : List ℕ) (number : ℕ) (kind : NamesFaultKind) : Type 0 where
  pub names : Names
  pub rest : List ℕ
  pub is : text ≡ flat_map name_line names ++ rest
  pub new : AreNew [] names
  pub place : number ≡ length names + 1
  pub fault : IsLineFault names rest kind

abbrev pub IsNamesError : List ℕ → NamesError → Type 0
IsNamesError text Memory = Unit {0}
IsNamesError text (Line number kind) = IsNamesFault text number kind
