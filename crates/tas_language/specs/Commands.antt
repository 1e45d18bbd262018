-- The lines of a script.
use Rattle.std.specs.Prelude.{◌≡◌, ℕ, ◌≤◌, List, ◌∷◌, ◌++◌, codes, decimal}
use Rattle.tas_movie.specs.Text.{frame_text}
use Rattle.vcs_inputs.specs.declared.input.Input.{Input}
use Rattle.tas_language.specs.declared.command.Command.{Command}
use Rattle.tas_language.specs.declared.command.Command.TheVariants.{Load, Edit, Length, InputAt, Shot, Work}
use Rattle.tas_language.specs.declared.change.Change.{Change}
use Rattle.tas_language.specs.declared.change.Change.TheVariants.{Insert, Replace, Delete}
use Rattle.tas_language.specs.declared.image.Image.{Image}
use Rattle.tas_language.specs.declared.image.Image.TheVariants.{Large, Small}
use Rattle.tas_language.specs.Parts.{IsImageOf}

-- the greatest number: seven digits
abbrev pub most_number : ℕ
most_number = 9999999

-- a number of one to seven digits
abbrev pub IsNumber : ℕ → Type 0
IsNumber n = n ≤ most_number

-- two numbers with one space between
abbrev pub pair_text : ℕ → ℕ → List ℕ
pair_text at count = decimal at ++ 32 ∷ decimal count

-- three numbers with one space between
abbrev pub triple_text : ℕ → ℕ → ℕ → List ℕ
triple_text a b c = decimal a ++ 32 ∷ pair_text b c

-- a place, a count and a frame, with one space between
abbrev pub frames_text : ℕ → ℕ → Input → List ℕ
frames_text at count input = decimal at ++ 32 ∷ (decimal count ++ 32 ∷ frame_text input)

-- the line of a change, without its newline
abbrev pub change_text : Change → List ℕ
change_text (Insert at count input) = codes "insert " ++ frames_text at count input
change_text (Replace at count input) = codes "replace " ++ frames_text at count input
change_text (Delete at count) = codes "delete " ++ pair_text at count

-- its numbers have one to seven digits
abbrev pub HasNumbers : Change → Type 0
HasNumbers (Insert at count input) = IsNumber at × IsNumber count
HasNumbers (Replace at count input) = IsNumber at × IsNumber count
HasNumbers (Delete at count) = IsNumber at × IsNumber count

-- the line says this change
abbrev pub IsChangeLine : List ℕ → Change → Type 0
IsChangeLine said change = (said ≡ change_text change) × HasNumbers change

-- an image's bytes
abbrev pub image_bytes : Image → List ℕ
image_bytes (Large bytes) = bytes
image_bytes (Small bytes) = bytes

-- the line loads this image: by the parts after `load`, or after `load2` where the cartridge is small
abbrev pub Loads : List ℕ → Image → Type 0
Loads said (Large image) = (parts : List ℕ) × (said ≡ codes "load" ++ parts) × IsImageOf 4096 parts image
Loads said (Small image) = (parts : List ℕ) × (said ≡ codes "load2" ++ parts) × IsImageOf 2048 parts image

-- the line, without its newline, is this command: its words are parted by one space, a number is decimal
-- without leading zeros
abbrev pub Says : List ℕ → Command → Type 0
Says said (Load image) = Loads said image
Says said (Edit change) = IsChangeLine said change
Says said Length = said ≡ codes "len"
Says said (InputAt frame) = (said ≡ codes "input " ++ decimal frame) × IsNumber frame
Says said (Shot frame) = (said ≡ codes "shot " ++ decimal frame) × IsNumber frame
Says said (Work frames) = (said ≡ codes "work " ++ decimal frames) × IsNumber frames
