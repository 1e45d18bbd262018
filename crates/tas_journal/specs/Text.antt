-- The text of a journal: a head that makes the movie with which it begins, and a line for each accepted edit.
use Rattle.std.specs.Prelude.{ℕ, ◌+◌, ◌<◌, ◌≤◌, ◌^◌, List, [], ◌∷◌, ◌++◌, length, Option, Some, None, codes, decimal}
use Rattle.std.specs.List.{flat_map}
use Rattle.hex.specs.Hex.{encode_lower}
use Rattle.sha2.specs.Sha256.{sha256}
use Rattle.vcs_inputs.specs.declared.input.Input.{Input}
use Rattle.vcs_machine.specs.Machine.{profile}
use Rattle.tas_movie.specs.Content.{MovieContent, most_inputs}
use Rattle.tas_movie.specs.Text.{line, frame_text, text2}
use Rattle.tas_movie.specs.declared.edit.Edit.{Edit}
use Rattle.tas_movie.specs.declared.edit.Edit.TheVariants.{Load, Insert, Replace, Delete}
use Rattle.tas_movie.specs.declared.run.FrameRun.{FrameRun}
use Rattle.tas_language.specs.declared.change.Change.{Change}
use Rattle.tas_language.specs.declared.change.Change.TheVariants as change
use Rattle.tas_language.specs.declared.command.Command.{Command}
use Rattle.tas_language.specs.declared.command.Command.TheVariants as command
use Rattle.tas_language.specs.Commands.{IsNumber, image_bytes, pair_text}
use Rattle.tas_language.specs.History.{image_of, load_text, some_runs_of, IsCartridge}

-- ---- the head

-- the first line
abbrev pub format_line : List ℕ
format_line = codes "a26journal 1\n"

-- the second line: the machine's profile
abbrev pub profile_line : List ℕ
profile_line = codes "profile " ++ decimal profile ++ codes "\n"

-- the third line: how many bytes the movie's text has, which follows, and their SHA-256 as 64 lower case hexadecimal digits
unfoldable pub movie_line : List ℕ → List ℕ
movie_line text = codes "movie " ++ decimal (length text) ++ codes " " ++ encode_lower (sha256 text) ++ codes "\n"

-- the three lines, and the movie's text
abbrev pub head_text : MovieContent → List ℕ
head_text movie = format_line ++ (profile_line ++ (movie_line (text2 movie) ++ text2 movie))

-- ---- the edits

-- a run of equal frames: how many, and the frame
abbrev pub run_words : FrameRun → List ℕ
run_words run = 32 ∷ (decimal run.count ++ 32 ∷ frame_text run.input)

-- some frames, by their runs; of none one run of no frames
abbrev pub frames_words : List Input → List ℕ
frames_words inputs = flat_map run_words (some_runs_of inputs)

-- an edit: as a line of a script, but where it has several runs of frames they all follow the place
abbrev pub edit_text : {A : Type 0} → Edit A → List ℕ
edit_text (Load cart) = load_text (image_of cart)
edit_text (Insert at inputs) = codes "insert " ++ (decimal at ++ frames_words inputs)
edit_text (Replace at inputs) = codes "replace " ++ (decimal at ++ frames_words inputs)
edit_text (Delete at count) = codes "delete " ++ pair_text at count

-- what stands before an edit: its number in the journal, counted from 0, and the seat that made it
abbrev pub entry_front : ℕ → ℕ → List ℕ
entry_front number seat = decimal number ++ codes " " ++ decimal seat ++ codes " "

-- the line of an edit, without its newline
abbrev pub entry_text : {A : Type 0} → ℕ → ℕ → Edit A → List ℕ
entry_text number seat edit = entry_front number seat ++ edit_text edit

-- an accepted edit, and the number of the seat that made it
pub record Entry (A : Type 0) : Type 0 where
  pub seat : ℕ
  pub edit : Edit A

-- the lines of some entries, the first of which has this number
abbrev pub entry_lines : {A : Type 0} → ℕ → List (Entry A) → List ℕ
entry_lines number [] = []
entry_lines number (entry ∷ entries) = line (entry_text number entry.seat entry.edit) ++ entry_lines (number + 1) entries

-- the journal that began with a movie and has these entries
abbrev pub journal_text : {A : Type 0} → MovieContent → List (Entry A) → List ℕ
journal_text movie entries = head_text movie ++ entry_lines 0 entries

-- ---- what an entry may hold

-- places and counts of one to seven digits, no more frames than a movie has at most, and cartridges
abbrev pub Fits : {A : Type 0} → Edit A → Type 0
Fits (Load cart) = IsCartridge cart
Fits (Insert at inputs) = IsNumber at × (length inputs ≤ most_inputs)
Fits (Replace at inputs) = IsNumber at × (length inputs ≤ most_inputs)
Fits (Delete at count) = IsNumber at × IsNumber count

-- a seat's number is below 2^32
abbrev pub IsSeat : ℕ → Type 0
IsSeat seat = seat < 2 ^ 32

-- each of some entries is one of a seat, with an edit that fits
unfoldable pub AreEntries : {A : Type 0} → List (Entry A) → Type 0
AreEntries [] = Unit {0}
AreEntries (entry ∷ entries) = IsSeat entry.seat × Fits entry.edit × AreEntries entries

-- what is known of an edit that was read, before its cartridge is. Private functions cite it
abbrev pub FitsInLine : {A : Type 0} → Edit A → Type 0
FitsInLine (Load cart) = Unit {0}
FitsInLine (Insert at inputs) = IsNumber at × (length inputs ≤ most_inputs)
FitsInLine (Replace at inputs) = IsNumber at × (length inputs ≤ most_inputs)
FitsInLine (Delete at count) = IsNumber at × IsNumber count

-- a command that loads a cartridge or deletes frames, as an edit. Private functions cite it
abbrev pub deletion_of : (A : Type 0) → Change → Option (Edit A)
deletion_of A (change.Insert at count input) = None
deletion_of A (change.Replace at count input) = None
deletion_of A (change.Delete at count) = Some (Delete at count)

abbrev pub edit_of_command : (A : Type 0) → Command → Option (Edit A)
edit_of_command A (command.Load image) = Some (Load (image_bytes image))
edit_of_command A (command.Edit change) = deletion_of A change
edit_of_command A command.Length = None
edit_of_command A (command.InputAt frame) = None
edit_of_command A (command.Shot frame) = None
edit_of_command A (command.Work frames) = None
