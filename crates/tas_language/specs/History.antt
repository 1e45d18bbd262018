-- The lines of a history: each edit as the lines of a script that make it.
use Rattle.std.specs.Prelude.{◌≡◌, ℕ, ◌+◌, ◌==◌, List, [], ◌∷◌, ◌++◌, length, true, if◌then◌else◌, codes, decimal, Some}
use Rattle.std.specs.List.{flat_map}
use Rattle.vcs_inputs.specs.Cart.{is_cart_size}
use Rattle.vcs_inputs.specs.Input.{no_input}
use Rattle.vcs_inputs.specs.declared.input.Input.{Input}
use Rattle.tas_movie.specs.declared.edit.Edit.{Edit}
use Rattle.tas_movie.specs.declared.edit.Edit.TheVariants as edit
use Rattle.tas_movie.specs.declared.run.FrameRun.{FrameRun}
use Rattle.tas_movie.specs.Runs.{runs_of}
use Rattle.tas_movie.specs.Text.{line}
use Rattle.tas_language.specs.declared.change.Change.{Change}
use Rattle.tas_language.specs.declared.change.Change.TheVariants.{Insert, Replace, Delete}
use Rattle.tas_language.specs.declared.image.Image.{Image}
use Rattle.tas_language.specs.declared.image.Image.TheVariants.{Large, Small}
use Rattle.tas_language.specs.declared.command.Command.{Command}
use Rattle.tas_language.specs.declared.command.Command.TheVariants.{Load, Edit as Edits, Length, InputAt, Shot, Work}
use Rattle.tas_language.specs.declared.request.Request.TheVariants.{Do}
use Rattle.tas_language.specs.Commands.{change_text, frames_text}
use Rattle.tas_language.specs.Parts.{IsBytes, part_text}
use Rattle.tas_language.specs.Requests.{IsHeard}

-- ---- the commands that make an edit

-- the image of a cartridge's bytes
abbrev pub image_of : List ℕ → Image
image_of cart = if length cart == 2048 then Small cart else Large cart

-- the runs of equal frames of some inputs; of none one run of no frames
abbrev pub some_runs_of : List Input → List FrameRun
some_runs_of [] = record { input = no_input; count = 0 } ∷ []
some_runs_of (input ∷ inputs) = runs_of (input ∷ inputs)

-- a command for each of some runs, at the place where the one before it ends
abbrev pub commands_of_runs : (ℕ → ℕ → Input → Change) → ℕ → List FrameRun → List Command
commands_of_runs change at [] = []
commands_of_runs change at (run ∷ runs) = Edits (change at run.count run.input) ∷ commands_of_runs change (at + run.count) runs

-- the commands that make an edit: one for each run of its frames
abbrev pub edit_commands : {A : Type 0} → Edit A → List Command
edit_commands (edit.Load cart) = Load (image_of cart) ∷ []
edit_commands (edit.Insert at inputs) = commands_of_runs Insert at (some_runs_of inputs)
edit_commands (edit.Replace at inputs) = commands_of_runs Replace at (some_runs_of inputs)
edit_commands (edit.Delete at count) = Edits (Delete at count) ∷ []

-- ---- their lines

-- the line that loads an image by one part, which is the whole image
abbrev pub load_text : Image → List ℕ
load_text (Large bytes) = codes "load" ++ part_text (record { offset = 0; bytes = bytes })
load_text (Small bytes) = codes "load2" ++ part_text (record { offset = 0; bytes = bytes })

-- a line of a command, without its newline
abbrev pub command_text : Command → List ℕ
command_text (Load image) = load_text image
command_text (Edits change) = change_text change
command_text Length = codes "len"
command_text (InputAt frame) = codes "input " ++ decimal frame
command_text (Shot frame) = codes "shot " ++ decimal frame
command_text (Work frames) = codes "work " ++ decimal frames

-- the lines of the commands that make an edit, each after the same prefix
abbrev pub edit_lines : {A : Type 0} → List ℕ → Edit A → List ℕ
edit_lines prefix edit = flat_map (λ command. line (prefix ++ command_text command)) (edit_commands edit)

-- the lines of an entry of a history: its number and its seat are the prefix
abbrev pub entry_text : {A : Type 0} → ℕ → ℕ → Edit A → List ℕ
entry_text number seat edit = edit_lines (decimal number ++ codes " " ++ decimal seat ++ codes " ") edit

-- the lines of some runs, each beginning with this prefix and word, at the place where the one before it ends
abbrev pub run_lines : List ℕ → List ℕ → ℕ → List FrameRun → List ℕ
run_lines prefix word at [] = []
run_lines prefix word at (run ∷ runs) = line (prefix ++ (word ++ frames_text at run.count run.input)) ++ run_lines prefix word (at + run.count) runs

-- ---- what is said of them

-- a cartridge has 2,048 or 4,096 bytes
abbrev pub IsCartridge : List ℕ → Type 0
IsCartridge bytes = (is_cart_size (length bytes) ≡ true) × IsBytes bytes

-- what an edit loads is a cartridge
abbrev pub LoadsCartridge : {A : Type 0} → Edit A → Type 0
LoadsCartridge (edit.Load cart) = IsCartridge cart
LoadsCartridge (edit.Insert at inputs) = Unit {0}
LoadsCartridge (edit.Replace at inputs) = Unit {0}
LoadsCartridge (edit.Delete at count) = Unit {0}

-- a conversation hears each of some commands from its line
unfoldable pub AreHeard : List Command → Type 0
AreHeard [] = Unit {0}
AreHeard (command ∷ commands) = IsHeard (command_text command) (Some (Do command)) × AreHeard commands
