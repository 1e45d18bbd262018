-- The edits that the lines of a script ask for.
use Rattle.std.specs.Prelude.{List, [], ◌∷◌, replicate}
use Rattle.tas_movie.specs.declared.edit.Edit.{Edit}
use Rattle.tas_movie.specs.declared.edit.Edit.TheVariants as edit
use Rattle.tas_movie.specs.Content.{MovieContent}
use Rattle.tas_movie.specs.Edit.{edited, IsAllowed}
use Rattle.tas_language.specs.declared.change.Change.{Change}
use Rattle.tas_language.specs.declared.change.Change.TheVariants.{Insert, Replace, Delete}
use Rattle.tas_language.specs.declared.command.Command.{Command}
use Rattle.tas_language.specs.declared.command.Command.TheVariants.{Load, Edit as Edits, Length, InputAt, Shot, Work}
use Rattle.tas_language.specs.Commands.{image_bytes}

-- an edit's content. Edits on other allocators have the same, and no answer depends on which it is
abbrev pub EditContent : Type 0
EditContent = Edit (Unit {0})

-- the edit that a change asks for, on an allocator
abbrev pub edit_on : (A : Type 0) → Change → Edit A
edit_on A (Insert at count input) = edit.Insert at (replicate count input)
edit_on A (Replace at count input) = edit.Replace at (replicate count input)
edit_on A (Delete at count) = edit.Delete at count

-- its content
abbrev pub edit_of : Change → EditContent
edit_of change = edit_on (Unit {0}) change

-- the edits that a command asks for: one, or none where it only looks
abbrev pub edits_of : Command → List EditContent
edits_of (Load image) = edit.Load (image_bytes image) ∷ []
edits_of (Edits change) = edit_of change ∷ []
edits_of Length = []
edits_of (InputAt frame) = []
edits_of (Shot frame) = []
edits_of (Work frames) = []

-- the movie after some edits, one after the other
unfoldable pub edited_by : MovieContent → List EditContent → MovieContent
edited_by movie [] = movie
edited_by movie (edit ∷ edits) = edited_by (edited movie edit) edits

-- each of some edits is allowed on what those before it made
unfoldable pub AllowsAll : MovieContent → List EditContent → Type 0
AllowsAll movie [] = Unit {0}
AllowsAll movie (edit ∷ edits) = IsAllowed movie edit × AllowsAll (edited movie edit) edits
