-- The edits that lines ask for. A is the allocator of the edits, on which no answer depends.
use Rattle.std.specs.Prelude.{ℕ, ◌==◌, List, [], ◌∷◌, if◌then◌else◌}
use Rattle.tas_movie.specs.Content.{MovieContent}
use Rattle.tas_movie.specs.declared.edit.Edit.{Edit}
use Rattle.tas_movie.specs.declared.edit.Edit.TheVariants.{Load as LoadEdit}
use Rattle.tas_language.specs.declared.command.Command.{Command}
use Rattle.tas_language.specs.declared.command.Command.TheVariants.{Load, Edit as EditLine}
use Rattle.tas_language.specs.declared.request.Request.{Request}
use Rattle.tas_language.specs.declared.request.Request.TheVariants.{Do, Retouch}
use Rattle.tas_language.specs.Commands.{image_bytes}
use Rattle.tas_engines.specs.Changes.{edit_on}
use Rattle.tas_engines.specs.Retouching.{retouch_on}
use Rattle.tas_seat.specs.Turns.{Standing}

-- the edit that loads this cartridge
abbrev pub load_on : (A : Type 0) → List ℕ → Edit A
load_on A image = LoadEdit image

-- the edit that a command asks for: one, or none
abbrev pub edits_by_command : (A : Type 0) → Command → List (Edit A)
edits_by_command A (Load image) = load_on A (image_bytes image) ∷ []
edits_by_command A (EditLine change) = edit_on A change ∷ []
edits_by_command A _ = []

-- the edit that a line asks for where the movie is this: one, or none
abbrev pub requested_edits : (A : Type 0) → MovieContent → Request → List (Edit A)
requested_edits A movie (Do command) = edits_by_command A command
requested_edits A movie (Retouch retouch) = retouch_on A movie.inputs retouch ∷ []
requested_edits A movie _ = []

-- those of them that were made, from what there was before to what there is then
abbrev pub made_between : {A : Type 0} → Standing → Standing → List (Edit A) → List (Edit A)
made_between old new edits = if new.made == old.made then [] else edits
