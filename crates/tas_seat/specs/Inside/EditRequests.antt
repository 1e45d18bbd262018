-- The edits that lines ask for, on an allocator. Private functions cite this file.
use Rattle.std.specs.Prelude.{Option, None}
use Rattle.tas_movie.specs.Content.{MovieContent}
use Rattle.tas_movie.specs.declared.edit.Edit.{Edit}
use Rattle.tas_movie.specs.declared.edit.EditRefusal.{EditRefusal}
use Rattle.tas_movie.specs.Edit.{refusal}
use Rattle.tas_language.specs.Commands.{image_bytes}
use Rattle.tas_engines.specs.Changes.{edit_on, edit_of, BringsCopies}
use Rattle.tas_engines.specs.Retouching.{retouch_on, retouch_refusal}
use Rattle.tas_seat.specs.declared.edit_requests.EditRequest.{EditRequest}
use Rattle.tas_seat.specs.declared.edit_requests.EditRequest.TheVariants.{Load, Change, Retouch}
use Rattle.tas_seat.specs.Edits.{load_on}

-- why a movie refuses the edit that is asked for, where it does
abbrev pub requested_refusal : EditRequest → MovieContent → Option EditRefusal
requested_refusal (Load image) movie = None
requested_refusal (Change change) movie = refusal movie (edit_of change)
requested_refusal (Retouch retouch) movie = retouch_refusal movie retouch

-- the edit that it is in a movie
abbrev pub requested_edit : (A : Type 0) → EditRequest → MovieContent → Edit A
requested_edit A (Load image) movie = load_on A (image_bytes image)
requested_edit A (Change change) movie = edit_on A change
requested_edit A (Retouch retouch) movie = retouch_on A movie.inputs retouch

-- an edit for which memory may be refused: any but a deletion
abbrev pub TakesMemory : EditRequest → Type 0
TakesMemory (Load image) = Unit {0}
TakesMemory (Change change) = BringsCopies change
TakesMemory (Retouch retouch) = Unit {0}
