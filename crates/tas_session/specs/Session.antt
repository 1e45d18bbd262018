-- A session as contracts see it.
use Rattle.std.specs.Prelude.{◌≡◌, ℕ, ◌==◌, ◌<◌, ◌≤◌, List, [], ◌∷◌, ◌++◌, length, filter, if◌then◌else◌, Option, Some, None}
use Rattle.logbook.specs.Pages.{Book}
use Rattle.tas_movie.specs.Content.{MovieContent}
use Rattle.tas_movie.specs.declared.edit.Edit.{Edit}
use Rattle.tas_movie.specs.declared.edit.EditRefusal.{EditRefusal}
use Rattle.tas_movie.specs.declared.edit.EditRefusal.TheVariants.{Place as PlaceRefusal, Long as LongRefusal}
use Rattle.tas_movie.specs.Edit.{refusal, edited, edited_place}
use Rattle.tas_green.specs.declared.savestate.Savestate.{Savestate}
use Rattle.tas_green.specs.Green.{IsLawful, is_left}
use Rattle.tas_published.specs.declared.entry.Entry.{Entry}
use Rattle.tas_session.specs.declared.replies.EditError.{EditError}
use Rattle.tas_session.specs.declared.replies.EditError.TheVariants.{Serial, Full, Place, Long, Memory}
use Rattle.tas_published.specs.History.{most_edits, IsLegal, IsLegalEntry, movie_of, entries_of}

-- the registry of the histories that were published, the history, the movie, and the kept states
pub record SessionContent (A : Type 0) : Type 0 where
  pub registry : Book
  pub journal : List (Entry A)
  pub movie : MovieContent
  pub zone : List Savestate

-- what every session keeps: the history is legal and has at most this many entries, the movie is the history's, and the
-- kept states are lawful for it
pub record IsSound {A : Type 0} (history : List (Entry A)) (content : MovieContent) (kept : List Savestate) : Type 0 where
  pub legal : IsLegal history
  pub most : length history ≤ most_edits
  pub movie_is : content ≡ movie_of history
  pub lawful : IsLawful content kept

-- a refusal of an edit, with the number of edits before it
abbrev pub error_at : ℕ → Option EditRefusal → Option EditError
error_at at None = None
error_at at (Some (PlaceRefusal place len)) = Some (Place at place len)
error_at at (Some (LongRefusal len)) = Some (Long at len)

-- why an edit of a seat that says it has made this many is refused, where it is: first where the history has another
-- number of the seat's entries, then where the history is full, then where the movie refuses it
abbrev pub refusal_by : {A : Type 0} → List (Entry A) → ℕ → ℕ → Option EditRefusal → Option EditError
refusal_by history seat made refused =
    if entries_of seat history == made then
    (if length history == most_edits then Some (Full (length history)) else error_at (length history) refused)
    else Some (Serial (length history) (entries_of seat history))

-- the same of an edit of this movie
abbrev pub refusal_of : {A : Type 0} → List (Entry A) → MovieContent → ℕ → ℕ → Edit A → Option EditError
refusal_of history movie seat made edit = refusal_by history seat made (refusal movie edit)

abbrev pub edit_refusal : {A : Type 0} → SessionContent A → ℕ → ℕ → Edit A → Option EditError
edit_refusal session seat made edit = refusal_of session.journal session.movie seat made edit

-- the same of a history alone
abbrev pub refusal_at : {A : Type 0} → List (Entry A) → ℕ → ℕ → Edit A → Option EditError
refusal_at history seat made edit = refusal_of history (movie_of history) seat made edit

-- an error of an edit is being out of memory, where nothing else refuses it, or just what refuses it
abbrev pub IsEditError : Option EditError → EditError → Type 0
IsEditError found Memory = found ≡ None
IsEditError found (Serial at counted) = found ≡ Some (Serial at counted)
IsEditError found (Full at) = found ≡ Some (Full at)
IsEditError found (Place at place len) = found ≡ Some (Place at place len)
IsEditError found (Long at len) = found ≡ Some (Long at len)

-- which states an edit of a movie leaves: exactly those up to the edited place on the grid of the new length
abbrev pub left_by : {A : Type 0} → MovieContent → Edit A → List Savestate → List Savestate
left_by movie edit zone = filter (is_left (edited_place edit) (length (edited movie edit).inputs)) zone

-- the session after an entry: the entry stands at the history's end, the movie is the edited one, and exactly those states are
-- left that the edit leaves
abbrev pub after_entry : {A : Type 0} → SessionContent A → Entry A → SessionContent A
after_entry session entry = record {
  registry = session.registry;
  journal = session.journal ++ entry ∷ [];
  movie = edited session.movie entry.edit;
  zone = left_by session.movie entry.edit session.zone;
}
