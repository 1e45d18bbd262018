-- Commits: strokes that become one step of a session's history.
use Rattle.std.specs.Prelude.{◌≡◌, ℕ, ◌+◌, ◌==◌, nat_lt, List, [], ◌∷◌, ◌++◌, length, fold, map, if◌then◌else◌, Option, Some, None}
use Rattle.tas_movie.specs.Content.{MovieContent}
use Rattle.tas_movie.specs.declared.edit.Edit.{Edit}
use Rattle.tas_movie.specs.declared.edit.EditRefusal.{EditRefusal}
use Rattle.tas_movie.specs.Edit.{refusal, edited, first_refusal}
use Rattle.tas_published.specs.declared.entry.Entry.{Entry}
use Rattle.tas_published.specs.declared.stroke.Stroke.{Stroke}
use Rattle.tas_published.specs.declared.stroke.Stroke.TheVariants.{Nothing, One, Two}
use Rattle.tas_session.specs.declared.replies.EditError.{EditError}
use Rattle.tas_session.specs.declared.replies.EditError.TheVariants.{Serial, Full, Place, Long, Memory}
use Rattle.tas_session.specs.declared.replies.CommitError.{CommitError}
use Rattle.tas_session.specs.declared.replies.CommitError.TheVariants.{Moved, Refused}
use Rattle.tas_published.specs.History.{most_edits, entries_of, movie_of}
use Rattle.tas_published.specs.Strokes.{refusal_in}
use Rattle.tas_session.specs.Session.{SessionContent, error_at, after_entry}
use Rattle.tas_published.specs.History.{IsNextEntry}

-- the session after entries, one after the other
abbrev pub after_entries : {A : Type 0} → SessionContent A → List (Entry A) → SessionContent A
after_entries session entries = fold after_entry session entries

-- a refusal of an edit as one of a stroke
abbrev pub refused_as : Option EditError → Option CommitError
refused_as None = None
refused_as (Some error) = Some (Refused error)

-- why edits of a seat, which says that it has made this many and that the history has `at` edits, are refused as one step, where they
-- are: first where the history has another number of the seat's entries, then where it has another number of entries, then where it
-- has no room for all of the edits, then where the movie refuses one of them
abbrev pub commit_refusal : {A : Type 0} → List (Entry A) → MovieContent → ℕ → ℕ → ℕ → List (Edit A) → Option CommitError
commit_refusal history movie seat made at edits =
    if entries_of seat history == made then
    (if length history == at then
    (if nat_lt most_edits (length history + length edits) then Some (Refused (Full (length history)))
    else refused_as (error_at (length history) (refusal_in movie edits)))
    else Some (Moved (length history)))
    else Some (Refused (Serial (length history) (entries_of seat history)))

-- the same of a history alone
abbrev pub commit_refusal_at : {A : Type 0} → List (Entry A) → ℕ → ℕ → ℕ → List (Edit A) → Option CommitError
commit_refusal_at history seat made at edits = commit_refusal history (movie_of history) seat made at edits

-- an error of a commit is being out of memory, where nothing else refuses it, or just what refuses it
abbrev pub IsCommitError : Option CommitError → CommitError → Type 0
IsCommitError found (Moved at) = found ≡ Some (Moved at)
IsCommitError found (Refused Memory) = found ≡ None
IsCommitError found (Refused (Serial at counted)) = found ≡ Some (Refused (Serial at counted))
IsCommitError found (Refused (Full at)) = found ≡ Some (Refused (Full at))
IsCommitError found (Refused (Place at place len)) = found ≡ Some (Refused (Place at place len))
IsCommitError found (Refused (Long at len)) = found ≡ Some (Refused (Long at len))
