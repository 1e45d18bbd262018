-- Replies to commits.
use Rattle.std.specs.Prelude.{◌≡◌, ◌≢◌, ℕ, ◌+◌, ◌<◌, List, ◌++◌, length, Result, Ok, Err, None, MatchResult, OnOk, IfErr}
use mathlib.Core.List.{IsPrefix}
use Rattle.tas_movie.specs.declared.edit.Edit.{Edit}
use Rattle.tas_published.specs.declared.entry.Entry.{Entry}
use Rattle.tas_session.specs.declared.replies.Receipt.{Receipt}
use Rattle.tas_session.specs.declared.replies.CommitError.{CommitError}
use Rattle.tas_session.specs.declared.replies.CommitError.TheVariants.{Moved, Refused}
use Rattle.tas_session.specs.declared.replies.EditError.TheVariants.{Memory}
use Rattle.tas_published.specs.History.{movie_of}
use Rattle.tas_published.specs.Strokes.{entries_by, edited_by, refusal_in}
use Rattle.tas_session.specs.Commits.{commit_refusal_at, IsCommitError}
use Rattle.tas_desk.specs.Seats.{SeatContent, seat_of}

-- what an answer says of the length of the history at which it is given, where the caller says that there are `at` edits: a receipt says
-- that there are `at`, and `Moved` that there are another number, and which
abbrev pub TellsLength : ℕ → ℕ → Result Receipt CommitError → Type 0
TellsLength at long (Ok receipt) = long ≡ at
TellsLength at long (Err (Moved told)) = (told ≡ long) × (long ≢ at)
TellsLength at long (Err (Refused error)) = Unit {0}

-- the answer to edits that were made as one step, or not: it is given at a history that begins with what the seat had seen. Where they
-- were made, this history has `at` entries, its movie allows the edits, one after the other, and the seat's front is this history and
-- the edits, as the seat's next entries; else the front is this history, and the seat made nothing. Memory is refused only where there is an edit
pub record IsCommitted {A : Type 0} (before now : SeatContent A) (at : ℕ) (edits : List (Edit A)) (answer : Result Receipt CommitError) : Type 0 where
  pub history : List (Entry A)
  pub begins : IsPrefix before.front history
  pub tells : TellsLength at (length history) answer
  pub receipt : MatchResult answer (λ receipt. receipt ≡ record { at = length history + length edits; len = length (edited_by (movie_of history) edits).inputs }) (λ _. Unit {0})
  pub refusal : MatchResult answer
      (λ _. commit_refusal_at history before.number before.made at edits ≡ None)
      (IsCommitError (commit_refusal_at history before.number before.made at edits))
  pub memory : IfErr answer (λ error. error ≡ Refused Memory → 0 < length edits)
  pub allowed : OnOk answer (refusal_in (movie_of history) edits ≡ None)
  pub seat : MatchResult answer
      (λ _. now ≡ seat_of before.number (before.made + length edits) (history ++ entries_by before.number before.made edits) before.zone)
      (λ _. now ≡ seat_of before.number before.made history before.zone)
