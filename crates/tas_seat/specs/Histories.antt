-- A conversation, as the history shows it that its desk leaves.
use Rattle.std.specs.Prelude.{◌≡◌, ℕ, ◌==◌, List, ◌++◌, length, filter}
use mathlib.Core.List.{IsPrefix}
use Rattle.tas_movie.specs.declared.edit.Edit.{Edit}
use Rattle.tas_published.specs.declared.entry.Entry.{Entry}
use Rattle.tas_desk.specs.Seats.{SeatContent}
use Rattle.tas_seat.specs.Seats.{entries_from}

-- a seat's entries of a history, in order
abbrev pub entries_of_seat : {A : Type 0} → ℕ → List (Entry A) → List (Entry A)
entries_of_seat seat history = filter (λ entry. entry.seat == seat) history

-- a history begins with all that a seat has seen; and of the seat it has just the entries that it had seen when it began, and then the
-- edits that it made, in order
pub record IsInHistory {A : Type 0} (history : List (Entry A)) (start last : SeatContent A) (edits : List (Edit A)) : Type 0 where
  pub begins : IsPrefix last.front history
  pub number : last.number ≡ start.number
  pub own : entries_of_seat start.number history ≡ entries_of_seat start.number start.front ++ entries_from start.number start.made edits
  pub before : length (entries_of_seat start.number start.front) ≡ start.made
