-- Histories of edits.
use Rattle.std.specs.Prelude.{◌≡◌, ℕ, ◌<◌, ◌==◌, List, [], ◌∷◌, ◌++◌, count_by, length}
use Rattle.tas_movie.specs.Content.{MovieContent, blank_movie}
use Rattle.tas_movie.specs.Edit.{IsAllowed, edited}
use Rattle.tas_published.specs.declared.entry.Entry.{Entry}

-- how many edits a history has at most
abbrev pub most_edits : ℕ
most_edits = 1000000

-- the greatest number of a count, which more would leave as it is
abbrev pub most_counted : ℕ
most_counted = 18446744073709551615

-- a movie after the edits of some entries, one after the other
unfoldable pub movie_from : {A : Type 0} → MovieContent → List (Entry A) → MovieContent
movie_from movie [] = movie
movie_from movie (entry ∷ entries) = movie_from (edited movie entry.edit) entries

-- the movie of a history, which starts from the blank one
abbrev pub movie_of : {A : Type 0} → List (Entry A) → MovieContent
movie_of history = movie_from blank_movie history

-- how many entries of a seat a history has
abbrev pub entries_of : {A : Type 0} → ℕ → List (Entry A) → ℕ
entries_of seat history = count_by (λ entry. entry.seat == seat) history

-- an entry is legal after a history: its edit is allowed there, and its serial is the number of its seat's entries before it
pub record IsLegalEntry {A : Type 0} (history : List (Entry A)) (entry : Entry A) : Type 0 where
  pub allowed : IsAllowed (movie_of history) entry.edit
  pub serial : entry.serial ≡ entries_of entry.seat history

-- a history is legal: each entry is legal where it stands
abbrev pub IsLegal : {A : Type 0} → List (Entry A) → Type 0
IsLegal {A} history = (before : List (Entry A)) (entry : Entry A) (rest : List (Entry A)) → history ≡ before ++ entry ∷ rest → IsLegalEntry before entry

-- an entry can come next
pub record IsNextEntry {A : Type 0} (history : List (Entry A)) (entry : Entry A) : Type 0 where
  pub legal : IsLegalEntry history entry
  pub room : length history < most_edits
