-- Strokes: edits that become one step of the history.
use Rattle.std.specs.Prelude.{ℕ, ◌+◌, List, [], ◌∷◌, ◌++◌, fold, map, Option, None}
use Rattle.tas_movie.specs.Content.{MovieContent}
use Rattle.tas_movie.specs.declared.edit.Edit.{Edit}
use Rattle.tas_movie.specs.declared.edit.EditRefusal.{EditRefusal}
use Rattle.tas_movie.specs.Edit.{refusal, edited, first_refusal}
use Rattle.tas_published.specs.declared.entry.Entry.{Entry}
use Rattle.tas_published.specs.declared.journal.Step.{Step}
use Rattle.tas_published.specs.declared.journal.Step.TheVariants as step
use Rattle.tas_published.specs.declared.stroke.Stroke.{Stroke}
use Rattle.tas_published.specs.declared.stroke.Stroke.TheVariants.{Nothing, One, Two}
use Rattle.tas_published.specs.History.{IsNextEntry}

-- the edits of a stroke, in order
abbrev pub edits_of : {A : Type 0} → Stroke A → List (Edit A)
edits_of Nothing = []
edits_of (One edit) = edit ∷ []
edits_of (Two edit next) = edit ∷ next ∷ []

-- the edits of entries
abbrev pub edits_in : {A : Type 0} → List (Entry A) → List (Edit A)
edits_in entries = map (λ entry. entry.edit) entries

-- the entries that edits of a seat become which has made this many before: its serials go on from there
abbrev pub entries_by : {A : Type 0} → ℕ → ℕ → List (Edit A) → List (Entry A)
entries_by seat made [] = []
entries_by seat made (edit ∷ edits) = record { seat = seat; serial = made; edit = edit } ∷ entries_by seat (made + 1) edits

-- a movie after edits, one after the other
abbrev pub edited_by : {A : Type 0} → MovieContent → List (Edit A) → MovieContent
edited_by movie edits = fold edited movie edits

-- why a movie refuses edits, where it does: what refuses the first of them that is refused in the movie that those before it leave
abbrev pub refusal_in : {A : Type 0} → MovieContent → List (Edit A) → Option EditRefusal
refusal_in movie [] = None
refusal_in movie (edit ∷ edits) = first_refusal (refusal movie edit) (refusal_in (edited movie edit) edits)

-- entries can come next, one after the other
abbrev pub AreNext : {A : Type 0} → List (Entry A) → List (Entry A) → Type 0
AreNext history [] = Unit {0}
AreNext history (entry ∷ entries) = IsNextEntry history entry × AreNext (history ++ entry ∷ []) entries

-- the entries of a step, in order
abbrev pub entries_in : {A : Type 0} → Step A → List (Entry A)
entries_in (step.One entry) = entry ∷ []
entries_in (step.Two entry next) = entry ∷ next ∷ []
