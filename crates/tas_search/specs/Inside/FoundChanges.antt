-- The changes of what a search found.
use Rattle.std.specs.Prelude.{◌≡◌, ℕ, ◌+◌, ◌*◌, ◌≤◌, List, [], length}
use Rattle.tas_movie.specs.Content.{most_inputs}
use Rattle.tas_language.specs.declared.change.Change.{Change}
use Rattle.tas_search.specs.Outcome.{Outcome, best, nothing, stopped}
use Rattle.tas_search.specs.Space.{SpaceContent}
use Rattle.tas_search.specs.AnswerChanges.{answer_changes}

-- a movie can have the frames of the sequence that was found, if one was
abbrev pub FitsMovie : ℕ → ℕ → Outcome → Type 0
FitsMovie from hold (best ks) = from + length ks * hold ≤ most_inputs
FitsMovie from hold nothing = Unit {0}
FitsMovie from hold (stopped k) = Unit {0}

-- the changes are those of the sequence, or there are none
abbrev pub AreChangesOf : ℕ → ℕ → SpaceContent → Outcome → List Change → Type 0
AreChangesOf len from s (best ks) changes = changes ≡ answer_changes len from s.choices s.hold ks
AreChangesOf len from s nothing changes = changes ≡ []
AreChangesOf len from s (stopped k) changes = changes ≡ []
