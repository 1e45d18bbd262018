-- Changes of a movie, and what they make of it.
use Rattle.std.specs.Prelude.{List, [], ◌∷◌}
use Rattle.tas_movie.specs.Content.{MovieContent}
use Rattle.tas_movie.specs.Edit.{edited, IsAllowed}
use Rattle.tas_language.specs.declared.change.Change.{Change}
use Rattle.tas_language.specs.declared.change.Change.TheVariants.{Insert, Replace, Delete}
use Rattle.tas_language.specs.Commands.{HasNumbers}
pub use Rattle.tas_language.specs.Edits.{EditContent, edit_on, edit_of}

-- numbers of one to seven digits in all of them
unfoldable pub HaveNumbers : List Change → Type 0
HaveNumbers [] = Unit {0}
HaveNumbers (change ∷ changes) = HasNumbers change × HaveNumbers changes

-- the change puts copies of an input in, or in the place of others, possibly none: only for such a change may memory be refused
abbrev pub BringsCopies : Change → Type 0
BringsCopies (Insert at count input) = Unit {0}
BringsCopies (Replace at count input) = Unit {0}
BringsCopies (Delete at count) = ⊥

-- the movie after some changes, in order
unfoldable pub changed_by : MovieContent → List Change → MovieContent
changed_by movie [] = movie
changed_by movie (change ∷ changes) = changed_by (edited movie (edit_of change)) changes

-- each of some changes is allowed on what those before it made
unfoldable pub AreAllowed : MovieContent → List Change → Type 0
AreAllowed movie [] = Unit {0}
AreAllowed movie (change ∷ changes) = IsAllowed movie (edit_of change) × AreAllowed (edited movie (edit_of change)) changes
