-- The changes that write a sequence into a movie.
use Rattle.std.specs.Prelude.{◌≡◌, ℕ, ◌+◌, ◌-◌, ◌*◌, ◌≤◌, nat_lt, if◌then◌else◌, List, [], ◌∷◌, ◌++◌, length, map, take, replicate, slice_index_or, Some}
use Rattle.vcs_inputs.specs.declared.input.Input.{Input}
use Rattle.vcs_inputs.specs.Input.{no_input}
use Rattle.vcs_machine.specs.Machine.{Machine, after}
use Rattle.tas_movie.specs.Content.{MovieContent, most_inputs}
use Rattle.tas_movie.specs.Edit.{spliced}
use Rattle.tas_language.specs.declared.change.Change.{Change}
use Rattle.tas_language.specs.declared.change.Change.TheVariants.{Insert, Replace}
use Rattle.tas_language.specs.Edits.{edit_of, edited_by, AllowsAll}
use Rattle.tas_search.specs.Space.{SpaceContent, reached}

-- the inputs of a sequence's frames
abbrev pub inputs_of : List Input → ℕ → List ℕ → List Input
inputs_of choices hold [] = []
inputs_of choices hold (k ∷ ks) = replicate hold (slice_index_or choices k no_input) ++ inputs_of choices hold ks

-- frames in which nothing is pressed at the end of a movie of this length, so that it has frames up to `end`
abbrev pub filling : ℕ → ℕ → List Change
filling len end = if nat_lt len end then Insert len (end - len) no_input ∷ [] else []

-- each choice in the place of the frames for which it is held
abbrev pub replacing : ℕ → List Input → ℕ → List ℕ → List Change
replacing at choices hold [] = []
replacing at choices hold (k ∷ ks) = Replace at hold (slice_index_or choices k no_input) ∷ replacing (at + hold) choices hold ks

-- the changes that write a sequence from frame `from` on into a movie of this length
abbrev pub answer_changes : ℕ → ℕ → List Input → ℕ → List ℕ → List Change
answer_changes len from choices hold ks = filling len (from + length ks * hold) ++ replacing from choices hold ks

-- a space that begins after a movie's first `from` frames, and a sequence whose frames a movie can have
pub record IsSpaceOf (movie : MovieContent) (from : ℕ) (s : SpaceContent) (ks : List ℕ) : Type 0 where
  pub within : from ≤ length movie.inputs
  pub cart : s.cart ≡ movie.cart
  pub start : s.start ≡ after movie.cart (take from movie.inputs)
  pub fits : from + length ks * s.hold ≤ most_inputs

-- the movie with these changes made
abbrev pub written : MovieContent → ℕ → SpaceContent → List ℕ → MovieContent
written movie from s ks = edited_by movie (map edit_of (answer_changes (length movie.inputs) from s.choices s.hold ks))

-- each change is allowed, in its turn; together they put the sequence's inputs in the place of as many of the movie's, and nothing else; and the
-- movie that they make plays from there on to the machine that the sequence reaches
pub record Writes (movie : MovieContent) (from : ℕ) (s : SpaceContent) (ks : List ℕ) : Type 0 where
  pub allowed : AllowsAll movie (map edit_of (answer_changes (length movie.inputs) from s.choices s.hold ks))
  pub cart : (written movie from s ks).cart ≡ movie.cart
  pub inputs : (written movie from s ks).inputs ≡ spliced from (length ks * s.hold) (inputs_of s.choices s.hold ks) movie.inputs
  pub plays : (m : Machine) → reached s ks ≡ Some m → after movie.cart (take (from + length ks * s.hold) (written movie from s ks).inputs) ≡ m
