-- The search of a movie's space.
use Rattle.std.specs.Prelude.{◌≡◌, ◌+◌, ◌-◌, ◌*◌, ◌<◌, ◌≤◌, List, [], length, take}
use Rattle.vcs_inputs.specs.declared.input.Input.{Input}
use Rattle.vcs_machine.specs.Machine.{after}
use Rattle.tas_movie.specs.Content.{MovieContent, most_inputs}
use Rattle.tas_language.specs.declared.change.Change.{Change}
use Rattle.tas_search.specs.declared.goal.GoalKind.{GoalKind}
use Rattle.tas_search.specs.declared.movie_search.SearchRange.{SearchRange}
use Rattle.tas_search.specs.declared.movie_search.SearchFault.{SearchFault}
use Rattle.tas_search.specs.declared.movie_search.SearchFault.TheVariants.{Short, Hold, Part, Long, Report, Memory}
use Rattle.tas_search.specs.declared.logs.Unfinished.{Unfinished}
use Rattle.tas_search.specs.declared.logs.Unfinished.TheVariants as end
use Rattle.tas_search.specs.Grammar.{Tree}
use Rattle.tas_search.specs.Outcome.{Outcome, best, nothing, stopped}
use Rattle.tas_search.specs.Space.{SpaceContent}
use Rattle.tas_search.specs.Parts.{IsPart, part_end}
use Rattle.tas_search.specs.GoalAnswer.{IsGoalAnswer}
use Rattle.tas_search.specs.AnswerChanges.{answer_changes, Writes}
use Rattle.tas_search.specs.Logs.{LogBytes}
use Rattle.tas_search.specs.Reported.{StopsReporting}

-- the part's sequences of some choices after a movie's first `from` frames, each choice held for `hold` frames
abbrev pub space_of : MovieContent → List Input → SearchRange → SpaceContent
space_of movie choices range = record {
  cart = movie.cart;
  start = after movie.cart (take range.from movie.inputs);
  choices = choices;
  hold = range.hold;
  low = part_end (range.part.number - 1) range.part.of (length choices);
  high = part_end range.part.number range.part.of (length choices);
}

-- the changes are those that write the sequence that was found into the movie; where none was found there are none
abbrev pub WritesFound : MovieContent → SearchRange → SpaceContent → Outcome → List Change → Type 0
WritesFound movie range s (best ks) changes = (changes ≡ answer_changes (length movie.inputs) range.from s.choices s.hold ks) × Writes movie range.from s ks
WritesFound movie range s nothing changes = changes ≡ []
WritesFound movie range s (stopped k) changes = changes ≡ []

-- the space begins within the movie, each choice is held for a frame or more, there is such a part, and the movie can have the frames of the longest
-- sequences
abbrev pub CanSearch : MovieContent → SearchRange → Type 0
CanSearch movie range =
    (range.from ≤ length movie.inputs) × (0 < range.hold) × IsPart range.part.number range.part.of × (range.from + range.count * range.hold ≤ most_inputs)

-- the answer: what the definitions say of the whole space, and the changes that write it into the movie
abbrev pub IsMovieAnswer : MovieContent → List Input → GoalKind → Tree → SearchRange → Outcome → List Change → Type 0
IsMovieAnswer movie choices kind e range outcome changes =
    CanSearch movie range × IsGoalAnswer (space_of movie choices range) kind e range.count range.states outcome × WritesFound movie range (space_of movie choices range) outcome changes

-- why there is none: the movie ends before the space begins; or a choice is held for no frame; or there is no such part; or the movie would be too long
-- with the longest sequences; or, where it is none of these, the report or memory is
abbrev pub IsSearchFault : MovieContent → SearchRange → SearchFault → Type 0
IsSearchFault movie range (Short len) = (len ≡ length movie.inputs) × (len < range.from)
IsSearchFault movie range Hold = (range.from ≤ length movie.inputs) × (range.hold ≡ 0)
IsSearchFault movie range Part = (range.from ≤ length movie.inputs) × (0 < range.hold) × (IsPart range.part.number range.part.of → ⊥)
IsSearchFault movie range Long =
    (range.from ≤ length movie.inputs) × (0 < range.hold) × IsPart range.part.number range.part.of × (most_inputs < range.from + range.count * range.hold)
IsSearchFault movie range Report = CanSearch movie range
IsSearchFault movie range Memory = CanSearch movie range

-- the fault of a search that wasn't finished
abbrev pub fault_of : Unfinished → SearchFault
fault_of end.Report = Report
fault_of end.Memory = Memory

-- what is in the report then: nothing of a space that can't be searched, and of another one what a search that isn't finished leaves
abbrev pub StopsSearching : SpaceContent → SearchRange → (old new : LogBytes) → SearchFault → Type 0
StopsSearching s range old new (Short len) = new ≡ old
StopsSearching s range old new Hold = new ≡ old
StopsSearching s range old new Part = new ≡ old
StopsSearching s range old new Long = new ≡ old
StopsSearching s range old new Report = StopsReporting s range.count range.states end.Report old new
StopsSearching s range old new Memory = StopsReporting s range.count range.states end.Memory old new
