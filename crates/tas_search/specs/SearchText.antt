-- What a search of a movie answers to the bytes of its inputs.
use Rattle.std.specs.Prelude.{◌≡◌, ℕ, ◌*◌, ◌<◌, Bool, true, false, List, length}
use Rattle.std.specs.List.{flat_map}
use Rattle.vcs_inputs.specs.declared.input.Input.{Input}
use Rattle.tas_movie.specs.Content.{MovieContent}
use Rattle.tas_language.specs.declared.change.Change.{Change}
use Rattle.tas_engines.specs.Movies.{IsMovieOf, IsMovieFault}
use Rattle.tas_engines.specs.Names.{Names}
use Rattle.tas_engines.specs.NamesFile.{AreNames, IsNamesError}
use Rattle.tas_engines.specs.Scripts.{change_line}
use Rattle.tas_search.specs.declared.choices.ChoicesError.{ChoicesError}
use Rattle.tas_search.specs.declared.choices.ChoicesError.TheVariants as error
use Rattle.tas_search.specs.declared.goal.GoalKind.{GoalKind}
use Rattle.tas_search.specs.declared.movie_search.SearchRange.{SearchRange}
use Rattle.tas_search.specs.declared.search_error.SearchError.{SearchError}
use Rattle.tas_search.specs.declared.search_request.Search.{Search}
use Rattle.tas_search.specs.declared.space_part.SpacePart.{SpacePart}
use Rattle.tas_search.specs.declared.answering.SearchBytes.{SearchBytes}
use Rattle.tas_search.specs.declared.search_error.SearchError.TheVariants.{Read, Run, Choices, Names as NamesAt, Goal, Frames, Search as NotSearched, Memory}
use Rattle.tas_search.specs.ChoicesFile.{AreChoicesOf, IsChoicesError}
use Rattle.tas_search.specs.StickChoices.{stick_choices}
use Rattle.tas_search.specs.Grammar.{Tree}
use Rattle.tas_search.specs.GoalText.{IsGoalText, IsGoalFault}
use Rattle.tas_search.specs.Outcome.{Outcome}
use Rattle.tas_search.specs.MovieSearch.{IsMovieAnswer, IsSearchFault, StopsSearching, space_of}
use Rattle.tas_search.specs.Verdict.{IsVerdict}
use Rattle.tas_search.specs.Logs.{LogBytes}
use Rattle.tas_search.specs.Reported.{IsReported, StopsReporting}
use Rattle.tas_search.specs.Space.{SpaceContent}
use Rattle.tas_search.specs.declared.logs.Unfinished.TheVariants as end

-- the frames are some number of choices, each held for a frame or more
abbrev pub Divides : ℕ → ℕ → Type 0
Divides hold frames = (0 < hold) × ((count : ℕ) × (count * hold ≡ frames))

-- the range of a search of so many frames
pub record IsRangeOf (from frames hold states : ℕ) (part : SpacePart) (range : SearchRange) : Type 0 where
  pub from_is : range.from ≡ from
  pub hold_is : range.hold ≡ hold
  pub states_is : range.states ≡ states
  pub part_is : range.part ≡ part
  pub some : 0 < hold
  pub count : range.count * hold ≡ frames

-- the choices are those of the text, if it is given, and else the left stick's
abbrev pub AreGiven : Bool → List ℕ → List Input → Type 0
AreGiven true text inputs = AreChoicesOf text inputs
AreGiven false text inputs = inputs ≡ stick_choices

-- why there are none; without a text there always are, where there is memory
abbrev pub IsGivenError : Bool → List ℕ → ChoicesError → Type 0
IsGivenError true text e = IsChoicesError text e
IsGivenError false text error.Memory = Unit {0}
IsGivenError false text (error.Line number kind) = ⊥

-- the bytes that a search reads, and what it is asked for: how its choices come, the goal's text, and its numbers
pub record SearchInputs : Type 0 where
  pub image : List ℕ
  pub choices : List ℕ
  pub names : List ℕ
  pub movie : List ℕ
  pub has_choices : Bool
  pub goal : List ℕ
  pub from : ℕ
  pub frames : ℕ
  pub hold : ℕ
  pub states : ℕ
  pub part : SpacePart

-- the text is that of a goal over the names
pub record IsGoalOver (names goal : List ℕ) (kind : GoalKind) (e : Tree) : Type 0 where
  pub known : Names
  pub names_are : AreNames names known
  pub goal_is : IsGoalText known goal kind e

-- why there is no goal: the names file's fault comes first
abbrev pub IsGoalError : List ℕ → List ℕ → SearchError → Type 0
IsGoalError names goal (NamesAt e) = IsNamesError names e
IsGoalError names goal (Goal fault) = (known : Names) × AreNames names known × IsGoalFault known goal fault
IsGoalError names goal _ = ⊥

-- what the inputs say: a movie, choices, a goal over the names, and a range
pub record Said (i : SearchInputs) (movie : MovieContent) (inputs : List Input) (kind : GoalKind) (e : Tree) (range : SearchRange) : Type 0 where
  pub movie_is : IsMovieOf i.image i.movie movie
  pub choices_are : AreGiven i.has_choices i.choices inputs
  pub goal_is : IsGoalOver i.names i.goal kind e
  pub range_is : IsRangeOf i.from i.frames i.hold i.states i.part range

-- the script and the verdict of what the definitions say of the whole part, and the lines of its layers
pub record IsFoundText (movie : MovieContent) (inputs : List Input) (kind : GoalKind) (e : Tree) (range : SearchRange) (script verdict : List ℕ) (old new : LogBytes) : Type 0 where
  pub outcome : Outcome
  pub changes : List Change
  pub answer : IsMovieAnswer movie inputs kind e range outcome changes
  pub script_is : script ≡ flat_map change_line changes
  pub verdict_is : IsVerdict kind range (length inputs) outcome verdict
  pub reported : IsReported (space_of movie inputs range) range.count outcome old new

-- why there is none, of a movie and a range
abbrev pub IsFoundError : MovieContent → SearchRange → SearchError → Type 0
IsFoundError movie range (NotSearched fault) = IsSearchFault movie range fault
IsFoundError movie range Memory = Unit {0}
IsFoundError movie range _ = ⊥

-- the same of what the inputs say
pub record IsSearchText (i : SearchInputs) (script verdict : List ℕ) (old new : LogBytes) : Type 0 where
  pub movie : MovieContent
  pub inputs : List Input
  pub kind : GoalKind
  pub e : Tree
  pub range : SearchRange
  pub said : Said i movie inputs kind e range
  pub found : IsFoundText movie inputs kind e range script verdict old new

-- why there is none: the first of the movie, the choices, the names, the goal, the frames and the space that is at fault; out of memory is a
-- fault only of a cartridge that has the size of one
abbrev pub IsSearchError : SearchInputs → SearchError → Type 0
IsSearchError i (Read fault) = ⊥
IsSearchError i (Run fault) = IsMovieFault i.image i.movie fault
IsSearchError i (Choices e) = (movie : MovieContent) × IsMovieOf i.image i.movie movie × IsGivenError i.has_choices i.choices e
IsSearchError i (NamesAt e) = (movie : MovieContent) × (inputs : List Input) × IsMovieOf i.image i.movie movie × AreGiven i.has_choices i.choices inputs × IsGoalError i.names i.goal (NamesAt e)
IsSearchError i (Goal fault) = (movie : MovieContent) × (inputs : List Input) × IsMovieOf i.image i.movie movie × AreGiven i.has_choices i.choices inputs × IsGoalError i.names i.goal (Goal fault)
IsSearchError i Frames =
    (movie : MovieContent) × (inputs : List Input) × (kind : GoalKind) × (e : Tree) × IsMovieOf i.image i.movie movie × AreGiven i.has_choices i.choices inputs × IsGoalOver i.names i.goal kind e × (Divides i.hold i.frames → ⊥)
IsSearchError i (NotSearched fault) = (movie : MovieContent) × (inputs : List Input) × (kind : GoalKind) × (e : Tree) × (range : SearchRange) × Said i movie inputs kind e range × IsSearchFault movie range fault
IsSearchError i Memory = (movie : MovieContent) × (inputs : List Input) × (kind : GoalKind) × (e : Tree) × (range : SearchRange) × Said i movie inputs kind e range

-- what is in the report without an answer, of a space: what its search left; the lines of its layers, where there was no memory for the answer's texts
abbrev pub IsCutReport : SpaceContent → SearchRange → SearchError → (old new : LogBytes) → Type 0
IsCutReport s range (NotSearched fault) old new = StopsSearching s range old new fault
IsCutReport s range Memory old new = StopsReporting s range.count range.states end.Memory old new
IsCutReport s range _ old new = ⊥

-- the same of what the inputs say
pub record StopsSaid (i : SearchInputs) (error : SearchError) (old new : LogBytes) : Type 0 where
  pub movie : MovieContent
  pub inputs : List Input
  pub kind : GoalKind
  pub e : Tree
  pub range : SearchRange
  pub said : Said i movie inputs kind e range
  pub cut : IsCutReport (space_of movie inputs range) range error old new

-- nothing is in the report where a search doesn't begin
abbrev pub StopsText : SearchInputs → SearchError → (old new : LogBytes) → Type 0
StopsText i (NotSearched fault) old new = StopsSaid i (NotSearched fault) old new
StopsText i Memory old new = StopsSaid i Memory old new
StopsText i _ old new = new ≡ old

-- the inputs of a search
abbrev pub inputs_of : Search → SearchBytes → SearchInputs
inputs_of s b = record {
  image = b.image.now;
  choices = b.choices.now;
  names = b.names.now;
  movie = b.movie.now;
  has_choices = s.has_choices;
  goal = s.goal.now;
  from = s.from;
  frames = s.frames;
  hold = s.hold;
  states = s.states;
  part = s.part;
}
