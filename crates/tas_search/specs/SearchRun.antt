-- A search of a movie, from what its readers have and its writer holds before to what they have and hold afterwards.
use Rattle.std.specs.Prelude.{◌≡◌, ℕ, ◌+◌, Bool, List, [], Option, Result, Ok, Err, ◌⊎◌, if◌then◌else◌}
use Rattle.std.specs.Io.KnownBytes.{Appends, Keeps}
use Rattle.tas_engines.specs.declared.fault.ReadFault.{ReadFault}
use Rattle.tas_engines.specs.declared.fault.RunFault.{RunFault}
use Rattle.tas_engines.specs.Commands.{bytes_of, in_order}
use Rattle.tas_engines.specs.Input.{AreReadWhole, StopsReadingAll}
use Rattle.tas_engines.specs.Output.{StopsWriting}
use Rattle.tas_search.specs.declared.search_error.SearchError.{SearchError}
use Rattle.tas_search.specs.declared.search_error.SearchError.TheVariants.{Read, Run}
use Rattle.tas_search.specs.declared.search_request.Search.{Search}
use Rattle.tas_search.specs.SearchText.{SearchInputs, IsSearchText, IsSearchError, StopsText}
use Rattle.tas_search.specs.Logs.{LogBytes}

-- the places of the names and of the movie among the inputs: after the cartridge, the choices if they are given, and the names if they are
abbrev pub names_place : Search → ℕ
names_place s = if s.has_choices then 2 else 1

abbrev pub movie_place : Search → ℕ
movie_place s = if s.has_names then names_place s + 1 else names_place s

-- the bytes of the input at a place, if it is given
abbrev pub given_bytes : List (List ℕ) → Bool → ℕ → List ℕ
given_bytes read given place = if given then bytes_of read place else []

-- the inputs of a search by the bytes that were read, in order
abbrev pub read_inputs : Search → List (List ℕ) → SearchInputs
read_inputs s read = record {
  image = bytes_of read 0;
  choices = given_bytes read s.has_choices 1;
  names = given_bytes read s.has_names (names_place s);
  movie = bytes_of read (movie_place s);
  has_choices = s.has_choices;
  goal = s.goal.now;
  from = s.from;
  frames = s.frames;
  hold = s.hold;
  states = s.states;
  part = s.part;
}

-- a write of the script failed
pub record BreaksOff (i : SearchInputs) (old new : Option (List ℕ)) (logs logs' : LogBytes) (e : SearchError) : Type 0 where
  pub script : List ℕ
  pub verdict : List ℕ
  pub text : IsSearchText i script verdict logs logs'
  pub fault : RunFault
  pub is : e ≡ Run fault
  pub stops : StopsWriting old new script fault

-- a fault is the answer: no script is written, and of the report a beginning
pub record EndsWithoutAnswer (i : SearchInputs) (old new : Option (List ℕ)) (logs logs' : LogBytes) (e : SearchError) : Type 0 where
  pub fault : IsSearchError i e
  pub output : Keeps old new
  pub report : StopsText i e logs logs'

-- the script is written, and the verdict returned, after the lines of the layers; or there is no answer; or a write of the script failed
abbrev pub Ends : {Z : Type 0} → (Z → List ℕ) → SearchInputs → (old new : Option (List ℕ)) → (logs logs' : LogBytes) → Result Z SearchError → Type 0
Ends said i old new logs logs' (Ok verdict) = (script : List ℕ) × IsSearchText i script (said verdict) logs logs' × Appends old new script
Ends said i old new logs logs' (Err e) = EndsWithoutAnswer i old new logs logs' e ⊎ BreaksOff i old new logs logs' e

-- reading stopped, and nothing is written; or all inputs were read whole, in order, and the search ends on them
abbrev pub IsSearchRunOn : {Z : Type 0} → (Z → List ℕ) → Search → (inputs inputs' : List (Option (List ℕ))) → (output output' : Option (List ℕ)) → (logs logs' : LogBytes) → Result Z SearchError → Type 0
IsSearchRunOn said s inputs inputs' output output' logs logs' result =
    ((fault : ReadFault) × (result ≡ Err (Read fault)) × StopsReadingAll inputs inputs' fault × Keeps output output' × (logs' ≡ logs))
    ⊎ ((read : List (List ℕ)) × AreReadWhole inputs inputs' read × Ends said (read_inputs s read) output output' logs logs' result)

abbrev pub IsSearchRun : {Z : Type 0} → (Z → List ℕ) → Search → (files files' : List (Option (List ℕ))) → (input input' output output' : Option (List ℕ)) → (logs logs' : LogBytes) → Result Z SearchError → Type 0
IsSearchRun said s files files' input input' output output' logs logs' result = IsSearchRunOn said s (in_order files input) (in_order files' input') output output' logs logs' result
