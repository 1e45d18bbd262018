-- What `tas edit` answers.
use Rattle.std.specs.Prelude.{◌≡◌, ℕ, List, ◌⊎◌, Option, Some, None, Result, Ok, Err}
use Rattle.tas_movie.specs.Content.{MovieContent}
use Rattle.tas_movie.specs.Text.{text2}
use Rattle.tas_engines.specs.declared.fault.RunFault.{RunFault}
use Rattle.tas_engines.specs.declared.fault.RunFault.TheVariants.{Script, Place, Long, Memory as OutOfMemory}
use Rattle.tas_engines.specs.Movies.{IsMovieOf, IsMovieFault, AreMoviesOf, AreMoviesFault}
use Rattle.tas_engines.specs.declared.scripts.ScriptFault.{ScriptFault}
use Rattle.tas_engines.specs.declared.scripts.ScriptFault.TheVariants.{Line, Place as PlaceFault, Long as LongFault, Memory}
use Rattle.tas_engines.specs.Scripts.{MakesAll}

-- how a script's fault is reported
abbrev pub script_fault : ScriptFault → RunFault
script_fault (Line number) = Script number
script_fault (PlaceFault number) = Place number
script_fault (LongFault number) = Long number
script_fault Memory = OutOfMemory

-- the text of the movie that a script's lines, all of them and in order, make of this one, beside which there may be a second one;
-- or why there is none: the script's fault, or the text of the movie that all of them made was refused memory
abbrev pub IsScriptAnswer : Option MovieContent → MovieContent → List ℕ → Result (List ℕ) RunFault → Type 0
IsScriptAnswer other old script (Ok out) = (new : MovieContent) × MakesAll other old script new (Ok tt) × (out ≡ text2 new)
IsScriptAnswer other old script (Err e) =
    ((new : MovieContent) × (fault : ScriptFault) × MakesAll other old script new (Err fault) × (e ≡ script_fault fault))
    ⊎ ((new : MovieContent) × MakesAll other old script new (Ok tt) × (e ≡ OutOfMemory))

-- the same of the movie whose cartridge and text these are, or why there is no movie, which comes before the script
abbrev pub IsEditAnswer : List ℕ → List ℕ → List ℕ → Result (List ℕ) RunFault → Type 0
IsEditAnswer image script bytes (Ok out) = (old : MovieContent) × IsMovieOf image bytes old × IsScriptAnswer None old script (Ok out)
IsEditAnswer image script bytes (Err e) =
    IsMovieFault image bytes e ⊎ ((old : MovieContent) × IsMovieOf image bytes old × IsScriptAnswer None old script (Err e))

-- with a second movie of the same cartridge, whose text's fault comes before the first movie's
abbrev pub IsEditWithAnswer : List ℕ → List ℕ → List ℕ → List ℕ → Result (List ℕ) RunFault → Type 0
IsEditWithAnswer image script more bytes (Ok out) =
    (other old : MovieContent) × AreMoviesOf image more bytes other old × IsScriptAnswer (Some other) old script (Ok out)
IsEditWithAnswer image script more bytes (Err e) =
    AreMoviesFault image more bytes e ⊎ ((other old : MovieContent) × AreMoviesOf image more bytes other old × IsScriptAnswer (Some other) old script (Err e))
