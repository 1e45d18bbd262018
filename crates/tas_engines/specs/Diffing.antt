-- What `tas diff` answers.
use Rattle.std.specs.Prelude.{◌≡◌, ℕ, List, Result, Ok, Err}
use Rattle.std.specs.List.{flat_map}
use Rattle.tas_movie.specs.Content.{MovieContent}
use Rattle.tas_engines.specs.declared.fault.RunFault.{RunFault}
use Rattle.tas_engines.specs.Movies.{AreMoviesOf, AreMoviesFault}
use Rattle.tas_language.specs.declared.change.Change.{Change}
use Rattle.tas_engines.specs.Differences.{IsDifference}
use Rattle.tas_engines.specs.Scripts.{change_line}

-- the script of the changes that make the new movie of the old one, or why there is none
abbrev pub IsDiffAnswer : List ℕ → List ℕ → List ℕ → Result (List ℕ) RunFault → Type 0
IsDiffAnswer image before after (Ok out) =
    (old new : MovieContent) × (changes : List Change) × AreMoviesOf image before after old new × IsDifference old.inputs new.inputs changes × (out ≡ flat_map change_line changes)
IsDiffAnswer image before after (Err e) = AreMoviesFault image before after e
