-- What `tas migrate` answers.
use Rattle.std.specs.Prelude.{◌≡◌, ℕ, List, Result, Ok, Err}
use Rattle.tas_movie.specs.Content.{MovieContent}
use Rattle.tas_movie.specs.Text.{text2}
use Rattle.tas_engines.specs.declared.fault.RunFault.{RunFault}
use Rattle.tas_engines.specs.Movies.{IsMovieOf, IsMovieFault}

-- the movie's text of runs ('a26movie 2'), or why there is no movie
abbrev pub IsMigrateAnswer : List ℕ → List ℕ → Result (List ℕ) RunFault → Type 0
IsMigrateAnswer image bytes (Ok out) = (movie : MovieContent) × IsMovieOf image bytes movie × (out ≡ text2 movie)
IsMigrateAnswer image bytes (Err e) = IsMovieFault image bytes e
