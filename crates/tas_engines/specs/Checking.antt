-- What `tas check` answers.
use Rattle.std.specs.Prelude.{◌≡◌, ℕ, List, length, ◌++◌, codes, decimal, Result, Ok, Err}
use Rattle.tas_movie.specs.Content.{MovieContent}
use Rattle.tas_engines.specs.declared.fault.RunFault.{RunFault}
use Rattle.tas_engines.specs.Movies.{IsMovieOf, IsMovieFault}

-- the line of `tas check`
abbrev pub length_line : ℕ → List ℕ
length_line frames = codes "ok " ++ decimal frames ++ codes " frames\n"

-- the movie's length, or why there is no movie
abbrev pub IsCheckAnswer : List ℕ → List ℕ → Result (List ℕ) RunFault → Type 0
IsCheckAnswer image bytes (Ok line) = (movie : MovieContent) × IsMovieOf image bytes movie × (line ≡ length_line (length movie.inputs))
IsCheckAnswer image bytes (Err e) = IsMovieFault image bytes e
