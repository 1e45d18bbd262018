-- What `tas cut` answers.
use Rattle.std.specs.Prelude.{◌≡◌, ℕ, ◌≤◌, List, length, take, drop, ◌⊎◌, Result, Ok, Err}
use Rattle.tas_movie.specs.Content.{MovieContent}
use Rattle.tas_movie.specs.Text.{text2}
use Rattle.tas_engines.specs.declared.fault.RunFault.{RunFault}
use Rattle.tas_engines.specs.declared.fault.RunFault.TheVariants.{Range}
use Rattle.tas_engines.specs.Movies.{IsMovieOf, IsMovieFault}

-- the frames are the movie's
pub record IsCutRange (movie : MovieContent) (from to : ℕ) : Type 0 where
  pub order : from ≤ to
  pub within : to ≤ length movie.inputs

-- the movie of the frames from `from` to `to` - 1 alone
abbrev pub cut_out : MovieContent → ℕ → ℕ → MovieContent
cut_out movie from to = record { cart = movie.cart; inputs = drop from (take to movie.inputs) }

-- why there is no such movie
abbrev pub IsCutFault : ℕ → ℕ → MovieContent → RunFault → Type 0
IsCutFault from to movie (Range first end len) = (first ≡ from) × (end ≡ to) × (len ≡ length movie.inputs) × (IsCutRange movie from to → ⊥)
IsCutFault from to movie _ = ⊥

-- its text, or why there is none
abbrev pub IsCutAnswer : ℕ → ℕ → List ℕ → List ℕ → Result (List ℕ) RunFault → Type 0
IsCutAnswer from to image bytes (Ok out) = (movie : MovieContent) × IsMovieOf image bytes movie × IsCutRange movie from to × (out ≡ text2 (cut_out movie from to))
IsCutAnswer from to image bytes (Err e) = IsMovieFault image bytes e ⊎ ((movie : MovieContent) × IsMovieOf image bytes movie × IsCutFault from to movie e)
