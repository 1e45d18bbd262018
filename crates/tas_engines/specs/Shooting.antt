-- What `tas shot` answers.
use Rattle.std.specs.Prelude.{◌≡◌, ℕ, ◌+◌, ◌<◌, ◌≤◌, List, length, ◌⊎◌, Some, None, Result, Ok, Err}
use Rattle.vcs_cpu.specs.declared.halt.Halt.{Halt}
use Rattle.vcs_cpu.specs.declared.halt.Halt.TheVariants.{Undocumented}
use Rattle.vcs_tia.specs.Image.{ppm_bytes}
use Rattle.tas_movie.specs.Content.{MovieContent}
use Rattle.tas_green.specs.Run.{state_after, picture_of}
use Rattle.tas_engines.specs.declared.fault.RunFault.{RunFault}
use Rattle.tas_engines.specs.declared.fault.RunFault.TheVariants.{NoFrame, Halted}
use Rattle.tas_engines.specs.Movies.{IsMovieOf, IsMovieFault}

-- frame k of a movie is played without a halt, and this is its picture as a pixmap
pub record IsShot (movie : MovieContent) (k : ℕ) (picture : List ℕ) : Type 0 where
  pub within : k < length movie.inputs
  pub runs : (state_after movie (k + 1)).halt ≡ None
  pub drawn : picture ≡ ppm_bytes (picture_of movie k)

-- the fault that reports a halt
abbrev pub halt_fault : Halt → RunFault
halt_fault (Undocumented at opcode) = Halted at opcode

-- why frame k has no picture: the movie is too short, or the machine is halted after it
abbrev pub IsShotFault : MovieContent → ℕ → RunFault → Type 0
IsShotFault movie k (NoFrame frame len) = (frame ≡ k) × (len ≡ length movie.inputs) × (len ≤ k)
IsShotFault movie k (Halted at opcode) = (k < length movie.inputs) × ((state_after movie (k + 1)).halt ≡ Some (Undocumented at opcode))
IsShotFault movie k _ = ⊥

-- the picture of frame k, or why there is none
abbrev pub IsShotAnswer : ℕ → List ℕ → List ℕ → Result (List ℕ) RunFault → Type 0
IsShotAnswer k image bytes (Ok picture) = (movie : MovieContent) × IsMovieOf image bytes movie × IsShot movie k picture
IsShotAnswer k image bytes (Err e) = IsMovieFault image bytes e ⊎ ((movie : MovieContent) × IsMovieOf image bytes movie × IsShotFault movie k e)
