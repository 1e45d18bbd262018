-- What `tas export` writes, and why it ends without it.
use Rattle.std.specs.Prelude.{◌≡◌, ℕ, ◌-◌, List, length, Result, Ok, Err, ◌⊎◌}
use Rattle.vcs_cpu.specs.declared.halt.Halt.TheVariants.{Undocumented}
use Rattle.tas_movie.specs.Content.{MovieContent}
use Rattle.tas_desk.specs.Exports.{IsInRange}
use Rattle.tas_film.specs.Frames.{AllDrawn, IsLeastHalted, pixmaps_of}
pub use Rattle.tas_film.specs.Runs.{most_workers}
use Rattle.tas_engines.specs.Movies.{IsMovieOf, IsMovieFault}
use Rattle.tas_engines.specs.declared.fault.RunFault.{RunFault}
use Rattle.tas_engines.specs.declared.fault.RunFault.TheVariants.{Range, Halted, NoPlace, Memory}

-- the frames from `from` to the one before `to` are few enough and not halted, and these are their pixmaps, one after the other
pub record ArePixmaps (movie : MovieContent) (from to : ℕ) (bytes : List ℕ) : Type 0 where
  pub range : IsInRange (length movie.inputs) from to
  pub drawn : AllDrawn movie from to
  pub pixmaps : bytes ≡ pixmaps_of movie from (to - from)

-- why there are no such pixmaps: the movie hasn't the frames, or they are too many; the least halted one of them is halted
-- so; or a desk was refused. That a desk has another's edit is no cause
abbrev pub IsPixmapsFault : MovieContent → ℕ → ℕ → RunFault → Type 0
IsPixmapsFault movie from to (Range first end len) = (first ≡ from) × (end ≡ to) × (len ≡ length movie.inputs) × (IsInRange (length movie.inputs) from to → ⊥)
IsPixmapsFault movie from to (Halted at opcode) = IsInRange (length movie.inputs) from to × ((frame : ℕ) × IsLeastHalted movie from to (record { frame = frame; halt = Undocumented at opcode }))
IsPixmapsFault movie from to NoPlace = Unit {0}
IsPixmapsFault movie from to Memory = Unit {0}
IsPixmapsFault movie from to _ = ⊥

-- the pixmaps of a movie's frames, or why there are none
abbrev pub IsPixmapsAnswer : MovieContent → ℕ → ℕ → Result (List ℕ) RunFault → Type 0
IsPixmapsAnswer movie from to (Ok bytes) = ArePixmaps movie from to bytes
IsPixmapsAnswer movie from to (Err fault) = IsPixmapsFault movie from to fault

-- the same of the movie whose cartridge and text these are, or why there is no movie
abbrev pub IsExportAnswer : ℕ → ℕ → List ℕ → List ℕ → Result (List ℕ) RunFault → Type 0
IsExportAnswer from to image bytes (Ok pixmaps) = (movie : MovieContent) × IsMovieOf image bytes movie × ArePixmaps movie from to pixmaps
IsExportAnswer from to image bytes (Err e) = IsMovieFault image bytes e ⊎ ((movie : MovieContent) × IsMovieOf image bytes movie × IsPixmapsFault movie from to e)
