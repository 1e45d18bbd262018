-- What `tas film` writes, and how it ends.
use Rattle.std.specs.Prelude.{◌≡◌, ℕ, ◌-◌, ◌≤◌, List, length, unwrap_or, ◌⊎◌, Option, Result, Ok, Err}
use Rattle.std.specs.Io.KnownBytes.{Appends}
use Rattle.vcs_cpu.specs.declared.halt.Halt.{Halt}
use Rattle.vcs_cpu.specs.declared.halt.Halt.TheVariants.{Undocumented}
use Rattle.tas_movie.specs.Content.{MovieContent}
use Rattle.tas_film.specs.declared.film.FilmStop.{FilmStop}
use Rattle.tas_film.specs.declared.film.FilmStop.TheVariants.{Memory as OutOfRoom, Halted as Stopped, Write as WriteFailed}
use Rattle.tas_film.specs.Frames.{AllDrawn, IsLeastHalted, pixmaps_of}
use Rattle.tas_film.specs.Films.{IsFilmCut}
use Rattle.tas_engines.specs.declared.fault.RunFault.{RunFault}
use Rattle.tas_engines.specs.declared.fault.RunFault.TheVariants.{Range, HaltedFrame, Write, Memory}
use Rattle.tas_engines.specs.declared.fault.ToolFault.{ToolFault}
use Rattle.tas_engines.specs.Input.{IsReadWhole, StopsReadingTwo}
use Rattle.tas_engines.specs.Movies.{IsMovieOf, IsMovieFault}
use Rattle.tas_engines.specs.Output.{EndsAfter}

-- a movie of this length has all frames from `from` to the one before `to`, of which there may be none
pub record AreFrames (len from to : ℕ) : Type 0 where
  pub order : from ≤ to
  pub within : to ≤ len

-- how a film of a movie's frames from `from` to the one before `to` ends: all their pixmaps are out; or the movie hasn't these frames, and
-- nothing is; or the pixmaps of the frames before the least halted one are, and the fault names it; or a write failed; or memory was
-- refused, and nothing is
abbrev pub IsFilmOf : MovieContent → ℕ → ℕ → Option (List ℕ) → Option (List ℕ) → Result (Unit {0}) RunFault → Type 0
IsFilmOf movie from to old new (Ok u) =
    AreFrames (length movie.inputs) from to × AllDrawn movie from to × Appends old new (pixmaps_of movie from (to - from))
IsFilmOf movie from to old new (Err (Range first end len)) =
    (first ≡ from) × (end ≡ to) × (len ≡ length movie.inputs) × (AreFrames (length movie.inputs) from to → ⊥) × (new ≡ old)
IsFilmOf movie from to old new (Err (HaltedFrame frame at opcode)) =
    AreFrames (length movie.inputs) from to
    × IsLeastHalted movie from to (record { frame = frame; halt = Undocumented at opcode })
    × Appends old new (pixmaps_of movie from (frame - from))
IsFilmOf movie from to old new (Err (Write written)) = AreFrames (length movie.inputs) from to × IsFilmCut movie from to old new written
IsFilmOf movie from to old new (Err Memory) = AreFrames (length movie.inputs) from to × (new ≡ old)
IsFilmOf movie from to old new (Err _) = ⊥

-- the same where the first frame and the place after the last one may be left out: they are then those of the whole movie
abbrev pub IsFilmBetween : MovieContent → Option ℕ → Option ℕ → Option (List ℕ) → Option (List ℕ) → Result (Unit {0}) RunFault → Type 0
IsFilmBetween movie from to old new end = IsFilmOf movie (unwrap_or from 0) (unwrap_or to (length movie.inputs)) old new end

-- the same of the movie whose cartridge and text these are; or there is no such movie, and nothing is written
abbrev pub Films : Option ℕ → Option ℕ → List ℕ → List ℕ → Option (List ℕ) → Option (List ℕ) → Result (Unit {0}) RunFault → Type 0
Films from to image bytes old new (Ok u) = (movie : MovieContent) × IsMovieOf image bytes movie × IsFilmBetween movie from to old new (Ok u)
Films from to image bytes old new (Err fault) =
    (IsMovieFault image bytes fault × (new ≡ old))
    ⊎ ((movie : MovieContent) × IsMovieOf image bytes movie × IsFilmBetween movie from to old new (Err fault))

-- `tas film`, from what its readers (a cartridge and a movie text) have and the writer holds before to what they have and hold
-- afterwards
abbrev pub IsFilmRun : Option ℕ → Option ℕ → (cart cart' input input' output output' : Option (List ℕ)) → Result (Unit {0}) ToolFault → Type 0
IsFilmRun from to cart cart' input input' output output' result =
    EndsAfter (StopsReadingTwo cart cart' input input')
    (λ end. (image : List ℕ) × IsReadWhole cart cart' image × ((bytes : List ℕ) × IsReadWhole input input' bytes × Films from to image bytes output output' end))
    output output' result

-- the fault of a halted frame, and the one that reports why a film ended before its last frame. Private functions cite them
abbrev pub halted_fault : ℕ → Halt → RunFault
halted_fault frame (Undocumented at opcode) = HaltedFrame frame at opcode

abbrev pub stop_fault : FilmStop → RunFault
stop_fault OutOfRoom = Memory
stop_fault (Stopped halted) = halted_fault halted.frame halted.halt
stop_fault (WriteFailed fault) = Write fault.written
