-- Films: the pixmaps of frames, each written as soon as it is drawn.
use Rattle.std.specs.Prelude.{◌≡◌, ℕ, ◌+◌, ◌-◌, ◌<◌, ◌≤◌, List, length, Option, Some, Result, Ok, Err}
use Rattle.std.specs.Io.KnownBytes.{Appends}
use Rattle.byte_text.specs.CutOff.{IsCutOff}
use Rattle.tas_movie.specs.Content.{MovieContent}
use Rattle.tas_green.specs.Run.{state_after, picture_of}
use Rattle.vcs_tia.specs.Image.{ppm_bytes}
use Rattle.tas_film.specs.declared.film.FilmStop.{FilmStop}
use Rattle.tas_film.specs.declared.film.FilmStop.TheVariants.{Memory, Halted, Write}
use Rattle.tas_film.specs.Frames.{IsDrawn, AllDrawn, IsLeastHalted, pixmaps_of}

-- a write failed in the pixmap of the frame `last`: all those before it are out, and this many bytes in all. No frame up to it is halted
pub record IsFilmCut (movie : MovieContent) (from to : ℕ) (old new : Option (List ℕ)) (written : ℕ) : Type 0 where
  pub last : ℕ
  pub within : last < to
  pub drawn : AllDrawn movie from (last + 1)
  pub whole : length (pixmaps_of movie from (last - from)) ≤ written
  pub cut : IsCutOff old new (pixmaps_of movie from (last + 1 - from)) written

-- how a film of the frames from `from` to the one before `to` ends: all their pixmaps are out; or nothing is, since memory was refused; or
-- those before the least halted frame are; or a write failed
abbrev pub IsFilm : MovieContent → ℕ → ℕ → Option (List ℕ) → Option (List ℕ) → Result (Unit {0}) FilmStop → Type 0
IsFilm movie from to old new (Ok u) = AllDrawn movie from to × Appends old new (pixmaps_of movie from (to - from))
IsFilm movie from to old new (Err Memory) = new ≡ old
IsFilm movie from to old new (Err (Halted halted)) = IsLeastHalted movie from to halted × Appends old new (pixmaps_of movie from (halted.frame - from))
IsFilm movie from to old new (Err (Write fault)) = IsFilmCut movie from to old new fault.written

-- why a frame's pixmap isn't out, or not all of it: the frame is halted, and nothing is written; or a write failed, and this many bytes are out with
-- those before it
abbrev pub IsFilmStop : MovieContent → ℕ → ℕ → Option (List ℕ) → Option (List ℕ) → FilmStop → Type 0
IsFilmStop movie frame before old new Memory = ⊥
IsFilmStop movie frame before old new (Halted halted) = (halted.frame ≡ frame) × ((state_after movie (frame + 1)).halt ≡ Some halted.halt) × (new ≡ old)
IsFilmStop movie frame before old new (Write fault) = IsDrawn movie frame × (before ≤ fault.written) × IsCutOff old new (ppm_bytes (picture_of movie frame)) (fault.written - before)
