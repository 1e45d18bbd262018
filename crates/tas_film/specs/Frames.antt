-- Frames drawn, and their pixmaps.
use Rattle.std.specs.Prelude.{◌≡◌, ℕ, ◌+◌, ◌-◌, ◌<◌, ◌≤◌, List, Option, Some, None}
use Rattle.std.specs.List.{range_with_len, flat_map}
use Rattle.vcs_tia.specs.Image.{ppm_bytes}
use Rattle.tas_movie.specs.Content.{MovieContent}
use Rattle.tas_green.specs.Run.{state_after, picture_of}
use Rattle.tas_film.specs.declared.pixmaps.HaltedFrame.{HaltedFrame}
use Rattle.tas_film.specs.declared.pixmaps.Stop.{Stop}
use Rattle.tas_film.specs.declared.pixmaps.Stop.TheVariants.{Halted, Memory}

-- the machine isn't halted in frame f
abbrev pub IsDrawn : MovieContent → ℕ → Type 0
IsDrawn movie f = (state_after movie (f + 1)).halt ≡ None

-- none of the frames from `from` to the one before `to` is halted
abbrev pub AllDrawn : MovieContent → ℕ → ℕ → Type 0
AllDrawn movie from to = (f : ℕ) → from ≤ f → f < to → IsDrawn movie f

-- the least halted frame of those from `from` to the one before `to`, with its halt
pub record IsLeastHalted (movie : MovieContent) (from to : ℕ) (halted : HaltedFrame) : Type 0 where
  pub above : from ≤ halted.frame
  pub below : halted.frame < to
  pub halt : (state_after movie (halted.frame + 1)).halt ≡ Some halted.halt
  pub before : (f : ℕ) → from ≤ f → f < halted.frame → IsDrawn movie f

-- the portable pixmaps of `count` frames from the frame `from` on, one after the other
abbrev pub pixmaps_of : MovieContent → ℕ → ℕ → List ℕ
pixmaps_of movie from count = flat_map (λ f. ppm_bytes (picture_of movie f)) (range_with_len from count)

-- why frame f isn't drawn: it is halted; or it isn't, and memory was refused for its pixmap
abbrev pub IsStopAt : MovieContent → ℕ → Stop → Type 0
IsStopAt movie f (Halted halted) = (halted.frame ≡ f) × ((state_after movie (f + 1)).halt ≡ Some halted.halt)
IsStopAt movie f Memory = IsDrawn movie f

-- none of the frames is halted and the bytes are their pixmaps
pub record AreDrawn (movie : MovieContent) (from to : ℕ) (bytes : List ℕ) : Type 0 where
  pub all : AllDrawn movie from to
  pub are : bytes ≡ pixmaps_of movie from (to - from)

-- memory was refused for the pixmap of one of the frames: neither that frame nor one before it is halted
pub record IsRefused (movie : MovieContent) (from to : ℕ) : Type 0 where
  pub frame : ℕ
  pub above : from ≤ frame
  pub below : frame < to
  pub drawn : AllDrawn movie from (frame + 1)

-- the bytes are the pixmaps of the frames from `from` to the one before `to`, or one of these is the least halted one, or memory was
-- refused at one up to which none is halted
abbrev pub Shows : MovieContent → ℕ → ℕ → List ℕ → Option Stop → Type 0
Shows movie from to bytes None = AreDrawn movie from to bytes
Shows movie from to bytes (Some (Halted halted)) = IsLeastHalted movie from to halted
Shows movie from to bytes (Some Memory) = IsRefused movie from to
