-- Films of a movie that was read.
use Rattle.std.proofs.Common.{◌≡◌, ℕ, ◌-◌, List, length, Option, Result, Ok, Err, inr, sym, subst}
use Rattle.std.specs.Io.KnownBytes.{Appends}
use Rattle.vcs_cpu.specs.declared.halt.Halt.{Halt}
use Rattle.vcs_cpu.specs.declared.halt.Halt.TheVariants.{Undocumented}
use Rattle.tas_movie.specs.Content.{MovieContent}
use Rattle.tas_film.specs.declared.film.FilmStop.{FilmStop}
use Rattle.tas_film.specs.declared.film.FilmStop.TheVariants.{Memory as OutOfRoom, Halted as Stopped, Write as WriteFailed}
use Rattle.tas_film.specs.Frames.{IsLeastHalted, pixmaps_of}
use Rattle.tas_film.specs.Films.{IsFilm}
use Rattle.tas_engines.specs.declared.fault.RunFault.{RunFault}
use Rattle.tas_engines.specs.declared.fault.ToolFault.{ToolFault}
use Rattle.tas_engines.specs.Faults.{reported}
use Rattle.tas_engines.specs.Input.{IsReadWhole}
use Rattle.tas_engines.specs.Movies.{IsMovieOf}
use Rattle.tas_tool.specs.Films.{AreFrames, IsFilmOf, IsFilmBetween, Films, IsFilmRun, halted_fault, stop_fault}

halted_ends : (movie : MovieContent) (from to : ℕ) (old new : Option (List ℕ)) (frame : ℕ) (halt : Halt) (fault : RunFault) → fault ≡ halted_fault frame halt → AreFrames (length movie.inputs) from to
    → IsLeastHalted movie from to (record { frame = frame; halt = halt }) → Appends old new (pixmaps_of movie from (frame - from)) → IsFilmOf movie from to old new (Err fault)
halted_ends movie from to old new frame (Undocumented at opcode) fault told frames least out = rw told (frames, least, out)

-- what stopped a film is reported so
pub stop_ends : (movie : MovieContent) (from to : ℕ) (old new : Option (List ℕ)) (stop : FilmStop) (fault : RunFault) → fault ≡ stop_fault stop → AreFrames (length movie.inputs) from to
    → IsFilm movie from to old new (Err stop) → IsFilmOf movie from to old new (Err fault)
stop_ends movie from to old new OutOfRoom fault told frames is = rw told (frames, is)
stop_ends movie from to old new (Stopped halted) fault told frames is = halted_ends movie from to old new halted.frame halted.halt fault told frames is.0 is.1
stop_ends movie from to old new (WriteFailed error) fault told frames is = rw told (frames, is)

-- a film of the movie of a cartridge and a text is theirs
pub movie_films : (from to : Option ℕ) (image bytes : List ℕ) (movie : MovieContent) (old new : Option (List ℕ)) (end : Result (Unit {0}) RunFault) → IsMovieOf image bytes movie
    → IsFilmBetween movie from to old new end → Films from to image bytes old new end
movie_films from to image bytes movie old new (Ok u) is ends = (movie, is, ends)
movie_films from to image bytes movie old new (Err fault) is ends = inr (movie, is, ends)

-- the engine ran on the cartridge and the text that it had read
pub film_ran : (from to : Option ℕ) (cart cart' input input' output output' : Option (List ℕ)) (read image read' bytes : List ℕ) (end : Result (Unit {0}) RunFault) (result : Result (Unit {0}) ToolFault)
    → IsReadWhole cart cart' read → image ≡ read → IsReadWhole input input' read' → bytes ≡ read' → Films from to image bytes output output' end → result ≡ reported end
    → IsFilmRun from to cart cart' input input' output output' result
film_ran from to cart cart' input input' output output' read image read' bytes end result whole same whole' same' films is =
    inr (end, is, (image, subst (IsReadWhole cart cart') (sym same) whole, (bytes, subst (IsReadWhole input input') (sym same') whole', films)))
