-- Scripts that start from a movie.
use Rattle.std.specs.Prelude.{ℕ, List, [], ◌∷◌, Option, Result, Ok, Err, ◌⊎◌}
use Rattle.std.specs.Io.KnownBytes.{Keeps}
use Rattle.tas_movie.specs.Content.{MovieContent}
use Rattle.tas_movie.specs.declared.edit.Edit.{Edit}
use Rattle.tas_movie.specs.declared.edit.Edit.TheVariants.{Load, Insert}
use Rattle.tas_engines.specs.declared.fault.RunFault.{RunFault}
use Rattle.tas_engines.specs.declared.fault.ToolFault.{ToolFault}
use Rattle.tas_engines.specs.Movies.{IsMovieOf, IsMovieFault}
use Rattle.tas_engines.specs.Input.{AreReadWhole, StopsReadingAll}
use Rattle.tas_engines.specs.Output.{EndsAfter}
use Rattle.tas_seat.specs.Turns.{Standing}
use Rattle.tas_tool.specs.Scripts.{AnswersFrom, EndsWithReplies}

-- a movie is made by two edits: its cartridge is loaded, then its inputs are put in
abbrev pub edits_of_movie : (A : Type 0) → MovieContent → List (Edit A)
edits_of_movie A movie = Load movie.cart ∷ Insert 0 movie.inputs ∷ []

-- what is made then
abbrev pub standing_of_movie : MovieContent → Standing
standing_of_movie movie = record { movie = movie; made = 2 }

-- the replies to a script that starts from a movie, and how it ends
abbrev pub AnswersOver : MovieContent → List ℕ → List ℕ → Result (Unit {0}) RunFault → Type 0
AnswersOver movie bytes text end = AnswersFrom (standing_of_movie movie) bytes text end

-- how a script ends that was read with a cartridge and a movie's text: there is no such movie, and nothing is written; or it
-- is answered from the movie on
abbrev pub RunsOver : (image said bytes : List ℕ) → Option (List ℕ) → Option (List ℕ) → Result (Unit {0}) RunFault → Type 0
RunsOver image said bytes old new (Ok u) = (movie : MovieContent) × IsMovieOf image said movie × EndsWithReplies (AnswersOver movie bytes) old new (Ok u)
RunsOver image said bytes old new (Err fault) =
    (IsMovieFault image said fault × Keeps old new) ⊎ ((movie : MovieContent) × IsMovieOf image said movie × EndsWithReplies (AnswersOver movie bytes) old new (Err fault))

-- `tas script` over a movie, from what its readers (a cartridge, a movie text and a script) have and the writer holds before to
-- what they have and hold afterwards
abbrev pub IsMovieScriptRun : (cart cart' movie movie' input input' output output' : Option (List ℕ)) → Result (Unit {0}) ToolFault → Type 0
IsMovieScriptRun cart cart' movie movie' input input' output output' result =
    EndsAfter (StopsReadingAll (cart ∷ movie ∷ input ∷ []) (cart' ∷ movie' ∷ input' ∷ []))
    (λ end. (image said bytes : List ℕ) × AreReadWhole (cart ∷ movie ∷ input ∷ []) (cart' ∷ movie' ∷ input' ∷ []) (image ∷ said ∷ bytes ∷ []) × RunsOver image said bytes output output' end)
    output output' result
