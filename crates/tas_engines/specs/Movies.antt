-- The movie of a cartridge and a text, and engines of these two inputs.
use Rattle.std.specs.Prelude.{◌≡◌, ℕ, ◌≤◌, true, false, List, length, ◌⊎◌, Option, Some, Result}
use Rattle.vcs_inputs.specs.Cart.{is_cart_size}
use Rattle.tas_movie.specs.Content.{MovieContent, most_inputs}
use Rattle.tas_movie.specs.Text.{IsText}
use Rattle.tas_movie.specs.Fault.{fault}
use Rattle.tas_engines.specs.declared.fault.RunFault.{RunFault}
use Rattle.tas_engines.specs.declared.fault.RunFault.TheVariants.{Size, Text, Memory}
use Rattle.tas_engines.specs.declared.fault.ToolFault.{ToolFault}
use Rattle.tas_engines.specs.Input.{IsReadWhole, StopsReadingTwo}
use Rattle.tas_engines.specs.Output.{Ends, EndsAfter}

-- the movie whose cartridge is the image and of which the bytes are a text: the image has the size of a cartridge, and the movie
-- at most as many inputs as a movie has
pub record IsMovieOf (image bytes : List ℕ) (movie : MovieContent) : Type 0 where
  pub size : is_cart_size (length image) ≡ true
  pub cart : movie.cart ≡ image
  pub most : length movie.inputs ≤ most_inputs
  pub text : IsText bytes movie

-- why there is no such movie: a wrong size of the cartridge comes before the text and before being out of memory
abbrev pub IsMovieFault : List ℕ → List ℕ → RunFault → Type 0
IsMovieFault image bytes (Size n) = (n ≡ length image) × (is_cart_size n ≡ false)
IsMovieFault image bytes (Text e) = (is_cart_size (length image) ≡ true) × (fault bytes image ≡ Some e)
IsMovieFault image bytes Memory = is_cart_size (length image) ≡ true
IsMovieFault image bytes _ = ⊥

-- the two movies of one cartridge of which these are texts
pub record AreMoviesOf (image text text' : List ℕ) (movie movie' : MovieContent) : Type 0 where
  pub first : IsMovieOf image text movie
  pub second : IsMovieOf image text' movie'

-- why there are no two such movies: the first text's fault comes before the second one's
abbrev pub AreMoviesFault : List ℕ → List ℕ → List ℕ → RunFault → Type 0
AreMoviesFault image text text' e = IsMovieFault image text e ⊎ ((movie : MovieContent) × IsMovieOf image text movie × IsMovieFault image text' e)

-- an engine of a cartridge and a movie text, read in this order: from what the readers have and the writer holds before to what
-- they have and hold afterwards
abbrev pub IsMovieRun : (List ℕ → List ℕ → Result (List ℕ) RunFault → Type 0) → (cart cart' input input' output output' : Option (List ℕ)) → Result (Unit {0}) ToolFault → Type 0
IsMovieRun answers cart cart' input input' output output' result =
    EndsAfter (StopsReadingTwo cart cart' input input')
    (λ end. (image : List ℕ) × IsReadWhole cart cart' image × ((bytes : List ℕ) × IsReadWhole input input' bytes × Ends (answers image bytes) output output' end))
    output output' result
