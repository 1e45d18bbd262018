-- What `tas new` writes.
use Rattle.std.specs.Prelude.{◌≡◌, ℕ, true, List, length, replicate, Result, Ok, Err}
use Rattle.vcs_inputs.specs.Cart.{is_cart_size}
use Rattle.vcs_inputs.specs.Input.{no_input}
use Rattle.tas_movie.specs.Content.{MovieContent}
use Rattle.tas_movie.specs.Text.{text2}
use Rattle.tas_engines.specs.declared.fault.RunFault.{RunFault}
use Rattle.tas_engines.specs.Tracing.{IsImageFault}

-- the movie of a cartridge and so many frames in which nothing is pressed
abbrev pub quiet_movie : List ℕ → ℕ → MovieContent
quiet_movie image frames = record { cart = image; inputs = replicate frames no_input }

-- its text of runs, or why there is none
abbrev pub IsNewAnswer : ℕ → List ℕ → Result (List ℕ) RunFault → Type 0
IsNewAnswer frames image (Ok out) = (is_cart_size (length image) ≡ true) × (out ≡ text2 (quiet_movie image frames))
IsNewAnswer frames image (Err e) = IsImageFault image e
