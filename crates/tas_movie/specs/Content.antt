-- A movie as contracts see it: the cartridge's bytes, and one input for each frame.
use Rattle.std.specs.Prelude.{ℕ, List, [], replicate}
use Rattle.vcs_inputs.specs.Cart.{cart_size}
use Rattle.vcs_inputs.specs.declared.input.Input.{Input}

-- how many inputs a movie has at most
abbrev pub most_inputs : ℕ
most_inputs = 262144

pub record MovieContent : Type 0 where
  pub cart : List ℕ
  pub inputs : List Input

-- the movie with the blank cartridge, all zeros, and with no inputs
abbrev pub blank_movie : MovieContent
blank_movie = record { cart = replicate cart_size 0; inputs = [] }
