-- What a look at a movie's inputs answers.
use Rattle.std.specs.Prelude.{ℕ, length, slice_get, Option}
use Rattle.vcs_inputs.specs.declared.input.Input.{Input}
use Rattle.tas_movie.specs.Content.{MovieContent}

-- the answer to `len`: how many inputs there are
abbrev pub answer_len : MovieContent → ℕ
answer_len movie = length movie.inputs

-- the answer to `input`: the input of frame k, where there is one
abbrev pub answer_input : MovieContent → ℕ → Option Input
answer_input movie k = slice_get movie.inputs k
