-- Stretches of lag frames, and what `tas lag` answers.
use Rattle.std.specs.Prelude.{◌≡◌, ℕ, zero, suc, ◌+◌, ◌-◌, ◌==◌, nat_lt, Bool, true, not, ◌&&◌, if◌then◌else◌, List, [], ◌++◌, length, codes, decimal, slice_index_or, Result, Ok, Err}
use Rattle.std.specs.List.{range_with_len, flat_map}
use Rattle.vcs_inputs.specs.Input.{no_input}
use Rattle.vcs_inputs.specs.declared.input.Input.{Input}
use Rattle.vcs_machine.specs.Lag.{is_lag_frame, IsSameFrame}
use Rattle.tas_movie.specs.Content.{MovieContent}
use Rattle.tas_movie.specs.Text.{line}
use Rattle.tas_green.specs.Run.{state_after}
use Rattle.tas_engines.specs.declared.fault.RunFault.{RunFault}
use Rattle.tas_engines.specs.Movies.{IsMovieOf, IsMovieFault}

-- whether frame k of a movie is a lag frame
abbrev pub is_lag : MovieContent → ℕ → Bool
is_lag movie k = is_lag_frame movie.cart (state_after movie k) (slice_index_or movie.inputs k no_input)

-- how many of the next n frames from a on are lag frames, up to the first that isn't one
abbrev pub lag_length : (ℕ → Bool) → ℕ → ℕ → ℕ
lag_length lag a zero = 0
lag_length lag a (suc n) = if lag a then suc (lag_length lag (a + 1) n) else 0

-- among the frames from `from` on a stretch begins at a lag frame that comes after none of them
abbrev pub begins_stretch : (ℕ → Bool) → ℕ → ℕ → Bool
begins_stretch lag from k = lag k && not (nat_lt from k && lag (k - 1))

-- the line of the frames from a to b - 1
abbrev pub stretch_line : ℕ → ℕ → List ℕ
stretch_line a b = line (decimal a ++ codes " " ++ decimal b)

-- the line of the frames from a to b - 1, where there are any
abbrev pub stretch_or_none : ℕ → ℕ → List ℕ
stretch_or_none a b = if a == b then [] else stretch_line a b

-- the line of the stretch that begins at frame k, where one does among the frames from `from` to `to` - 1
abbrev pub line_at : (ℕ → Bool) → ℕ → ℕ → ℕ → List ℕ
line_at lag from to k = if begins_stretch lag from k then stretch_line k (k + lag_length lag k (to - k)) else []

-- the lines of all stretches of lag frames among a movie's frames `from` to `to` - 1: one that goes on beyond them is cut there
abbrev pub lag_lines_between : MovieContent → ℕ → ℕ → List ℕ
lag_lines_between movie from to = flat_map (line_at (is_lag movie) from to) (range_with_len from (to - from))

-- the lines of all stretches of lag frames in a movie
abbrev pub lag_lines : MovieContent → List ℕ
lag_lines movie = lag_lines_between movie 0 (length movie.inputs)

-- whatever the input of a lag frame, the next state and the picture are the same
abbrev pub LagFramesIgnoreInput : MovieContent → Type 0
LagFramesIgnoreInput movie = (k : ℕ) (other : Input) → is_lag movie k ≡ true → IsSameFrame movie.cart (state_after movie k) (slice_index_or movie.inputs k no_input) other

-- the lines, or why there are none
abbrev pub IsLagAnswer : List ℕ → List ℕ → Result (List ℕ) RunFault → Type 0
IsLagAnswer image bytes (Ok text) = (movie : MovieContent) × IsMovieOf image bytes movie × (text ≡ lag_lines movie) × LagFramesIgnoreInput movie
IsLagAnswer image bytes (Err e) = IsMovieFault image bytes e
