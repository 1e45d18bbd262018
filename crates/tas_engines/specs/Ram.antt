-- What `tas ram` answers.
use Rattle.std.specs.Prelude.{◌≡◌, ℕ, ◌+◌, ◌-◌, ◌≤◌, List, ◌∷◌, length, slice_index, ◌++◌, codes, decimal, ◌⊎◌, Option, None, Some, Result, Ok, Err}
use Rattle.std.specs.List.{range_with_len, flat_map}
use Rattle.byte_text.specs.Digits.{hex_byte}
use Rattle.tas_movie.specs.Content.{MovieContent}
use Rattle.tas_green.specs.Run.{state_after}
use Rattle.tas_engines.specs.declared.fault.RunFault.{RunFault}
use Rattle.tas_engines.specs.declared.fault.RunFault.TheVariants.{Range}
use Rattle.tas_engines.specs.Movies.{IsMovieOf, IsMovieFault}
use Rattle.tas_engines.specs.Names.{Names}

-- the 128 bytes of RAM after the movie's first k frames, halted or not
abbrev pub ram_after : MovieContent → ℕ → List ℕ
ram_after movie k = (state_after movie k).riot.ram

-- a line of a number, and each of some bytes as two upper case hexadecimal digits
abbrev pub numbered_bytes : ℕ → List ℕ → List ℕ
numbered_bytes k bytes = decimal k ++ codes " " ++ flat_map hex_byte bytes ++ codes "\n"

-- the bytes that have names, of those from address 80 on, each in decimal digits after a comma
abbrev pub named_values : Names → List ℕ → List ℕ
named_values names bytes = flat_map (λ n. 44 ∷ decimal (slice_index bytes (n.1 - 128))) names

-- a line of a number and these
abbrev pub numbered_values : Names → ℕ → List ℕ → List ℕ
numbered_values names k bytes = decimal k ++ named_values names bytes ++ codes "\n"

-- a line of a number and all bytes, or those that have names
abbrev pub bytes_line : Option Names → ℕ → List ℕ → List ℕ
bytes_line None k bytes = numbered_bytes k bytes
bytes_line (Some names) k bytes = numbered_values names k bytes

-- the line of RAM after k frames
abbrev pub ram_line : Option Names → MovieContent → ℕ → List ℕ
ram_line names movie k = bytes_line names k (ram_after movie k)

-- the lines for k from `from` to `to` - 1
abbrev pub ram_lines : Option Names → MovieContent → ℕ → ℕ → List ℕ
ram_lines names movie from to = flat_map (ram_line names movie) (range_with_len from (to - from))

-- a movie of n frames has n + 1 such lines: the first one is power-on's
pub record IsRamRange (movie : MovieContent) (from to : ℕ) : Type 0 where
  pub order : from ≤ to
  pub within : to ≤ length movie.inputs + 1

-- why there are no such lines
abbrev pub IsRamFault : ℕ → ℕ → MovieContent → RunFault → Type 0
IsRamFault from to movie (Range first end len) = (first ≡ from) × (end ≡ to) × (len ≡ length movie.inputs) × (IsRamRange movie from to → ⊥)
IsRamFault from to movie _ = ⊥

-- the lines, or why there are none
abbrev pub IsRamAnswer : ℕ → ℕ → List ℕ → List ℕ → Result (List ℕ) RunFault → Type 0
IsRamAnswer from to image bytes (Ok text) = (movie : MovieContent) × IsMovieOf image bytes movie × IsRamRange movie from to × (text ≡ ram_lines None movie from to)
IsRamAnswer from to image bytes (Err e) = IsMovieFault image bytes e ⊎ ((movie : MovieContent) × IsMovieOf image bytes movie × IsRamFault from to movie e)
