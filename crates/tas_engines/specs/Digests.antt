-- What `tas digest` answers.
use Rattle.std.specs.Prelude.{◌≡◌, ℕ, ◌+◌, ◌-◌, ◌*◌, ◌<◌, min, List, length, ◌++◌, codes, decimal, ◌⊎◌, None, Result, Ok, Err}
use Rattle.std.specs.Int.{div_ceil}
use Rattle.std.specs.List.{range_with_len, flat_map}
use Rattle.sha2.specs.Sha256.{sha256}
use Rattle.hex.specs.Hex.{encode_lower}
use Rattle.vcs_tia.specs.Image.{ppm_bytes}
use Rattle.vcs_machine.specs.Machine.{profile}
use Rattle.tas_movie.specs.Content.{MovieContent}
use Rattle.tas_movie.specs.Text.{text2}
use Rattle.tas_green.specs.Run.{state_after, picture_of}
use Rattle.tas_engines.specs.declared.fault.RunFault.{RunFault}
use Rattle.tas_engines.specs.declared.fault.RunFault.TheVariants.{Halted, Memory}
use Rattle.tas_engines.specs.Movies.{IsMovieOf, IsMovieFault}
use Rattle.tas_engines.specs.Ram.{ram_after}
use Rattle.tas_engines.specs.Shooting.{IsShotFault}

-- the SHA-256 of some bytes, as 64 lower case hexadecimal digits
abbrev pub digest_of : List ℕ → List ℕ
digest_of bytes = encode_lower (sha256 bytes)

-- RAM after each of the frames from `from` to `to` - 1, one after the other
abbrev pub ram_of_frames : MovieContent → ℕ → ℕ → List ℕ
ram_of_frames movie from to = flat_map (λ f. ram_after movie (f + 1)) (range_with_len from (to - from))

-- the line of a stretch of frames, from `from` to `to` - 1, with the digits of two digests
abbrev pub stretch_text : ℕ → ℕ → List ℕ → List ℕ → List ℕ
stretch_text from to ram picture =
    codes "frames " ++ decimal from ++ codes " to " ++ decimal to ++ codes " ram " ++ ram ++ codes " picture " ++ picture ++ codes "\n"

-- the digests are that of RAM after each of the frames, and that of the last one's pixmap
abbrev pub stretch_line : MovieContent → ℕ → ℕ → List ℕ
stretch_line movie from to =
    stretch_text from to (digest_of (ram_of_frames movie from to)) (digest_of (ppm_bytes (picture_of movie (to - 1))))

-- the line of stretch number i, where stretches have this many frames; the last one may have fewer
abbrev pub line_of_stretch : ℕ → MovieContent → ℕ → List ℕ
line_of_stretch every movie i = stretch_line movie (i * every) (min ((i + 1) * every) (length movie.inputs))

-- a line of a name and the digest of some bytes
abbrev pub digest_line : List ℕ → List ℕ → List ℕ
digest_line name bytes = name ++ digest_of bytes ++ codes "\n"

-- the first four lines: what it is, the machine's profile, the cartridge's digest, and that of the movie's text of runs
abbrev pub digest_head : MovieContent → List ℕ
digest_head movie = codes "a26digest 1\nprofile " ++ decimal profile ++ codes "\n" ++ digest_line (codes "cart ") movie.cart ++ digest_line (codes "movie ") (text2 movie)

-- the last line
abbrev pub digest_end : ℕ → List ℕ
digest_end frames = codes "end " ++ decimal frames ++ codes " frames\n"

-- a movie's digest: a line for each stretch, in order
abbrev pub digest_text : ℕ → MovieContent → List ℕ
digest_text every movie =
    digest_head movie ++ flat_map (line_of_stretch every movie) (range_with_len 0 (div_ceil (length movie.inputs) every))
    ++ digest_end (length movie.inputs)

-- none of the movie's frames is halted
abbrev pub NoneHalted : MovieContent → Type 0
NoneHalted movie = (k : ℕ) → k < length movie.inputs → (state_after movie (k + 1)).halt ≡ None

-- why a movie has no digest: one of its frames is halted so, and has no shot
abbrev pub IsDigestFault : MovieContent → RunFault → Type 0
IsDigestFault movie (Halted at opcode) = (k : ℕ) × IsShotFault movie k (Halted at opcode)
IsDigestFault movie Memory = Unit {0}
IsDigestFault movie _ = ⊥

-- the digest in stretches of this many frames, or why there is none
abbrev pub IsDigestAnswer : ℕ → List ℕ → List ℕ → Result (List ℕ) RunFault → Type 0
IsDigestAnswer every image bytes (Ok text) = (movie : MovieContent) × IsMovieOf image bytes movie × NoneHalted movie × (text ≡ digest_text every movie)
IsDigestAnswer every image bytes (Err e) = IsMovieFault image bytes e ⊎ ((movie : MovieContent) × IsMovieOf image bytes movie × IsDigestFault movie e)
