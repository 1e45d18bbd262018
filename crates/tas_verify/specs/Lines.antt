-- The lines of movies, and the last one.
use Rattle.std.specs.Prelude.{◌≡◌, ℕ, Bool, true, false, List, ◌++◌, length, map, codes, decimal, count_by}
use Rattle.std.specs.List.{All, flat_map}
use Rattle.byte_text.specs.Digits.{hex_byte, hex_word}
use Rattle.tas_movie.specs.declared.error.TextErrorKind.{TextErrorKind}
use Rattle.tas_movie.specs.declared.error.TextErrorKind.TheVariants.{Head, Digest as DigestLine, Frame, End, TooMany, Run}
use Rattle.tas_engines.specs.declared.fault.ReadFault.{ReadFault}
use Rattle.tas_engines.specs.declared.fault.ReadFault.TheVariants.{TooLong, Failed, Memory as NoMemory}
use Rattle.tas_verify.specs.declared.lines.Verified.{Verified}
use Rattle.tas_verify.specs.declared.lines.Tally.{Tally}
use Rattle.tas_verify.specs.declared.outcome.Role.{Role}
use Rattle.tas_verify.specs.declared.outcome.Role.TheVariants.{Movie, Cartridge, Digest}
use Rattle.tas_verify.specs.declared.outcome.Outcome.{Outcome}
use Rattle.tas_verify.specs.declared.outcome.Outcome.TheVariants.{Same, DiffersAt, DiffersInLine, NotFound, Unread, Size, Text, Halted, Memory}
use Rattle.tas_verify.specs.Manifest.{RowWords, words_in}
use Rattle.tas_verify.specs.Rows.{ShelfFacts, IsOutcome}

abbrev pub role_text : Role → List ℕ
role_text Movie = codes "movie"
role_text Cartridge = codes "cartridge"
role_text Digest = codes "digest"

abbrev pub read_text : ReadFault → List ℕ
read_text TooLong = codes "input is too long"
read_text Failed = codes "read failed"
read_text NoMemory = codes "out of memory"

abbrev pub kind_text : TextErrorKind → List ℕ
kind_text Head = codes "head"
kind_text DigestLine = codes "digest"
kind_text Frame = codes "frame"
kind_text End = codes "end"
kind_text TooMany = codes "too many"
kind_text Run = codes "run"

-- what a line says of a movie; of a fault the words of `tas digest`
abbrev pub outcome_text : Outcome → List ℕ
outcome_text Same = codes "ok"
outcome_text (DiffersAt frame) = codes "differs at " ++ decimal frame
outcome_text (DiffersInLine line) = codes "differs in line " ++ decimal line
outcome_text (NotFound role) = role_text role ++ codes " not found"
outcome_text (Unread role fault) = role_text role ++ codes ": " ++ read_text fault
outcome_text (Size n) = codes "cartridge has " ++ decimal n ++ codes " bytes"
outcome_text (Text error) = codes "movie line " ++ decimal error.line ++ codes ": " ++ kind_text error.kind
outcome_text (Halted at opcode) = codes "halted at " ++ hex_word at ++ codes " by " ++ hex_byte opcode
outcome_text Memory = codes "out of memory"

-- a movie whose line has these words, and what came of it
pub record RowEnd : Type 0 where
  pub row : RowWords
  pub outcome : Outcome

abbrev pub end_of : Verified → RowEnd
end_of verified = record { row = words_in verified.row; outcome = verified.outcome }

-- its line: the movie's name first
abbrev pub end_line : RowEnd → List ℕ
end_line end = end.row.movie ++ codes ": " ++ outcome_text end.outcome ++ codes "\n"

abbrev pub end_lines : List RowEnd → List ℕ
end_lines ends = flat_map end_line ends

abbrev pub is_same : Outcome → Bool
is_same Same = true
is_same _ = false

-- how many movies there are, and how many are the same
abbrev pub tally_of : List RowEnd → Tally
tally_of ends = record { movies = length ends; same = count_by (λ end. is_same end.outcome) ends }

-- the last line
abbrev pub tally_line : Tally → List ℕ
tally_line tally = decimal tally.same ++ codes " of " ++ decimal tally.movies ++ codes " ok\n"

-- these movies, in order, and what came of each
pub record AreOutcomes (facts : ShelfFacts) (rows : List RowWords) (ends : List RowEnd) : Type 0 where
  pub named : map (λ end. end.row) ends ≡ rows
  pub each : All (λ end. IsOutcome facts end.row end.outcome) ends
