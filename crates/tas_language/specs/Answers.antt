-- The answers for which a script has no reply.
use Rattle.std.specs.Prelude.{ℕ, List, [], ◌∷◌, ◌++◌, length, codes, decimal}
use Rattle.std.specs.List.{flat_map}
use Rattle.hex.specs.Hex.{encode_lower}
use Rattle.sha2.specs.Sha256.{sha256}
use Rattle.byte_text.specs.Digits.{hex_byte}
use Rattle.vcs_inputs.specs.declared.input.Input.{Input}
use Rattle.tas_language.specs.History.{run_lines, some_runs_of}

-- the program's version
abbrev pub program_version : List ℕ
program_version = codes "0.3.0"

-- the first words of the answers that have more than their line: the last word of the line is how many bytes follow
abbrev pub words_with_bytes : List ℕ
words_with_bytes = codes "picture lag inputs movie history"

-- the program's version, the number of the machine's profile, that of the format of conversations, and the words after which bytes follow. The number of
-- the format grows where an answer that exists changes, and not where lines or answers are added
abbrev pub version_text : ℕ → List ℕ
version_text profile = codes "version " ++ program_version ++ codes " profile " ++ decimal profile ++ codes " format 1 bytes " ++ words_with_bytes ++ codes "\n"

-- a picture: a line that says how many bytes follow, and the pixmap
abbrev pub picture_text : ℕ → ℕ → List ℕ → List ℕ
picture_text made k pixmap = codes "picture " ++ decimal made ++ codes " " ++ decimal k ++ codes " " ++ decimal (length pixmap) ++ codes "\n" ++ pixmap

-- a movie: a line that says how many bytes follow, and the movie's text
abbrev pub movie_text : ℕ → List ℕ → List ℕ
movie_text made text = codes "movie " ++ decimal made ++ codes " " ++ decimal (length text) ++ codes "\n" ++ text

-- a frame's number after one space
abbrev pub frame_word : ℕ → List ℕ
frame_word frame = 32 ∷ decimal frame

-- the frames of kept states: how many they are, and each
abbrev pub states_text : ℕ → List ℕ → List ℕ
states_text made frames = codes "states " ++ decimal made ++ codes " " ++ decimal (length frames) ++ flat_map frame_word frames ++ codes "\n"

-- RAM after this many frames: each byte as two upper case hexadecimal digits
abbrev pub ram_text : ℕ → ℕ → List ℕ → List ℕ
ram_text made frames ram = codes "ram " ++ decimal made ++ codes " " ++ decimal frames ++ codes " " ++ flat_map hex_byte ram ++ codes "\n"

-- the SHA-256 of RAM after a frame, and that of the frame's pixmap: each as 64 lower case hexadecimal digits
abbrev pub frame_digest_text : ℕ → ℕ → List ℕ → List ℕ → List ℕ
frame_digest_text made k ram pixmap =
    codes "digest " ++ decimal made ++ codes " " ++ decimal k ++ codes " ram " ++ encode_lower (sha256 ram) ++ codes " picture " ++ encode_lower (sha256 pixmap) ++ codes "\n"

-- the lag frames among the frames a to b - 1: a line that says how many bytes follow, and a line for each stretch of them
abbrev pub lag_head : ℕ → ℕ → ℕ → ℕ → List ℕ
lag_head made a b count = codes "lag " ++ decimal made ++ codes " " ++ decimal a ++ codes " " ++ decimal b ++ codes " " ++ decimal count ++ codes "\n"

abbrev pub lag_text : ℕ → ℕ → ℕ → List ℕ → List ℕ
lag_text made a b lines = lag_head made a b (length lines) ++ lines

-- the inputs of the frames from one on: a line that says how many bytes follow, and a line for each run of equal ones, with its place, its count and its frame
abbrev pub inputs_head : ℕ → ℕ → ℕ → ℕ → List ℕ
inputs_head made from to count = codes "inputs " ++ decimal made ++ codes " " ++ decimal from ++ codes " " ++ decimal to ++ codes " " ++ decimal count ++ codes "\n"

abbrev pub inputs_lines : ℕ → List Input → List ℕ
inputs_lines from inputs = run_lines [] [] from (some_runs_of inputs)

abbrev pub inputs_text : ℕ → ℕ → ℕ → List Input → List ℕ
inputs_text made from to inputs = inputs_head made from to (length (inputs_lines from inputs)) ++ inputs_lines from inputs

-- how many states the greenzone gained
abbrev pub share_text : ℕ → ℕ → List ℕ
share_text made gained = codes "share " ++ decimal made ++ codes " " ++ decimal gained ++ codes "\n"

-- the entries of the history from one on: a line that says how many they are and how many bytes follow, and their lines
abbrev pub history_head : ℕ → ℕ → ℕ → ℕ → List ℕ
history_head made from count bytes = codes "history " ++ decimal made ++ codes " " ++ decimal from ++ codes " " ++ decimal count ++ codes " " ++ decimal bytes ++ codes "\n"

abbrev pub history_text : ℕ → ℕ → ℕ → List ℕ → List ℕ
history_text made from count lines = history_head made from count (length lines) ++ lines
