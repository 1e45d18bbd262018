-- The texts of a movie: one that is written and read, and an older one that is read.
use Rattle.std.specs.Prelude.{◌≡◌, ℕ, ◌≤◌, ◌==◌, ◌⊎◌, List, [], ◌∷◌, ◌++◌, length, Bool, if◌then◌else◌, codes, decimal}
use Rattle.std.specs.List.{flat_map}
use Rattle.sha2.specs.Sha256.{sha256}
use Rattle.hex.specs.Hex.{encode_lower}
use Rattle.vcs_inputs.specs.declared.input.Input.{Input}
use Rattle.vcs_inputs.specs.declared.input.Stick.{Stick}
use Rattle.tas_movie.specs.declared.run.FrameRun.{FrameRun}
use Rattle.tas_movie.specs.Content.{MovieContent}
use Rattle.tas_movie.specs.Runs.{runs_of}

-- a line ends with one newline
abbrev pub line : List ℕ → List ℕ
line bytes = bytes ++ 10 ∷ []

-- a letter where something is pressed or set, else a dot
abbrev pub mark : ℕ → Bool → ℕ
mark letter pressed = if pressed then letter else 46

-- a joystick: RLDUF for right, left, down, up and fire
abbrev pub stick_text : Stick → List ℕ
stick_text s = mark 82 s.right ∷ mark 76 s.left ∷ mark 68 s.down ∷ mark 85 s.up ∷ mark 70 s.fire ∷ []

-- a frame: RLDUF RLDUF rsbAB, the left stick, the right stick, and reset, select, black and white, left difficulty A, right difficulty A
abbrev pub frame_text : Input → List ℕ
frame_text i = stick_text i.left ++ 32 ∷ stick_text i.right ++ 32 ∷ mark 114 i.reset ∷ mark 115 i.select ∷ mark 98 i.mono ∷ mark 65 i.left_a ∷ mark 66 i.right_a ∷ []

abbrev pub frame_line : Input → List ℕ
frame_line i = line (frame_text i)

-- how often a frame comes, where it comes more than once
abbrev pub count_text : ℕ → List ℕ
count_text count = if count == 1 then [] else codes " x" ++ decimal count

-- a run: its frame, and how often it comes
abbrev pub run_text : FrameRun → List ℕ
run_text run = frame_text run.input ++ count_text run.count

abbrev pub run_line : FrameRun → List ℕ
run_line run = line (run_text run)

-- the first line of either text
abbrev pub head_text1 : List ℕ
head_text1 = codes "a26movie 1"

abbrev pub head_text2 : List ℕ
head_text2 = codes "a26movie 2"

-- the second line: the cartridge, by the 64 lower case hexadecimal digits of its SHA-256
unfoldable pub digest_text : List ℕ → List ℕ
digest_text cart = codes "cart " ++ encode_lower (sha256 cart)

-- the older text: the two first lines, then one line for each frame
abbrev pub text1 : MovieContent → List ℕ
text1 movie = line head_text1 ++ (line (digest_text movie.cart) ++ flat_map frame_line movie.inputs)

-- how many frames the older text has at most
abbrev pub most_frames1 : ℕ
most_frames1 = 65536

-- the text of a movie: the two first lines, then one line for each run of equal frames
abbrev pub text2 : MovieContent → List ℕ
text2 movie = line head_text2 ++ (line (digest_text movie.cart) ++ flat_map run_line (runs_of movie.inputs))

-- the bytes are a text of the movie
abbrev pub IsText : List ℕ → MovieContent → Type 0
IsText bytes movie = ((bytes ≡ text1 movie) × (length movie.inputs ≤ most_frames1)) ⊎ (bytes ≡ text2 movie)
