-- The first line at fault in bytes that aren't a text of a movie with a given cartridge.
use Rattle.std.specs.Prelude.{◌≡◌, ℕ, ◌+◌, ◌-◌, ◌≤◌, ◌==◌, nat_le, nat_lt, List, [], ◌∷◌, ◌++◌, length, take, drop, Bool, true, false, not, ◌&&◌, ◌||◌, codes, Option, Some, None, if◌then◌else◌, slice_index, slice_get}
use Rattle.std.specs.Str.{all_ascii_digits, bytes_eq}
use Rattle.std.specs.Str.Parse.{digits_value}
use Rattle.vcs_inputs.specs.declared.input.Input.{Input}
use Rattle.vcs_inputs.specs.declared.input.Stick.{Stick}
use Rattle.tas_movie.specs.declared.error.TextError.{TextError}
use Rattle.tas_movie.specs.declared.error.TextErrorKind.{TextErrorKind}
use Rattle.tas_movie.specs.declared.error.TextErrorKind.TheVariants.{Head, Digest, Frame, End, TooMany, Run}
use Rattle.tas_movie.specs.declared.error.ReadError.{ReadError}
use Rattle.tas_movie.specs.declared.error.ReadError.TheVariants.{Memory, Text}
use Rattle.vcs_inputs.specs.Input.{are_same_inputs}
use Rattle.tas_movie.specs.declared.run.FrameRun.{FrameRun}
use Rattle.tas_movie.specs.Content.{most_inputs}
use Rattle.tas_movie.specs.Runs.{run_inputs}
use Rattle.tas_movie.specs.Text.{run_text, head_text1, head_text2, digest_text, most_frames1}

-- the lines that a newline ends, without it, and what stands after the last newline
pub record SplitLines : Type 0 where
  pub lines : List (List ℕ)
  pub rest : List ℕ

-- one byte more before them, which is no newline
abbrev pub prepend_byte : ℕ → List (List ℕ) → List ℕ → SplitLines
prepend_byte b [] rest = record { lines = []; rest = b ∷ rest }
prepend_byte b (l ∷ ls) rest = record { lines = (b ∷ l) ∷ ls; rest = rest }

-- bytes, split at their newlines
unfoldable pub split_lines : List ℕ → SplitLines
split_lines [] = record { lines = []; rest = [] }
split_lines (b ∷ bytes) =
    if b == 10 then record { lines = [] ∷ (split_lines bytes).lines; rest = (split_lines bytes).rest }
    else prepend_byte b (split_lines bytes).lines (split_lines bytes).rest

-- the joystick that the letters from the place k on show
abbrev pub shown_stick : ℕ → List ℕ → Stick
shown_stick k l = record { right = slice_index l k == 82; left = slice_index l (k + 1) == 76; down = slice_index l (k + 2) == 68; up = slice_index l (k + 3) == 85; fire = slice_index l (k + 4) == 70 }

-- the input that the letters of a line show, each in its place
abbrev pub shown_input : List ℕ → Input
shown_input l = record { left = shown_stick 0 l; right = shown_stick 6 l; reset = slice_index l 12 == 114; select = slice_index l 13 == 115; mono = slice_index l 14 == 98; left_a = slice_index l 15 == 65; right_a = slice_index l 16 == 66 }

-- the letters of a frame in their places, each for something that is pressed or set, and the two spaces between its parts
abbrev pub frame_letters : List ℕ
frame_letters = codes "RLDUF RLDUF rsbAB"

-- what may stand in a letter's place: the letter itself, or a dot; in a space's place only a space
abbrev pub may_stand : ℕ → ℕ → Bool
may_stand letter b = b == letter || (not (letter == 32) && b == 46)

-- there are as many bytes as letters, and each may stand in its letter's place
unfoldable pub stand_for : List ℕ → List ℕ → Bool
stand_for [] [] = true
stand_for [] (b ∷ bytes) = false
stand_for (letter ∷ letters) [] = false
stand_for (letter ∷ letters) (b ∷ bytes) = may_stand letter b && stand_for letters bytes

-- a line is a frame where each of its bytes may stand in its place
abbrev pub is_frame : List ℕ → Bool
is_frame l = stand_for frame_letters l

-- a fault at a line, counted from 1
abbrev pub fault_at : ℕ → TextErrorKind → Option TextError
fault_at number kind = Some (record { line = number; kind = kind })

-- ---- the older text

-- the first fault of the lines from the third on, of which n frames came before: a line that no newline ends, a
-- line after as many frames as this text has at most, or one that is no frame
unfoldable pub frames_fault : ℕ → List (List ℕ) → List ℕ → Option TextError
frames_fault n [] [] = None
frames_fault n [] (b ∷ rest) = fault_at (n + 3) End
frames_fault n (l ∷ ls) rest =
    if nat_le most_frames1 n then fault_at (n + 3) TooMany
    else if is_frame l then frames_fault (n + 1) ls rest
    else fault_at (n + 3) Frame

-- ---- the text of runs

-- how many frames a line shows by what stands after its first 17 letters: one, or as many as the digits after " x" say
abbrev pub shown_count : List ℕ → ℕ
shown_count [] = 1
shown_count (b ∷ more) = digits_value 10 (drop 1 more)

-- the run that a line shows
abbrev pub shown_run : List ℕ → FrameRun
shown_run l = record { input = shown_input l; count = shown_count (drop 17 l) }

-- decimal digits of a number from 2 to as many frames as a movie has at most, of which the first is no zero
abbrev pub is_many : List ℕ → Bool
is_many digits = (all_ascii_digits digits && not (slice_index digits 0 == 48)) && (nat_le 2 (digits_value 10 digits) && nat_le (digits_value 10 digits) most_inputs)

-- what may follow the letters of a frame: nothing, or " x" and such a number
abbrev pub is_count : List ℕ → Bool
is_count [] = true
is_count (space ∷ []) = false
is_count (space ∷ letter ∷ digits) = (space == 32 && letter == 120) && is_many digits

-- a line is a run where its first 17 bytes are a frame and the further ones say how often it comes
abbrev pub is_run : List ℕ → Bool
is_run l = is_frame (take 17 l) && is_count (drop 17 l)

-- a line says this run, of one frame at least and as many as a movie has at most
abbrev pub IsRunLine : List ℕ → FrameRun → Type 0
IsRunLine l run = (l ≡ run_text run) × (1 ≤ run.count) × (run.count ≤ most_inputs)

-- the last frame, where there is one, has this input
abbrev pub is_repeated : Option Input → Input → Bool
is_repeated None input = false
is_repeated (Some last) input = are_same_inputs last input

-- what is wrong with a line after the frames with these inputs, in this order: there are as many frames as a movie has at
-- most, it is no run, its frame is the one before, or there would be too many frames with it
unfoldable pub run_fault : List Input → List ℕ → Option TextErrorKind
run_fault before l =
    if nat_le most_inputs (length before) then Some TooMany
    else if not (is_run l) then Some Frame
    else if is_repeated (slice_get before (length before - 1)) (shown_run l).input then Some Run
    else if nat_lt most_inputs (length before + (shown_run l).count) then Some TooMany
    else None

-- a line's fault, else that of those after it
abbrev pub fault_or : ℕ → Option TextErrorKind → Option TextError → Option TextError
fault_or number None next = next
fault_or number (Some kind) next = fault_at number kind

-- the first fault of the lines from this number on, after the frames with these inputs: that of a line, or a line that no
-- newline ends
unfoldable pub runs_fault : ℕ → List Input → List (List ℕ) → List ℕ → Option TextError
runs_fault number before [] [] = None
runs_fault number before [] (b ∷ rest) = fault_at number End
runs_fault number before (l ∷ ls) rest =
    fault_or number (run_fault before l) (runs_fault (number + 1) (before ++ run_inputs (shown_run l)) ls rest)

-- ---- either text

-- the first fault from the second line on: it is missing, or no newline ends it, or it isn't the cartridge's; else that of
-- the further lines
abbrev pub digest_fault : List ℕ → (List (List ℕ) → List ℕ → Option TextError) → List (List ℕ) → List ℕ → Option TextError
digest_fault cart further [] rest = fault_at 2 End
digest_fault cart further (l ∷ ls) rest = if bytes_eq l (digest_text cart) then further ls rest else fault_at 2 Digest

-- the first fault from the first line on: it is missing, or no newline ends it, or it is another one than those of the two texts
abbrev pub head_fault : List ℕ → List (List ℕ) → List ℕ → Option TextError
head_fault cart [] rest = fault_at 1 End
head_fault cart (l ∷ ls) rest =
    if bytes_eq l head_text1 then digest_fault cart (frames_fault 0) ls rest
    else if bytes_eq l head_text2 then digest_fault cart (runs_fault 3 []) ls rest
    else fault_at 1 Head

-- the fault of some bytes' lines
abbrev pub fault_by : (List (List ℕ) → List ℕ → Option TextError) → List ℕ → Option TextError
fault_by of_lines bytes = of_lines (split_lines bytes).lines (split_lines bytes).rest

-- the first line at fault and its kind, where bytes aren't a text of a movie with this cartridge
abbrev pub fault : List ℕ → List ℕ → Option TextError
fault bytes cart = fault_by (head_fault cart) bytes

-- an error of reading is `Memory`, or this fault
abbrev pub IsReadError : Option TextError → ReadError → Type 0
IsReadError found Memory = Unit {0}
IsReadError found (Text error) = found ≡ Some error
