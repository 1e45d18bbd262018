-- Scripts of `tas edit`: each line is an edit of the movie so far.
use Rattle.std.specs.Prelude.{◌≡◌, ℕ, ◌+◌, ◌<◌, List, [], ◌∷◌, ◌++◌, length, Option, Some, None, Result, Ok, Err}
use Rattle.std.specs.List.{filter_map, flat_map}
use Rattle.vcs_inputs.specs.declared.input.Input.{Input}
use Rattle.tas_movie.specs.Content.{MovieContent}
use Rattle.tas_movie.specs.Text.{line}
use Rattle.tas_movie.specs.declared.edit.Edit.{Edit}
use Rattle.tas_movie.specs.declared.edit.Edit.TheVariants as edit
use Rattle.tas_movie.specs.declared.edit.EditRefusal.{EditRefusal}
use Rattle.tas_movie.specs.declared.edit.EditRefusal.TheVariants.{Place, Long}
use Rattle.tas_movie.specs.Edit.{refusal, edited}
use Rattle.tas_language.specs.Commands.{change_text}
use Rattle.byte_text.specs.Splitting.{NoByte}
use Rattle.tas_language.specs.declared.change.Change.{Change}
use Rattle.tas_language.specs.declared.edit_line.EditLine.{EditLine}
use Rattle.tas_language.specs.declared.edit_line.EditLine.TheVariants as asks
use Rattle.tas_language.specs.Retouches.{IsEditLine}
use Rattle.tas_engines.specs.declared.making.ChangeError.{ChangeError}
use Rattle.tas_engines.specs.declared.making.ChangeError.TheVariants.{Refused, Memory as NoRoom}
use Rattle.tas_engines.specs.declared.scripts.ScriptFault.{ScriptFault}
use Rattle.tas_engines.specs.declared.scripts.ScriptFault.TheVariants.{Line, Place as PlaceFault, Long as LongFault, Memory}
use Rattle.tas_engines.specs.Changes.{EditContent, BringsCopies, edit_on, edit_of}
use Rattle.tas_engines.specs.Remarks.{words_of}
use Rattle.tas_engines.specs.Retouching.{frames_from, retouch_on, retouch_refusal, copy_refusal}

-- the line of a change, with its newline
abbrev pub change_line : Change → List ℕ
change_line change = line (change_text change)

-- the inputs of the second movie; none where there is no such movie
abbrev pub inputs_of : Option MovieContent → List Input
inputs_of None = []
inputs_of (Some movie) = movie.inputs

-- a line that copies from the second movie is understood where there is one
abbrev pub IsClear : Option MovieContent → EditLine → Type 0
IsClear other (asks.Change change) = Unit {0}
IsClear other (asks.Retouch retouch) = Unit {0}
IsClear None (asks.CopyOther from count at) = ⊥
IsClear (Some movie) (asks.CopyOther from count at) = Unit {0}

-- these words are understood as this
abbrev pub IsUnderstood : Option MovieContent → List ℕ → EditLine → Type 0
IsUnderstood other said asked = IsEditLine said asked × IsClear other asked

-- what a line, without its newline, asks for: nothing where it has no words, its remark aside
abbrev pub Means : Option MovieContent → List ℕ → Option EditLine → Type 0
Means other said None = words_of said ≡ []
Means other said (Some asked) = IsUnderstood other (words_of said) asked

-- a line of a script, without its newline, and what it asks for
pub record Said : Type 0 where
  pub text : List ℕ
  pub asked : Option EditLine

-- the line with its newline
abbrev pub said_line : Said → List ℕ
said_line said = line said.text

-- what some lines ask for, without those that ask for nothing
abbrev pub asked_in : List Said → List EditLine
asked_in lines = filter_map (λ said. said.asked) lines

-- the edit that a line asks for on a movie, on an allocator
abbrev pub line_on : (A : Type 0) → Option MovieContent → MovieContent → EditLine → Edit A
line_on A other movie (asks.Change change) = edit_on A change
line_on A other movie (asks.Retouch retouch) = retouch_on A movie.inputs retouch
line_on A other movie (asks.CopyOther from count at) = edit.Insert at (frames_from (inputs_of other) from count)

-- its content
abbrev pub line_of : Option MovieContent → MovieContent → EditLine → EditContent
line_of other movie asked = line_on (Unit {0}) other movie asked

-- why a line is refused, where it is
abbrev pub line_refusal : Option MovieContent → MovieContent → EditLine → Option EditRefusal
line_refusal other movie (asks.Change change) = refusal movie (edit_of change)
line_refusal other movie (asks.Retouch retouch) = retouch_refusal movie retouch
line_refusal other movie (asks.CopyOther from count at) = copy_refusal (length (inputs_of other)) from count (length movie.inputs) at

-- the line puts frames in or overwrites some, possibly none: only for such a line may memory be refused
abbrev pub BringsFrames : EditLine → Type 0
BringsFrames (asks.Change change) = BringsCopies change
BringsFrames (asks.Retouch retouch) = Unit {0}
BringsFrames (asks.CopyOther from count at) = Unit {0}

-- a line is made where it is allowed, else refused; where memory is refused it is allowed. Nothing is changed but where it is made
abbrev pub Makes : Option MovieContent → MovieContent → EditLine → Result (Unit {0}) ChangeError → MovieContent → Type 0
Makes other old asked (Ok _) new = (line_refusal other old asked ≡ None) × (new ≡ edited old (line_of other old asked))
Makes other old asked (Err (Refused refused)) new = (line_refusal other old asked ≡ Some refused) × (new ≡ old)
Makes other old asked (Err NoRoom) new = (line_refusal other old asked ≡ None) × (new ≡ old)

-- the same of a line that may ask for nothing: then nothing is done
abbrev pub MakesSaid : Option MovieContent → MovieContent → Option EditLine → Result (Unit {0}) ChangeError → MovieContent → Type 0
MakesSaid other old None (Ok _) new = new ≡ old
MakesSaid other old None (Err error) new = ⊥
MakesSaid other old (Some asked) result new = Makes other old asked result new

-- the movie after some lines, in order
unfoldable pub made_by : Option MovieContent → MovieContent → List EditLine → MovieContent
made_by other movie [] = movie
made_by other movie (asked ∷ lines) = made_by other (edited movie (line_of other movie asked)) lines

-- each of some lines is allowed on what those before it made
unfoldable pub LinesAreAllowed : Option MovieContent → MovieContent → List EditLine → Type 0
LinesAreAllowed other movie [] = Unit {0}
LinesAreAllowed other movie (asked ∷ lines) =
    (line_refusal other movie asked ≡ None) × LinesAreAllowed other (edited movie (line_of other movie asked)) lines

-- each of some lines is one line, and means what it asks for
unfoldable pub AreUnderstood : Option MovieContent → List Said → Type 0
AreUnderstood other [] = Unit {0}
AreUnderstood other (said ∷ lines) = NoByte 10 said.text × Means other said.text said.asked × AreUnderstood other lines

-- the bytes are these lines, and the rest
pub record Reads (other : Option MovieContent) (bytes : List ℕ) (lines : List Said) (rest : List ℕ) : Type 0 where
  pub text : bytes ≡ flat_map said_line lines ++ rest
  pub understood : AreUnderstood other lines

-- the first line isn't understood, or no newline ends it
abbrev pub IsUnclear : Option MovieContent → List ℕ → Type 0
IsUnclear other bytes = (said more : List ℕ) (asked : Option EditLine) → NoByte 10 said → bytes ≡ said ++ 10 ∷ more → Means other said asked → ⊥

-- the first line asks for this
pub record Begins (other : Option MovieContent) (bytes : List ℕ) (asked : EditLine) : Type 0 where
  pub said : List ℕ
  pub more : List ℕ
  pub text : bytes ≡ said ++ 10 ∷ more
  pub whole : NoByte 10 said
  pub means : Means other said (Some asked)

-- the first line is refused so
pub record IsRefused (other : Option MovieContent) (movie : MovieContent) (bytes : List ℕ) (refused : EditRefusal) : Type 0 where
  pub asked : EditLine
  pub first : Begins other bytes asked
  pub is : line_refusal other movie asked ≡ Some refused

-- the first line is allowed, and brings frames, possibly none, for which memory may be refused
pub record AsksForMemory (other : Option MovieContent) (movie : MovieContent) (bytes : List ℕ) : Type 0 where
  pub asked : EditLine
  pub first : Begins other bytes asked
  pub frames : BringsFrames asked
  pub allowed : line_refusal other movie asked ≡ None

-- the fault of a line that isn't made
abbrev pub fault_at : ℕ → ChangeError → ScriptFault
fault_at number (Refused (Place at len)) = PlaceFault number
fault_at number (Refused (Long len)) = LongFault number
fault_at number NoRoom = Memory

-- why nothing is made of the rest of a script: its first line, of this number, isn't understood, or is refused; or
-- is allowed and was refused memory
abbrev pub IsStop : Option MovieContent → MovieContent → List ℕ → ℕ → ScriptFault → Type 0
IsStop other movie rest number (Line at) = (at ≡ number) × (0 < length rest) × IsUnclear other rest
IsStop other movie rest number (PlaceFault at) = (at ≡ number) × ((place len : ℕ) × IsRefused other movie rest (Place place len))
IsStop other movie rest number (LongFault at) = (at ≡ number) × ((len : ℕ) × IsRefused other movie rest (Long len))
IsStop other movie rest number Memory = AsksForMemory other movie rest

-- some lines are read, and what they ask for is made, in order
pub record MakesLines (other : Option MovieContent) (old : MovieContent) (bytes : List ℕ) (new : MovieContent) (lines : List Said) (rest : List ℕ) : Type 0 where
  pub reads : Reads other bytes lines rest
  pub allowed : LinesAreAllowed other old (asked_in lines)
  pub made : new ≡ made_by other old (asked_in lines)

-- what a script makes of a movie: all its lines are made, in order, or those up to the first line at fault
abbrev pub MakesAll : Option MovieContent → MovieContent → List ℕ → MovieContent → Result (Unit {0}) ScriptFault → Type 0
MakesAll other old bytes new (Ok _) = (lines : List Said) × MakesLines other old bytes new lines []
MakesAll other old bytes new (Err fault) =
    (lines : List Said) × (rest : List ℕ) × MakesLines other old bytes new lines rest × IsStop other new rest (length lines + 1) fault
