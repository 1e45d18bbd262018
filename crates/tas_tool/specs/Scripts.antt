-- Whole scripts.
use Rattle.std.specs.Prelude.{◌≡◌, ℕ, ◌+◌, ◌<◌, List, [], ◌∷◌, ◌++◌, length, Option, Result, Ok, Err, ◌⊎◌}
use Rattle.std.specs.List.{flat_map}
use Rattle.std.specs.Io.KnownBytes.{Appends}
use Rattle.tas_movie.specs.Content.{blank_movie}
use Rattle.tas_movie.specs.Text.{line}
use Rattle.tas_engines.specs.declared.fault.RunFault.{RunFault}
use Rattle.tas_engines.specs.declared.fault.RunFault.TheVariants.{Script, NoPlace, NoEntry, Memory}
use Rattle.tas_engines.specs.declared.fault.ToolFault.{ToolFault}
use Rattle.tas_engines.specs.Input.{IsReadWhole, StopsReading}
use Rattle.tas_engines.specs.Output.{StopsWriting, EndsAfter}
use Rattle.tas_language.specs.declared.command.Command.{Command}
use Rattle.tas_language.specs.Commands.{Says}
use Rattle.byte_text.specs.Splitting.{NoByte}
use Rattle.tas_language.specs.Replies.{reply_text}
use Rattle.tas_seat.specs.Turns.{Unforeseen, Standing, reply_to, standing_after}

-- a line, the command that it is, and what no session of cartridge and inputs alone can say of its reply
pub record Turn : Type 0 where
  pub said : List ℕ
  pub command : Command
  pub unforeseen : Unforeseen

abbrev pub turn_line : Turn → List ℕ
turn_line turn = line turn.said

-- each line says its command
unfoldable pub AreSaid : List Turn → Type 0
AreSaid [] = Unit {0}
AreSaid (turn ∷ turns) = (Says turn.said turn.command × NoByte 10 turn.said) × AreSaid turns

-- what is made after some lines
unfoldable pub standing_after_all : Standing → List Turn → Standing
standing_after_all stands [] = stands
standing_after_all stands (turn ∷ turns) = standing_after_all (standing_after turn.unforeseen stands turn.command) turns

-- the replies to some lines, each at what the lines before it made
unfoldable pub replies_to_all : Standing → List Turn → List ℕ
replies_to_all stands [] = []
replies_to_all stands (turn ∷ turns) =
    reply_text (reply_to turn.unforeseen stands turn.command) ++ replies_to_all (standing_after turn.unforeseen stands turn.command) turns

-- the first line says a command
pub record IsClear (bytes : List ℕ) : Type 0 where
  pub said : List ℕ
  pub more : List ℕ
  pub command : Command
  pub whole : NoByte 10 said
  pub text : bytes ≡ said ++ 10 ∷ more
  pub says : Says said command

-- the first line isn't understood, or no newline ends it
abbrev pub IsUnclear : List ℕ → Type 0
IsUnclear bytes = IsClear bytes → ⊥

-- some lines were read, and the rest wasn't
pub record Reads (bytes : List ℕ) (turns : List Turn) (rest : List ℕ) : Type 0 where
  pub text : bytes ≡ flat_map turn_line turns ++ rest
  pub said : AreSaid turns

-- why the lines after some are not answered: the next one isn't understood, and its number is reported; or it is understood, and
-- memory or a reader's entry was refused. That a desk has another's edit is no cause
abbrev pub IsStop : List ℕ → List Turn → RunFault → Type 0
IsStop rest turns (Script number) = (number ≡ length turns + 1) × (0 < length rest) × IsUnclear rest
IsStop rest turns Memory = IsClear rest
IsStop rest turns NoEntry = IsClear rest
IsStop rest turns _ = ⊥

-- the replies to a script that goes on from these own edits, and how it ends: all lines are answered, or the first ones up to a fault
abbrev pub Answers : Standing → List ℕ → List ℕ → Result (Unit {0}) RunFault → Type 0
Answers start bytes text (Ok _) = (turns : List Turn) × Reads bytes turns [] × (text ≡ replies_to_all start turns)
Answers start bytes text (Err fault) = (turns : List Turn) × (rest : List ℕ) × Reads bytes turns rest × (text ≡ replies_to_all start turns) × IsStop rest turns fault

-- why a script has no desk, or none with its movie: there was no place on it, or memory was refused
abbrev pub IsUnmade : RunFault → Type 0
IsUnmade NoPlace = Unit {0}
IsUnmade Memory = Unit {0}
IsUnmade _ = ⊥

-- the replies to a script on a desk of its own that begins with this, and how it ends: there is no such desk, and no reply; or the
-- lines are answered from there on
abbrev pub AnswersFrom : Standing → List ℕ → List ℕ → Result (Unit {0}) RunFault → Type 0
AnswersFrom start bytes text (Ok u) = Answers start bytes text (Ok u)
AnswersFrom start bytes text (Err fault) = ((text ≡ []) × IsUnmade fault) ⊎ Answers start bytes text (Err fault)

-- nothing is made yet
abbrev pub standing_at_start : Standing
standing_at_start = record { movie = blank_movie; made = 0 }

-- the replies to a script are written, and the script ended so
abbrev pub WritesReplies : (List ℕ → Result (Unit {0}) RunFault → Type 0) → Option (List ℕ) → Option (List ℕ) → Result (Unit {0}) RunFault → Type 0
WritesReplies answers old new end = (text : List ℕ) × answers text end × Appends old new text

-- a write of the replies failed
pub record BreaksOffReplies (answers : List ℕ → Result (Unit {0}) RunFault → Type 0) (old new : Option (List ℕ)) (fault : RunFault) : Type 0 where
  pub text : List ℕ
  pub end : Result (Unit {0}) RunFault
  pub answer : answers text end
  pub stops : StopsWriting old new text fault

-- how a script with such replies ends
abbrev pub EndsWithReplies : (List ℕ → Result (Unit {0}) RunFault → Type 0) → Option (List ℕ) → Option (List ℕ) → Result (Unit {0}) RunFault → Type 0
EndsWithReplies answers old new (Ok u) = WritesReplies answers old new (Ok u)
EndsWithReplies answers old new (Err fault) = WritesReplies answers old new (Err fault) ⊎ BreaksOffReplies answers old new fault

-- how a script that was read ends
abbrev pub RunsScript : List ℕ → Option (List ℕ) → Option (List ℕ) → Result (Unit {0}) RunFault → Type 0
RunsScript bytes old new end = EndsWithReplies (AnswersFrom standing_at_start bytes) old new end

-- `tas script`, from what the reader has and the writer holds before to what they have and hold afterwards
abbrev pub IsScriptRun : (input input' output output' : Option (List ℕ)) → Result (Unit {0}) ToolFault → Type 0
IsScriptRun input input' output output' result =
    EndsAfter (StopsReading input input') (λ end. (bytes : List ℕ) × IsReadWhole input input' bytes × RunsScript bytes output output' end) output output' result
