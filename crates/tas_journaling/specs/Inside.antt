-- A conversation with a journal on its way. Private functions cite this file.
use Rattle.std.specs.Prelude.{◌≡◌, ℕ, ◌+◌, min, List, [], ◌++◌, length, Bool, Option, Some, None, Result, Ok, Err}
use Rattle.std.specs.Io.KnownBytes.{Appends, Consumes}
use Rattle.byte_text.specs.Splitting.{NoByte}
use Rattle.tas_movie.specs.Text.{line}
use Rattle.tas_movie.specs.declared.edit.Edit.{Edit}
use Rattle.tas_desk.specs.Seats.{SeatContent, KeepsZone}
use Rattle.tas_engines.specs.declared.fault.RunFault.TheVariants.{Write as WriteFailed}
use Rattle.tas_engines.specs.declared.fault.ToolFault.TheVariants.{Run}
use Rattle.tas_language.specs.Held.{HoldsLine}
use Rattle.tas_seat.specs.Conversations.{TalkingSeat, talking}
use Rattle.tas_seat.specs.Talk.{Exchange, IsCarriedOut, lines_of, answers_of, most_counted}
use Rattle.tas_seat.specs.Inside.Talking.{Breaks, IsLineTurn}
use Rattle.tas_journaling.specs.declared.answering.AnswerFault.{AnswerFault}
use Rattle.tas_journaling.specs.declared.answering.AnswerFault.TheVariants as answer
use Rattle.tas_journaling.specs.declared.talking.TalkFault.{TalkFault}
use Rattle.tas_journaling.specs.declared.talking.TalkFault.TheVariants.{Tool, Journal}
use Rattle.tas_journaling.specs.Noting.{NoteFacts}
use Rattle.tas_journaling.specs.Talks.{WaysWith, AreShown, IsTalkNotedBy}

-- the fault of an answer after this many bytes, as that of the conversation
abbrev pub counted_fault : AnswerFault → ℕ → TalkFault
counted_fault (answer.Talk fault) before = Tool (Run fault)
counted_fault (answer.Journal fault) before = Journal fault
counted_fault (answer.Write sent) before = Tool (Run (WriteFailed (min (before + sent) most_counted)))

-- notes that covered a seat cover it now
abbrev pub KeepsAll : {A J : Type 0} → NoteFacts A J → (before now : SeatContent A) → (old new : J) → Type 0
KeepsAll notes before now old new = (head : Option (List ℕ)) → notes.covers head before old → notes.covers head now new

-- why the rest isn't answered, and what was made of it
abbrev pub NotedBreaks : {A : Type 0} → TalkingSeat A → (now : SeatContent A) → List ℕ → List (Edit A) → ℕ → Option (List ℕ) → Option (List ℕ) → TalkFault → Type 0
NotedBreaks seat now rest edits told old new (Tool (Run fault)) = Breaks seat now rest edits told old new fault
NotedBreaks seat now rest edits told old new (Tool fault) = ⊥
NotedBreaks seat now rest edits told old new (Journal fault) = (answer : List ℕ) × IsCarriedOut seat now rest edits answer × Appends old new []

-- and what became of the notes
abbrev pub BreaksNotes : {A J : Type 0} → NoteFacts A J → (before now : SeatContent A) → (old new : J) → TalkFault → Type 0
BreaksNotes notes before now old new (Tool (Run (WriteFailed written))) = KeepsAll notes before now old new
BreaksNotes notes before now old new (Tool fault) = new ≡ old
BreaksNotes notes before now old new (Journal fault) = notes.short before now old new fault

-- a rest isn't answered
pub record IsBroken {A J : Type 0} (notes : NoteFacts A J) (seat : TalkingSeat A) (last : SeatContent A) (it it' : J) (rest : List ℕ) (told : ℕ) (old new : Option (List ℕ)) (fault : TalkFault) : Type 0 where
  pub left_at : SeatContent A
  pub edits : List (Edit A)
  pub breaks : NotedBreaks seat left_at rest edits told old new fault
  pub shown : KeepsZone left_at last
  pub noted : BreaksNotes notes seat.seat last it it' fault

-- a line is answered, asks for the end, or isn't answered
abbrev pub IsNotedTurn : {A J : Type 0} → NoteFacts A J → TalkingSeat A → TalkingSeat A → J → J → List ℕ → ℕ → Option (List ℕ) → Option (List ℕ) → Result (Option ℕ) TalkFault → Type 0
IsNotedTurn {A} notes before now it it' said told old new (Ok (Some written)) =
    (left_at : SeatContent A) × IsLineTurn before (talking left_at now.draft) said told old new (Ok (Some written)) × KeepsZone left_at now.seat × KeepsAll notes before.seat now.seat it it'
IsNotedTurn notes before now it it' said told old new (Ok None) = IsLineTurn before now said told old new (Ok None) × (it' ≡ it)
IsNotedTurn notes before now it it' said told old new (Err fault) = (more : List ℕ) → IsBroken notes before now.seat it it' (line said ++ more) told old new fault

-- a conversation on its way, from the first seat on: what left the reader is the lines that were answered, and a rest
pub record IsUnderway {A J : Type 0} (notes : NoteFacts A J) (start : SeatContent A) (first : WaysWith J) (now : TalkingSeat A) (written : ℕ) (here : WaysWith J) (rest : List ℕ) : Type 0 where
  pub exchanges : List (Exchange A)
  pub all : AreShown (talking start None) exchanges now
  pub left : Consumes first.input here.input (lines_of exchanges ++ rest)
  pub out : Appends first.output here.output (answers_of exchanges)
  pub count : min written most_counted ≡ min (length (answers_of exchanges)) most_counted
  pub noted : KeepsAll notes start now.seat first.journal here.journal

-- a part of the input is answered up to a part of a line, which is held; or the conversation has ended
abbrev pub IsPartTurn : {A J : Type 0} → NoteFacts A J → SeatContent A → WaysWith J → TalkingSeat A → WaysWith J → List ℕ → Bool → Result (Option ℕ) TalkFault → Type 0
IsPartTurn notes start first now here held long (Ok (Some written)) = (said : List ℕ) × NoByte 10 said × HoldsLine said held long × IsUnderway notes start first now written here said
IsPartTurn notes start first now here held long (Ok None) = IsTalkNotedBy notes start now.seat first here (Ok tt)
IsPartTurn notes start first now here held long (Err fault) = IsTalkNotedBy notes start now.seat first here (Err fault)
