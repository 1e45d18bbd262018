-- What answers wait for: a journal of one caller, or what one caller knows of a journal that several share.
use Rattle.std.specs.Prelude.{◌≡◌, ℕ, ◌≤◌, List, length, take, not, Bool, true, false, Option, Some, Result, Ok, Err}
use Rattle.tas_published.specs.History.{entries_of}
use Rattle.tas_desk.specs.Seats.{SeatContent}
use Rattle.tas_engines.specs.declared.fault.RunFault.TheVariants.{Write as WriteFailed}
use Rattle.tas_engines.specs.declared.fault.ToolFault.TheVariants.{Run}
use Rattle.tas_language.specs.declared.command.Command.TheVariants.{Load, Edit as EditLine}
use Rattle.tas_language.specs.declared.request.Request.{Request}
use Rattle.tas_language.specs.declared.request.Request.TheVariants.{Do, Retouch, Commit}
use Rattle.tas_journaling.specs.declared.journal.JournalFault.{JournalFault}
use Rattle.tas_journaling.specs.declared.journal.JournalFault.TheVariants as journal
use Rattle.tas_journaling.specs.declared.talking.TalkFault.{TalkFault}
use Rattle.tas_journaling.specs.declared.talking.TalkFault.TheVariants.{Tool, Journal}
use Rattle.tas_journaling.specs.Journals.{JournalContent, IsNoted, HasAll, HasLess}

-- ---- requests

-- a request that may make edits: outside a draft one that loads a cartridge, edits or retouches; in a draft `commit`
abbrev pub may_edit : (in_draft : Bool) → Request → Bool
may_edit in_draft (Do (Load image)) = not in_draft
may_edit in_draft (Do (EditLine change)) = not in_draft
may_edit in_draft (Retouch retouch) = not in_draft
may_edit in_draft Commit = in_draft
may_edit in_draft request = false

-- ---- notes

-- what is known of notes of some type, of a seat whose answers wait for them, and perhaps of the head of their file:
-- `ready` before they are brought up to a seat that was answered a request; `edits` says whether that may have made edits
-- `covers` once they have what its answer needs
-- `short` where they couldn't be brought up, by the fault
-- `rests` at the end of a conversation of which a line isn't answered; `answered` is its seat after the last answer
-- `lacks` at the end of one of which a line isn't noted, by the fault
pub record NoteFacts (A J : Type 0) : Type 1 where
  pub ready : (edits : Bool) → (head : Option (List ℕ)) → SeatContent A → J → Type 0
  pub covers : (head : Option (List ℕ)) → SeatContent A → J → Type 0
  pub short : (before now : SeatContent A) → (old new : J) → JournalFault → Type 0
  pub rests : (head : Option (List ℕ)) → (answered last : SeatContent A) → J → Type 0
  pub lacks : (head : Option (List ℕ)) → (answered last : SeatContent A) → J → JournalFault → Type 0

-- notes are brought up to a seat
abbrev pub KeepsUpBy : {A J : Type 0} → NoteFacts A J → (edits : Bool) → (before now : SeatContent A) → (old new : J) → Type 0
KeepsUpBy notes edits before now old new = (head : Option (List ℕ)) → notes.ready edits head before old → notes.covers head now new

-- by how a conversation ended: its answers are all noted, also one that was cut off; a line isn't answered; or one isn't noted
abbrev pub EndsBy : (whole rest : Type 0) → (JournalFault → Type 0) → Result (Unit {0}) TalkFault → Type 0
EndsBy whole rest lack (Ok done) = whole
EndsBy whole rest lack (Err (Tool (Run (WriteFailed written)))) = whole
EndsBy whole rest lack (Err (Tool fault)) = rest
EndsBy whole rest lack (Err (Journal fault)) = lack fault

abbrev pub NotesEnd : {A J : Type 0} → NoteFacts A J → (head : Option (List ℕ)) → (answered last : SeatContent A) → J → Result (Unit {0}) TalkFault → Type 0
NotesEnd notes head answered last now result = EndsBy (notes.covers head last now) (notes.rests head answered last now) (λ fault. notes.lacks head answered last now fault) result

-- ---- a journal of one caller

-- a journal of what a seat had seen is one of all that it has seen now, its own edits among it: each entry once, in order
abbrev pub KeepsUp : {A : Type 0} → (before now : SeatContent A) → (old new : JournalContent) → Type 0
KeepsUp before now old new = (head : Option (List ℕ)) → IsNoted head before.front old → HasAll head now.front new

-- why the journal has not all of it: memory was refused, and it is as it was; or it takes no more lines
abbrev pub FallsShort : {A : Type 0} → (before now : SeatContent A) → (old new : JournalContent) → JournalFault → Type 0
FallsShort before now old new journal.Memory = new ≡ old
FallsShort before now old new fault = (head : Option (List ℕ)) → IsNoted head before.front old → HasLess head now.front new fault × (new.upto ≡ old.upto) × (new.fault ≡ Some fault)

-- it has all that its seat has seen, whatever the request was; where a line isn't answered, or isn't noted, its lines go on from those that the seat had
-- seen after the last answer
abbrev pub alone_notes : {A : Type 0} → NoteFacts A JournalContent
alone_notes = record {
  ready = λ edits head seat journal. IsNoted head seat.front journal;
  covers = λ head seat journal. HasAll head seat.front journal;
  short = λ before now old new fault. FallsShort before now old new fault;
  rests = λ head answered last journal. IsNoted head last.front journal × (journal.upto ≡ length answered.front);
  lacks = λ head answered last journal fault. HasLess head last.front journal fault × (journal.upto ≡ length answered.front);
}

-- ---- a journal that several share

-- a seat has seen its edits
abbrev pub HasOwn : {A : Type 0} → SeatContent A → Type 0
HasOwn seat = seat.made ≤ entries_of seat.number seat.front

-- and they are among the first entries of the history, as many as its caller was told of
abbrev pub HasOwnIn : {A : Type 0} → SeatContent A → (told : ℕ) → Type 0
HasOwnIn seat told = seat.made ≤ entries_of seat.number (take told seat.front)

abbrev pub IsReadyIn : {A : Type 0} → Bool → SeatContent A → (told : ℕ) → Type 0
IsReadyIn true seat told = HasOwn seat
IsReadyIn false seat told = HasOwnIn seat told

-- a caller is told of all edits of its seat, and of none more where a request can't have made one
abbrev pub shared_notes : {A : Type 0} → NoteFacts A ℕ
shared_notes = record {
  ready = λ edits head seat told. IsReadyIn edits seat told;
  covers = λ head seat told. HasOwnIn seat told;
  short = λ before now old new fault. new ≡ old;
  rests = λ head answered last told. HasOwnIn answered told;
  lacks = λ head answered last told fault. HasOwnIn answered told;
}
