-- Conversations of several seats with one journal, each with its door.
use Rattle.std.specs.Prelude.{◌≡◌, ℕ, ◌+◌, ◌≤◌, List, [], ◌++◌, length, take, Option, Result, Ok, Err, ◌⊎◌}
use Rattle.tas_movie.specs.declared.edit.Edit.{Edit}
use Rattle.tas_published.specs.History.{entries_of}
use Rattle.tas_desk.specs.Seats.{SeatContent}
use Rattle.tas_engines.specs.declared.fault.RunFault.TheVariants.{Write as WriteFailed}
use Rattle.tas_engines.specs.declared.fault.ToolFault.TheVariants.{Run}
use Rattle.tas_engines.specs.declared.fault.SeatFault.{SeatFault}
use Rattle.tas_engines.specs.declared.fault.SeatFault.TheVariants.{NotOpened}
use Rattle.tas_seat.specs.Lines.{DoorFacts, seat_end}
use Rattle.tas_seat.specs.Talk.{edits_of}
use Rattle.tas_journaling.specs.declared.talking.TalkFault.{TalkFault}
use Rattle.tas_journaling.specs.declared.talking.TalkFault.TheVariants.{Tool, Journal}
use Rattle.tas_journaling.specs.declared.callers.CallFault.{CallFault}
use Rattle.tas_journaling.specs.declared.callers.CallFault.TheVariants as call
use Rattle.tas_journaling.specs.Noting.{HasOwnIn, shared_notes}
use Rattle.tas_journaling.specs.Talks.{IsTalkNotedBy}

-- how a seat's conversation ended, as one with a journal
abbrev pub as_call : Result (Unit {0}) SeatFault → Result (Unit {0}) CallFault
as_call (Ok u) = Ok u
as_call (Err fault) = Err (call.Seat fault)

abbrev pub call_end : Result (Unit {0}) TalkFault → Result (Unit {0}) CallFault
call_end (Ok u) = Ok u
call_end (Err (Tool fault)) = as_call (seat_end (Err fault))
call_end (Err (Journal fault)) = Err (call.Journal fault)

-- of the edits that were made of the rest, those whose answer went out in part: where a write of it failed
abbrev pub told_edits : {A : Type 0} → List (Edit A) → Result (Unit {0}) TalkFault → List (Edit A)
told_edits more (Err (Tool (Run (WriteFailed written)))) = more
told_edits more result = []

-- a conversation with a shared journal, from the bytes of its ends when it began to those when it ended; of what its caller was told `AreNoted` speaks
pub record IsSharedTalk {A : Type 0} (start last : SeatContent A) (given given' held held' : Option (List ℕ)) (edits answered : List (Edit A)) (ended : Result (Unit {0}) TalkFault) : Type 0 where
  pub told : ℕ
  pub told' : ℕ
  pub talk : IsTalkNotedBy shared_notes start last (record { input = given; output = held; journal = told }) (record { input = given'; output = held'; journal = told' }) ended
  pub all : edits ≡ edits_of talk.exchanges ++ talk.more
  pub answered_are : answered ≡ edits_of talk.exchanges ++ told_edits talk.more ended

-- what came of a seat's door, the edits that were made, and those of them that were answered: those of lines whose answers went out, whole or in part. It
-- couldn't be opened, and the seat is as it was; or a conversation was held, from the bytes of its ends when it was opened to those when it was
-- closed
abbrev pub IsNotedHeld : {A D : Type 0} → DoorFacts D → (door door' : D) → SeatContent A → SeatContent A → (edits answered : List (Edit A)) → Result (Unit {0}) CallFault → Type 0
IsNotedHeld facts door door' start last edits answered end =
    ((end ≡ Err (call.Seat NotOpened)) × facts.refused door' × (last ≡ start) × (edits ≡ []) × (answered ≡ []))
    ⊎ ((input' output' : Option (List ℕ)) × (ended : Result (Unit {0}) TalkFault) × IsSharedTalk start last (facts.given door) input' (facts.held door) output' edits answered ended
    × (end ≡ call_end ended) × facts.left door' input' output')

-- a seat whose edits were among the first entries of the history, as many as come before the journal's first line, has all that were answered among
-- those of which its caller was told in the end; or nothing was answered, and nobody was told of anything
abbrev pub AreNoted : {A : Type 0} → (first : ℕ) → (start last : SeatContent A) → (answered : List (Edit A)) → (told : ℕ) → Type 0
AreNoted first start last answered told = (answered ≡ []) ⊎ (HasOwnIn start first → start.made + length answered ≤ entries_of last.number (take told last.front))

-- some edits were made, and some of them answered, and these are noted
pub record WasNoted {A D : Type 0} (facts : DoorFacts D) (first : ℕ) (door door' : D) (start last : SeatContent A) (told : ℕ) (end : Result (Unit {0}) CallFault) : Type 0 where
  pub edits : List (Edit A)
  pub answered : List (Edit A)
  pub held : IsNotedHeld facts door door' start last edits answered end
  pub noted : AreNoted first start last answered told
