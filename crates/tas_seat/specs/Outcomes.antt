-- What came of a request: an answer, or a fault. What else is here gives names to parts of an answer, for private functions.
use Rattle.std.specs.Prelude.{◌≡◌, ℕ, List, [], ◌∷◌, length, Bool, Option, Some, None, Result, Ok, Err, ◌⊎◌}
use Rattle.tas_movie.specs.declared.edit.Edit.{Edit}
use Rattle.tas_movie.specs.declared.edit.EditRefusal.{EditRefusal}
use Rattle.tas_movie.specs.Edit.{edited}
use Rattle.tas_published.specs.declared.entry.Entry.{Entry}
use Rattle.tas_session.specs.declared.replies.EditError.{EditError}
use Rattle.tas_session.specs.declared.replies.EditError.TheVariants.{Serial, Full as AllMade, Place as OutOfPlace, Long as OverLong, Memory as NoRoom}
use Rattle.tas_published.specs.declared.errors.ShotError.{ShotError}
use Rattle.tas_published.specs.declared.errors.ShotError.TheVariants.{NoEntry as NoShotEntry, NoFrame as NoShotFrame, Memory as NoShotMemory, Halted as ShotHalted}
use Rattle.tas_published.specs.History.{movie_of, entries_of}
use Rattle.tas_desk.specs.Seats.{SeatContent, HasSeen}
use Rattle.tas_engines.specs.declared.fault.RunFault.{RunFault}
use Rattle.tas_engines.specs.declared.fault.RunFault.TheVariants.{NoEntry, Foreign, Memory}
use Rattle.tas_language.specs.declared.reply.Reply.{Reply}
use Rattle.tas_language.specs.declared.reply.Reply.TheVariants.{Full, Place, Long, NoFrame, OutOfMemory}
use Rattle.tas_language.specs.declared.request.Request.{Request}
use Rattle.tas_language.specs.declared.command.Command.TheVariants.{Length, InputAt, Shot}
use Rattle.tas_language.specs.declared.request.Request.TheVariants.{Do, Picture, Pictures, Ram, Digest, Lag}
use Rattle.tas_seat.specs.declared.edit_requests.EditRequest.{EditRequest}
use Rattle.tas_seat.specs.Edits.{made_between}
use Rattle.tas_seat.specs.Turns.{Standing, standing_of, refused_reply, edit_reply, standing_unless, halted_reply}
use Rattle.tas_seat.specs.Requests.{KeepsAll}
use Rattle.tas_seat.specs.Seats.{IsSeatAfter, IsPictureAt, IsRequestAnswered}
use Rattle.tas_seat.specs.Drafts.{DraftContent, KeepsDraft}
use Rattle.tas_seat.specs.Conversations.{TalkingSeat, IsTalkAnswered}
use Rattle.tas_seat.specs.Inside.EditRequests.{requested_refusal, requested_edit}

-- what a refused edit is answered
abbrev pub refused_as : EditError → Result Reply RunFault
refused_as (Serial at counted) = Err Foreign
refused_as (AllMade at) = Ok (Full at)
refused_as (OutOfPlace at place len) = Ok (Place at len)
refused_as (OverLong at len) = Ok (Long at len)
refused_as NoRoom = Ok OutOfMemory

-- what a shot without a picture is answered
abbrev pub unshown_as : ShotError → Result Reply RunFault
unshown_as NoShotEntry = Err NoEntry
unshown_as (NoShotFrame at len) = Ok (NoFrame at len)
unshown_as NoShotMemory = Ok OutOfMemory
unshown_as (ShotHalted at halt) = Ok (halted_reply at halt)

-- the reply to an edit where this refuses it, and what is made then
abbrev pub IsTurnOf : {A : Type 0} → Standing → Option EditRefusal → Edit A → Reply → Standing → Type 0
IsTurnOf stands refused edit reply next =
    (no_memory : Bool) × (reply ≡ edit_reply (refused_reply stands.made refused) no_memory stands.made (length (edited stands.movie edit).inputs))
    × (next ≡ standing_unless (refused_reply stands.made refused) no_memory stands edit)

-- an edit that a line asks for is answered at some history
pub record IsEditAnswered (A : Type 0) (before now : SeatContent A) (asked : EditRequest) (reply : Reply) : Type 0 where
  pub at : List (Entry A)
  pub turn : IsTurnOf (standing_of at) (requested_refusal asked (movie_of at)) (requested_edit (Unit {0}) asked (movie_of at)) reply (standing_of now.front)
  pub zone : now.zone ≡ before.zone
  pub seat : IsSeatAfter before at (made_between (standing_of at) (standing_of now.front) (requested_edit A asked (movie_of at) ∷ [])) now

-- the history that the seat has seen has another number of its edits than it made. Where it was the seat's alone to make them, this never
-- comes
pub record IsMiscounted {A : Type 0} (before now : SeatContent A) : Type 0 where
  pub seen : HasSeen before now
  pub other : entries_of now.number now.front ≡ now.made → ⊥

-- why a command isn't answered
abbrev pub IsUnanswered : {A : Type 0} → SeatContent A → SeatContent A → RunFault → Type 0
IsUnanswered before now NoEntry = now ≡ before
IsUnanswered before now Foreign = IsMiscounted before now
IsUnanswered before now _ = ⊥

-- a request is answered, and makes some edits
abbrev pub HasAnswer : (A : Type 0) → SeatContent A → SeatContent A → Request → List ℕ → Type 0
HasAnswer A before now request answer = (edits : List (Edit A)) × IsRequestAnswered A before now request answer edits

-- what a request that isn't answered leaves
abbrev pub KeepsSeat : {A : Type 0} → Request → SeatContent A → SeatContent A → Type 0
KeepsSeat {A} request before now = KeepsAll (IsPictureAt {A = A}) request before now

-- why a request isn't answered: as a command, but that the first pictures of a strip may have been drawn; or it was carried out, and memory was
-- refused for its answer
abbrev pub HasNoAnswer : {A : Type 0} → SeatContent A → SeatContent A → Request → RunFault → Type 0
HasNoAnswer before now request NoEntry = KeepsSeat request before now
HasNoAnswer before now request Foreign = IsMiscounted before now
HasNoAnswer {A} before now request Memory = KeepsSeat request before now ⊎ ((answer : List ℕ) × HasAnswer A before now request answer)
HasNoAnswer before now request _ = ⊥

-- requests that are answered through the seat's reader; where the desk is asked for another, it answers under its lock
abbrev pub IsLook : Request → Type 0
IsLook (Do Length) = Unit {0}
IsLook (Do (InputAt k)) = Unit {0}
IsLook (Do (Shot k)) = Unit {0}
IsLook (Picture k) = Unit {0}
IsLook (Pictures from to) = Unit {0}
IsLook (Ram k) = Unit {0}
IsLook (Digest k) = Unit {0}
IsLook (Lag from to) = Unit {0}
IsLook _ = ⊥

-- a request of a conversation is answered, and makes some edits
abbrev pub HasTalkAnswer : (A : Type 0) → TalkingSeat A → TalkingSeat A → Request → List ℕ → Type 0
HasTalkAnswer A before now request answer = (edits : List (Edit A)) × IsTalkAnswered A before.seat before.draft now request answer edits

-- no draft is open, before or after, and the seat is as it was, but that the first pictures of a strip may have been drawn
pub record KeepsAtDesk {A : Type 0} (request : Request) (before now : TalkingSeat A) : Type 0 where
  pub seat : KeepsSeat request before.seat now.seat
  pub draft_was : before.draft ≡ None
  pub draft_is : now.draft ≡ None

-- a draft is open: the seat is as it was, and so is the draft, but that the first pictures of a strip may have been drawn in it
pub record KeepsInDraft {A : Type 0} (request : Request) (before now : TalkingSeat A) : Type 0 where
  pub old : DraftContent
  pub next : DraftContent
  pub seat : now.seat ≡ before.seat
  pub draft_was : before.draft ≡ Some old
  pub draft_is : now.draft ≡ Some next
  pub kept : KeepsDraft request old next

-- what a request of a conversation leaves where it isn't answered: seat and draft as they were, but that the first pictures of a strip may have
-- been drawn, in the draft where one is open, else at the desk
abbrev pub KeepsTalk : {A : Type 0} → Request → TalkingSeat A → TalkingSeat A → Type 0
KeepsTalk request before now = KeepsAtDesk request before now ⊎ KeepsInDraft request before now

-- why it isn't answered: as a request of a seat alone
abbrev pub HasNoTalkAnswer : {A : Type 0} → TalkingSeat A → TalkingSeat A → Request → RunFault → Type 0
HasNoTalkAnswer before now request NoEntry = KeepsTalk request before now
HasNoTalkAnswer before now request Foreign = IsMiscounted before.seat now.seat × (now.draft ≡ before.draft)
HasNoTalkAnswer {A} before now request Memory = KeepsTalk request before now ⊎ ((answer : List ℕ) × HasTalkAnswer A before now request answer)
HasNoTalkAnswer before now request _ = ⊥
