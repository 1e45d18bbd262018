-- An answer that waits for notes.
use Rattle.std.specs.Prelude.{◌≡◌, ℕ, List, length, is_some, Option, Some, None, Result, Ok, Err}
use Rattle.std.specs.Io.KnownBytes.{Appends}
use Rattle.byte_text.specs.CutOff.{IsCutOff}
use Rattle.tas_desk.specs.Seats.{SeatContent, KeepsZone}
use Rattle.tas_language.specs.declared.request.Request.{Request}
use Rattle.tas_language.specs.declared.request.Request.TheVariants.{Quit}
use Rattle.tas_seat.specs.Conversations.{TalkingSeat, talking}
use Rattle.tas_seat.specs.Outcomes.{HasTalkAnswer, HasNoTalkAnswer}
use Rattle.tas_journaling.specs.declared.answering.AnswerFault.{AnswerFault}
use Rattle.tas_journaling.specs.declared.answering.AnswerFault.TheVariants.{Talk, Journal, Write}
use Rattle.tas_journaling.specs.Noting.{NoteFacts, KeepsUpBy, may_edit}

-- a request is answered as in a conversation without a journal, by a seat that was then shown the history
pub record IsAnsweredAndShown {A : Type 0} (before now : TalkingSeat A) (request : Request) (answer : List ℕ) : Type 0 where
  pub seat : SeatContent A
  pub answered : HasTalkAnswer A before (talking seat now.draft) request answer
  pub shown : KeepsZone seat now.seat

-- what came of a request: its answer is out, of `size` bytes, and before it the notes were brought up to the seat, as far as the request may have made edits;
-- it asks for the end; it isn't answered; its answer was cut off, and before it the notes were brought up; or they couldn't be, and nothing of its answer
-- is out
abbrev pub IsNotedAnswer : {A J : Type 0} → NoteFacts A J → (before now : TalkingSeat A) → Request → (it it' : J) → (output output' : Option (List ℕ)) → Result (Option ℕ) AnswerFault → Type 0
IsNotedAnswer notes before now request it it' output output' (Ok (Some size)) =
    (answer : List ℕ) × IsAnsweredAndShown before now request answer × Appends output output' answer × KeepsUpBy notes (may_edit (is_some before.draft) request) before.seat now.seat it it' × (size ≡ length answer)
IsNotedAnswer notes before now request it it' output output' (Ok None) = (request ≡ Quit) × (now ≡ before) × (it' ≡ it) × (output' ≡ output)
IsNotedAnswer notes before now request it it' output output' (Err (Talk fault)) = HasNoTalkAnswer before now request fault × (it' ≡ it) × (output' ≡ output)
IsNotedAnswer notes before now request it it' output output' (Err (Write sent)) =
    (answer : List ℕ) × IsAnsweredAndShown before now request answer × IsCutOff output output' answer sent × KeepsUpBy notes (may_edit (is_some before.draft) request) before.seat now.seat it it'
IsNotedAnswer notes before now request it it' output output' (Err (Journal fault)) =
    (answer : List ℕ) × IsAnsweredAndShown before now request answer × (output' ≡ output) × notes.short before.seat now.seat it it' fault

-- what is said to be on the disk is there wherever something of an answer is out
abbrev pub IsKeptBefore : (kept : Type 0) → Result (Option ℕ) AnswerFault → Type 0
IsKeptBefore kept (Ok (Some size)) = kept
IsKeptBefore kept (Ok None) = Unit {0}
IsKeptBefore kept (Err (Talk fault)) = Unit {0}
IsKeptBefore kept (Err (Write sent)) = kept
IsKeptBefore kept (Err (Journal fault)) = Unit {0}
