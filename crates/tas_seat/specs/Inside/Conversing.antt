-- What came of a commit. Private functions cite this file.
use Rattle.std.specs.Prelude.{◌≡◌, ◌≢◌, ℕ, Option, Some, None}
use Rattle.tas_desk.specs.Seats.{SeatContent}
use Rattle.tas_engines.specs.declared.fault.RunFault.{RunFault}
use Rattle.tas_engines.specs.declared.fault.RunFault.TheVariants.{Foreign}
use Rattle.tas_language.specs.Replies.{reply_text}
use Rattle.tas_language.specs.Drafts.{draft_reply_text}
use Rattle.tas_language.specs.declared.request.Request.TheVariants.{Commit}
use Rattle.tas_seat.specs.Drafts.{DraftContent}
use Rattle.tas_seat.specs.Conversations.{talking}
use Rattle.tas_seat.specs.Outcomes.{IsMiscounted, HasTalkAnswer}
use Rattle.tas_seat.specs.declared.conversation.Outcome.{Outcome}
use Rattle.tas_seat.specs.declared.conversation.Outcome.TheVariants.{Made, Moved, Refused}

-- whether a history of `long` edits has another number than `at`; which, where it has
abbrev pub HasMoved : ℕ → ℕ → Option ℕ → Type 0
HasMoved at long None = long ≡ at
HasMoved at long (Some now) = (long ≢ at) × (now ≡ long)

-- what came of a commit, and its answer
abbrev pub HasOutcome : (A : Type 0) → SeatContent A → SeatContent A → DraftContent → Outcome → Type 0
HasOutcome A before now draft (Made reply) = HasTalkAnswer A (talking before (Some draft)) (talking now None) Commit (draft_reply_text reply)
HasOutcome A before now draft (Moved reply) = HasTalkAnswer A (talking before (Some draft)) (talking now (Some draft)) Commit (draft_reply_text reply)
HasOutcome A before now draft (Refused reply) = HasTalkAnswer A (talking before (Some draft)) (talking now (Some draft)) Commit (reply_text reply)

-- why nothing came of it
abbrev pub HasNoOutcome : {A : Type 0} → SeatContent A → SeatContent A → RunFault → Type 0
HasNoOutcome before now fault = (fault ≡ Foreign) × IsMiscounted before now
