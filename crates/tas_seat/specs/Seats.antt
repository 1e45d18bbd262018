-- At which histories a seat is answered, and what the seat is afterwards.
use Rattle.std.specs.Prelude.{◌≡◌, ℕ, ◌+◌, List, [], ◌∷◌, ◌++◌, length, drop, Bool, if◌then◌else◌, MatchOption, ◌⊎◌}
use mathlib.Core.List.{IsPrefix}
use Rattle.tas_movie.specs.declared.edit.Edit.{Edit}
use Rattle.tas_published.specs.declared.entry.Entry.{Entry}
use Rattle.tas_green.specs.Window.{IsPlayedNear, both}
use Rattle.tas_published.specs.History.{movie_of}
use Rattle.tas_desk.specs.Parts.{one_part}
use Rattle.tas_desk.specs.Seats.{SeatContent, entry_of}
use Rattle.tas_desk.specs.Work.{IsOneJob, IsTally, KeepsCart}
use Rattle.tas_desk.specs.declared.work.Worked.{Worked as Counted}
use Rattle.tas_desk.specs.Zones.{ZoneContent, CutsWindow, IsMadeFor}
use Rattle.tas_language.specs.declared.command.Command.{Command}
use Rattle.tas_language.specs.declared.command.Command.TheVariants.{Shot, Work}
use Rattle.tas_language.specs.declared.reply.Reply.{Reply}
use Rattle.tas_language.specs.declared.reply.Reply.TheVariants.{Worked, OutOfMemory}
use Rattle.tas_language.specs.Replies.{reply_text}
use Rattle.tas_language.specs.declared.request.Request.{Request}
use Rattle.tas_language.specs.declared.request.Request.TheVariants.{Do, Retouch, Picture, Pictures, History}
use Rattle.tas_seat.specs.Edits.{edits_by_command, requested_edits, made_between}
use Rattle.tas_seat.specs.Turns.{standing_of, IsTurn}
use Rattle.tas_seat.specs.Requests.{TalkState, CommandLeaves, IsLooked, look_text, look_places, IsStrip, IsAnswerTo}
use Rattle.tas_seat.specs.HistoryText.{history_reply_text}

-- a seat's edits as entries of the history, from this serial on
abbrev pub entries_from : {A : Type 0} → ℕ → ℕ → List (Edit A) → List (Entry A)
entries_from number serial [] = []
entries_from number serial (edit ∷ edits) = entry_of number serial edit ∷ entries_from number (serial + 1) edits

-- what a history comes to, and a seat's greenzone
abbrev pub talk_state_at : {A : Type 0} → List (Entry A) → ZoneContent A → TalkState
talk_state_at history zone = record { stands = standing_of history; kept_for = zone.movie; states = zone.states }

-- a seat was answered at a history: it had seen a beginning of this, and has now seen this and, after it, the edits that it made
pub record IsSeatAfter {A : Type 0} (before : SeatContent A) (at : List (Entry A)) (edits : List (Edit A)) (now : SeatContent A) : Type 0 where
  pub begins : IsPrefix before.front at
  pub front : now.front ≡ at ++ entries_from before.number before.made edits
  pub number : now.number ≡ before.number
  pub made : now.made ≡ before.made + length edits

-- the zone is as it was, or its window was only cut for the movie
abbrev pub KeepsWindow : {A : Type 0} → ZoneContent A → ZoneContent A → Type 0
KeepsWindow before now = (now ≡ before) ⊎ CutsWindow before now

-- what a command leaves of the seat's zone and its window: both as they were, but that a `shot` or a `work` may change the zone, and cut the
-- window for the movie
abbrev pub CommandLeavesZone : {A : Type 0} → ZoneContent A → ZoneContent A → Command → Type 0
CommandLeavesZone before now (Shot k) = KeepsWindow before now
CommandLeavesZone before now (Work k) = KeepsWindow before now
CommandLeavesZone before now _ = now ≡ before

-- a look played from zone and window: both were cut for the history's movie, `ran` frames were played from the nearest state of both, for k, and both are
-- filled up to the place `end`
pub record IsZonePlayed {A : Type 0} (before now : ZoneContent A) (front : List (Entry A)) (k end ran : ℕ) : Type 0 where
  pub made : IsMadeFor now front
  pub played : IsPlayedNear before.movie now.movie k end (both before.states before.window) (both now.states now.window) ran

-- what a look leaves of both: it played from them, or they are as they were. What other lines do: their window may be cut, too
abbrev pub LookLeavesZone : {A : Type 0} → SeatContent A → SeatContent A → Request → List ℕ → Type 0
LookLeavesZone before now request answer =
    MatchOption (look_places request) (KeepsWindow before.zone now.zone)
    (λ at. IsLooked (standing_of now.front) (look_text (standing_of now.front) request) (now.zone ≡ before.zone) (IsZonePlayed before.zone now.zone now.front at.0 at.1) answer)

-- what a request leaves of both
abbrev pub LeavesZone : {A : Type 0} → SeatContent A → SeatContent A → Request → List ℕ → Type 0
LeavesZone before now (Do command) answer = CommandLeavesZone before.zone now.zone command
LeavesZone before now (Retouch retouch) answer = now.zone ≡ before.zone
LeavesZone before now request answer = LookLeavesZone before now request answer

-- what the reply to `work K` counts is one job's, for K frames, between what the seat had seen and has now seen. It was stale and gained none, exactly where the cartridge changed between
-- its beginning and its end; else it gained the places of the movie's grid that a lawful zone lacked, after the job's start and up to K or the movie's end, or fewer where somebody edited
-- between, and no more than a zone can have. It isn't stale where no other cartridge is loaded after what the seat had seen
pub record CountsJob {A : Type 0} (before now : List (Entry A)) (k : ℕ) (worked : Counted) : Type 0 where
  pub job : IsOneJob before now k worked
  pub tally : IsTally worked
  pub current : KeepsCart before now → worked.stale ≡ 0

abbrev pub CountsWork : {A : Type 0} → List (Entry A) → List (Entry A) → Command → Reply → Type 0
CountsWork before now (Work k) (Worked jobs kept stale) = CountsJob before now k (record { jobs = jobs; kept = kept; stale = stale })
CountsWork before now _ _ = Unit {0}

-- the same of a request's answer
abbrev pub AnswerCountsWork : {A : Type 0} → List (Entry A) → List (Entry A) → Request → List ℕ → Type 0
AnswerCountsWork before now (Do command) answer = (reply : Reply) × (answer ≡ reply_text reply) × CountsWork before now command reply
AnswerCountsWork before now _ answer = Unit {0}

-- a command is answered at some history, by the definition's reply there
pub record IsAnswered (A : Type 0) (before now : SeatContent A) (command : Command) (reply : Reply) : Type 0 where
  pub at : List (Entry A)
  pub turn : IsTurn (standing_of at) command reply (standing_of now.front)
  pub leaves : CommandLeaves (talk_state_at at before.zone) (talk_state_at now.front now.zone) command reply
  pub seat : IsSeatAfter before at (made_between (standing_of at) (standing_of now.front) (edits_by_command A command)) now
  pub zone : CommandLeavesZone before.zone now.zone command
  pub counts : CountsWork before.front now.front command reply

-- a request is answered at some history, by the definition's answer there; the edits are those that it makes
pub record IsAnsweredAt (A : Type 0) (before now : SeatContent A) (request : Request) (answer : List ℕ) (edits : List (Edit A)) : Type 0 where
  pub at : List (Entry A)
  pub answered : IsAnswerTo (talk_state_at at before.zone) request answer (talk_state_at now.front now.zone)
  pub made : edits ≡ made_between (standing_of at) (standing_of now.front) (requested_edits A (movie_of at) request)
  pub seat : IsSeatAfter before at edits now
  pub zone : LeavesZone before now request answer
  pub counts : AnswerCountsWork before.front now.front request answer

-- a picture of a strip, answered at a history of its own
abbrev pub IsPictureAt : {A : Type 0} → SeatContent A → ℕ → List ℕ → SeatContent A → Type 0
IsPictureAt {A = A} before k answer now = IsAnsweredAt A before now (Picture k) answer []

-- `history FROM` is answered at some history: by the part of it that begins with its entry FROM, or memory was refused. It leaves the seat's greenzone
pub record IsHistoryAnswered (A : Type 0) (before now : SeatContent A) (from : ℕ) (answer : List ℕ) : Type 0 where
  pub no_memory : Bool
  pub answer_is : answer ≡ (if no_memory then reply_text OutOfMemory else history_reply_text (length now.front) from (one_part (drop from now.front)))
  pub zone : now.zone ≡ before.zone
  pub seat : IsSeatAfter before now.front [] now

-- a request is answered, and makes these edits
abbrev pub IsRequestAnswered : (A : Type 0) → SeatContent A → SeatContent A → Request → List ℕ → List (Edit A) → Type 0
IsRequestAnswered A before now (Pictures from to) answer edits = (edits ≡ []) × IsStrip (IsPictureAt {A = A}) before from to answer now
IsRequestAnswered A before now (History from) answer edits = (edits ≡ []) × IsHistoryAnswered A before now from answer
IsRequestAnswered A before now request answer edits = IsAnsweredAt A before now request answer edits
