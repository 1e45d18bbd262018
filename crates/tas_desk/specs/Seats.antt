-- Seats, and what they have seen.
use Rattle.std.specs.Prelude.{◌≡◌, ℕ, ◌+◌, ◌<◌, ◌≤◌, ◌==◌, List, [], ◌∷◌, ◌++◌, length, count_by, Result, Ok, Err, Option, Some, None, MatchResult, OnOk, All}
use mathlib.Core.List.{IsPrefix}
use Rattle.logbook.specs.Pages.{Book}
use Rattle.vcs_inputs.specs.declared.input.Input.{Input}
use Rattle.tas_movie.specs.declared.edit.Edit.{Edit}
use Rattle.tas_movie.specs.Content.{MovieContent}
use Rattle.tas_movie.specs.declared.edit.EditRefusal.{EditRefusal}
use Rattle.tas_movie.specs.declared.edit.EditRefusal.TheVariants.{Place as PlaceRefusal, Long as LongRefusal}
use Rattle.tas_movie.specs.Edit.{edited, IsAllowed}
use Rattle.tas_published.specs.declared.entry.Entry.{Entry}
use Rattle.tas_published.specs.declared.reader_view.ReaderView.{ReaderView}
use Rattle.tas_session.specs.declared.replies.Receipt.{Receipt}
use Rattle.tas_session.specs.declared.replies.EditError.{EditError}
use Rattle.tas_session.specs.declared.replies.EditError.TheVariants.{Serial, Full, Place, Long, Memory}
use Rattle.tas_published.specs.declared.errors.InputError.{InputError}
use Rattle.tas_published.specs.declared.errors.InputError.TheVariants.{NoEntry, NoFrame}
use Rattle.tas_published.specs.History.{movie_of, entries_of}
use Rattle.tas_session.specs.Answers.{answer_edit}
use Rattle.tas_published.specs.Looks.{answer_input}
use Rattle.tas_session.specs.Session.{refusal_at, refusal_by, IsEditError}
use Rattle.tas_published.specs.Published.{KnowsRegistry}
use Rattle.tas_session.specs.declared.replies.Shot.{Shot}
use Rattle.tas_published.specs.declared.errors.ShotError.{ShotError}
use Rattle.tas_published.specs.declared.errors.ShotError.TheVariants.{NoEntry as NoShotEntry, NoFrame as NoShotFrame, Memory as NoShotMemory, Halted as ShotHalted}
use Rattle.tas_desk.specs.Zones.{ZoneContent, IsPlayed, IsViewed}

-- how many seats a desk has at most
abbrev pub most_seats : ℕ
most_seats = 8

-- a seat: its number, how many edits it made, what it has seen of the history, and its greenzone with its window
pub record SeatContent (A : Type 0) : Type 0 where
  pub number : ℕ
  pub made : ℕ
  pub front : List (Entry A)
  pub zone : ZoneContent A

-- a desk that isn't open yet: the registry of its history's versions, the ledger, and how many seats it is to have
pub record UnopenedContent : Type 0 where
  pub registry : Book
  pub ledger : ℕ
  pub seats : ℕ

-- a name as contracts see it: its registry, its ledger and its number of seats
abbrev pub name_of : Book → ℕ → ℕ → UnopenedContent
name_of b l n = record { registry = b; ledger = l; seats = n }

abbrev pub seat_of : {A : Type 0} → ℕ → ℕ → List (Entry A) → ZoneContent A → SeatContent A
seat_of number made front zone = record { number = number; made = made; front = front; zone = zone }

abbrev pub entry_of : {A : Type 0} → ℕ → ℕ → Edit A → Entry A
entry_of seat made edit = record { seat = seat; serial = made; edit = edit }

-- what a seat holds: it and its zone know the registry, and its front has at least as many of its entries as it made
pub record IsSeated {A : Type 0} (v : ReaderView A) (b : Book) (cut sum number made : ℕ) (zone : ZoneContent A) : Type 0 where
  pub knows : KnowsRegistry v b
  pub same : zone.made_for.registry ≡ b
  pub parts : cut ≡ 1
  pub amount : sum ≡ made
  pub fewer : made ≤ entries_of number v.seen

-- as many seats as there are numbers, each number below them, and none twice
pub record IsWhole {A : Type 0} (n : ℕ) (seats : List (SeatContent A)) : Type 0 where
  pub all : length seats ≡ n
  pub below : All (λ seat. seat.number < n) seats
  pub once : (k : ℕ) → count_by (λ seat. seat.number == k) seats ≤ 1

-- what a call did to a seat: it has made as many edits as before, and has seen more, and all that it had seen
pub record HasSeen {A : Type 0} (before now : SeatContent A) : Type 0 where
  pub number : now.number ≡ before.number
  pub made : now.made ≡ before.made
  pub begins : IsPrefix before.front now.front

-- the same of a call that leaves the seat's greenzone as it was
pub record KeepsZone {A : Type 0} (before now : SeatContent A) : Type 0 where
  pub seen : HasSeen before now
  pub zone : now.zone ≡ before.zone

-- what an answer to an edit says of a movie: a receipt's length, and the refusals `Place` and `Long`, are the answer of a session
-- that has this movie alone; the other errors say nothing of it
abbrev pub AnswersEdit : {A : Type 0} → MovieContent → Edit A → Result Receipt EditError → Type 0
AnswersEdit movie edit (Ok receipt) = answer_edit movie edit ≡ Ok receipt.len
AnswersEdit movie edit (Err (Place at place len)) = answer_edit movie edit ≡ Err (PlaceRefusal place len)
AnswersEdit movie edit (Err (Long at len)) = answer_edit movie edit ≡ Err (LongRefusal len)
AnswersEdit movie edit (Err (Serial at counted)) = Unit {0}
AnswersEdit movie edit (Err (Full at)) = Unit {0}
AnswersEdit movie edit (Err Memory) = Unit {0}

-- the answer to an edit that was made or not: it is given at a history that begins with what the seat had seen. Where it
-- was made, the seat's front is this history and the edit, else this history
pub record IsEdited {A : Type 0} (before now : SeatContent A) (edit : Edit A) (answer : Result Receipt EditError) : Type 0 where
  pub at : List (Entry A)
  pub begins : IsPrefix before.front at
  pub receipt : MatchResult answer (λ receipt. receipt ≡ record { at = length at + 1; len = length (edited (movie_of at) edit).inputs }) (λ _. Unit {0})
  pub refusal : MatchResult answer (λ _. refusal_at at before.number before.made edit ≡ None) (IsEditError (refusal_at at before.number before.made edit))
  pub answered : AnswersEdit (movie_of at) edit answer
  pub seat : MatchResult answer
      (λ _. now ≡ seat_of before.number (before.made + 1) (at ++ entry_of before.number before.made edit ∷ []) before.zone)
      (λ _. now ≡ seat_of before.number before.made at before.zone)

-- the same of an edit that depends on the movie in which it is made: that of the history at which it is answered. `refused` and
-- `edit_in` are what refuses it in a movie, and the edit that it is there
pub record IsEditedBy {A : Type 0} (before now : SeatContent A) (refused : MovieContent → Option EditRefusal) (edit_in : MovieContent → Edit A) (answer : Result Receipt EditError) : Type 0 where
  pub at : List (Entry A)
  pub begins : IsPrefix before.front at
  pub receipt : MatchResult answer (λ receipt. receipt ≡ record { at = length at + 1; len = length (edited (movie_of at) (edit_in (movie_of at))).inputs }) (λ _. Unit {0})
  pub refusal : MatchResult answer
      (λ _. refusal_by at before.number before.made (refused (movie_of at)) ≡ None)
      (IsEditError (refusal_by at before.number before.made (refused (movie_of at))))
  pub allowed : OnOk answer (IsAllowed (movie_of at) (edit_in (movie_of at)))
  pub seat : MatchResult answer
      (λ _. now ≡ seat_of before.number (before.made + 1) (at ++ entry_of before.number before.made (edit_in (movie_of at)) ∷ []) before.zone)
      (λ _. now ≡ seat_of before.number before.made at before.zone)

-- the journal goes on from what the seat has seen, and has just as many entries of the seat as it made
pub record IsSettled {A : Type 0} (journal : List (Entry A)) (seat : SeatContent A) : Type 0 where
  pub begins : IsPrefix seat.front journal
  pub exact : entries_of seat.number journal ≡ seat.made

-- the input of frame k of the front, or why there is none
abbrev pub IsInput : {A : Type 0} → SeatContent A → SeatContent A → ℕ → Result (ℕ × Input) InputError → Type 0
IsInput before now k (Ok found) = (found.0 ≡ length now.front) × (answer_input (movie_of now.front) k ≡ Some found.1)
IsInput before now k (Err (NoFrame at len)) = (at ≡ length now.front) × (len ≡ length (movie_of now.front).inputs) × (len ≤ k)
IsInput before now k (Err NoEntry) = now ≡ before

-- what a drawing leaves in the seat's zone, where `left` says what it leaves after this many played frames. Where the reader got
-- no entry the seat is as it was
abbrev pub IsZoneDrawn : {A B : Type 0} → (ℕ → Type 0) → SeatContent A → SeatContent A → Result (Shot B) ShotError → Type 0
IsZoneDrawn left before now (Ok shot) = left shot.ran
IsZoneDrawn left before now (Err NoShotEntry) = now ≡ before
IsZoneDrawn left before now (Err (NoShotFrame at len)) = now.zone ≡ before.zone
IsZoneDrawn left before now (Err NoShotMemory) = now.zone ≡ before.zone
IsZoneDrawn left before now (Err (ShotHalted at halt)) = (ran : ℕ) × left ran

-- what a shot of frame k leaves in the seat's zone
abbrev pub IsZoneShot : {A B : Type 0} → SeatContent A → SeatContent A → ℕ → Result (Shot B) ShotError → Type 0
IsZoneShot before now k result = IsZoneDrawn (IsPlayed before.zone now.zone now.front k) before now result

-- what a view of frame k leaves in the seat's zone and its window
abbrev pub IsZoneViewed : {A B : Type 0} → SeatContent A → SeatContent A → ℕ → Result (Shot B) ShotError → Type 0
IsZoneViewed before now k result = IsZoneDrawn (IsViewed before.zone now.zone now.front k) before now result
