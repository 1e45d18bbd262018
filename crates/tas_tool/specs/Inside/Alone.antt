-- A desk of one seat, and conversations that start from a movie. Private functions cite this file.
use Rattle.std.specs.Prelude.{◌≡◌, ℕ, ◌≤◌, List, [], length, Option, Some, None, Result, Ok, Err}
use Rattle.std.specs.Io.KnownBytes.{Appends}
use Rattle.tas_movie.specs.Content.{MovieContent}
use Rattle.tas_published.specs.History.{entries_of, movie_of}
use Rattle.tas_desk.specs.Seats.{SeatContent}
use Rattle.tas_engines.specs.declared.fault.RunFault.{RunFault}
use Rattle.tas_engines.specs.declared.fault.ToolFault.{ToolFault}
use Rattle.tas_engines.specs.declared.fault.ToolFault.TheVariants.{Run}
use Rattle.tas_journal.specs.Text.{head_text}
use Rattle.tas_journaling.specs.Journals.{JournalContent, IsGivenPart}
use Rattle.tas_journaling.specs.declared.talking.TalkFault.{TalkFault}
use Rattle.tas_journaling.specs.declared.talking.TalkFault.TheVariants.{Tool, Journal}
use Rattle.tas_tool.specs.Talk.{DraftedState, IsTalkLeaving}
use Rattle.tas_tool.specs.NotedTalks.{IsKeptBy, IsNotedTalkLeaving}
use Rattle.tas_tool.specs.Inside.TwoEdits.{HoldsMovie}

-- the only seat of a desk: it has seen no edits but its own, and no more than it made
pub record SeesOwn {A : Type 0} (seat : SeatContent A) : Type 0 where
  pub number : seat.number ≡ 0
  pub few : length seat.front ≤ seat.made
  pub alone : entries_of 0 seat.front ≡ length seat.front

-- a conversation began, and its seat has seen all that it made in the end; or its movie wasn't made
abbrev pub EndsMade : {A : Type 0} → SeatContent A → DraftedState → (input input' output output' : Option (List ℕ)) → Result (Result (Unit {0}) ToolFault) RunFault → Type 0
EndsMade seat start input input' output output' (Ok end) = (seat.made ≤ length seat.front) × IsTalkLeaving (Some (movie_of seat.front)) start input input' output output' end
EndsMade seat start input input' output output' (Err fault) = IsTalkLeaving None start input input' output output' (Err (Run fault))

-- how it ended, and what is left of it where its desk leaves this movie
abbrev pub end_of : Result (Result (Unit {0}) ToolFault) RunFault → Result (Unit {0}) ToolFault
end_of (Ok end) = end
end_of (Err fault) = Err (Run fault)

abbrev pub left_of : Result (Result (Unit {0}) ToolFault) RunFault → MovieContent → Option MovieContent
left_of (Ok end) movie = Some movie
left_of (Err fault) movie = None

-- ---- with a journal

-- a seat was given what its conversation starts from: a movie, by its first two edits, or nothing
abbrev pub IsStarted : {A : Type 0} → SeatContent A → Option MovieContent → Type 0
IsStarted seat None = (seat.made ≡ 0) × (seat.front ≡ [])
IsStarted seat (Some movie) = HoldsMovie seat movie

-- a journal has the head of this movie, after what its file had, and no line yet: the first one will be that of this entry
pub record IsBegun (movie : MovieContent) (from : ℕ) (file : Option (List ℕ)) (journal : JournalContent) : Type 0 where
  pub first : journal.first ≡ from
  pub upto : journal.upto ≡ from
  pub whole : journal.fault ≡ None
  pub head : Appends file journal.bytes (head_text movie)

-- the same of what a conversation starts from
abbrev pub HasHead : DraftedState → (file : Option (List ℕ)) → JournalContent → Type 0
HasHead start file journal = IsBegun start.state.stands.movie (length start.edits) file journal

-- the head isn't written whole, and this is the fault
abbrev pub IsHeadCut : MovieContent → (file file' : Option (List ℕ)) → TalkFault → Type 0
IsHeadCut movie file file' (Tool fault) = ⊥
IsHeadCut movie file file' (Journal fault) = IsGivenPart file file' (head_text movie) fault

-- a conversation with a journal began, and its seat has seen all that it made in the end; or it didn't begin
abbrev pub EndsNoted : {A : Type 0} → SeatContent A → DraftedState → (file file' input input' output output' : Option (List ℕ)) → Result (Result (Unit {0}) TalkFault) TalkFault → Type 0
EndsNoted seat start file file' input input' output output' (Ok end) = (seat.made ≤ length seat.front) × IsNotedTalkLeaving (Some (movie_of seat.front)) file file' start input input' output output' end
EndsNoted seat start file file' input input' output output' (Err fault) = IsNotedTalkLeaving None file file' start input input' output output' (Err fault)

-- what is said to be on the disk is there where one that began ended so
abbrev pub IsKeptOnceMade : (kept : Type 0) → Result (Result (Unit {0}) TalkFault) TalkFault → Type 0
IsKeptOnceMade kept (Ok end) = IsKeptBy kept end
IsKeptOnceMade kept (Err fault) = Unit {0}

abbrev pub noted_end : Result (Result (Unit {0}) TalkFault) TalkFault → Result (Unit {0}) TalkFault
noted_end (Ok end) = end
noted_end (Err fault) = Err fault

abbrev pub noted_left : Result (Result (Unit {0}) TalkFault) TalkFault → MovieContent → Option MovieContent
noted_left (Ok end) movie = Some movie
noted_left (Err fault) movie = None
