-- A desk's seat that makes a movie by its first two edits. Private functions cite this file.
use Rattle.std.specs.Prelude.{◌≡◌, ℕ, ◌<◌, ◌≤◌, ◌==◌, if◌then◌else◌, length, take, None, Result, Ok, Err}
use Rattle.tas_movie.specs.Content.{MovieContent}
use Rattle.tas_movie.specs.declared.edit.Edit.{Edit}
use Rattle.tas_movie.specs.declared.edit.Edit.TheVariants.{Load, Insert}
use Rattle.tas_desk.specs.declared.export.Exported.{Exported}
use Rattle.tas_desk.specs.declared.export.ExportError.{ExportError}
use Rattle.tas_desk.specs.declared.export.ExportError.TheVariants.{Range as OffRange, Memory as OutOfRoom, Halted as HaltedAt, Write as WriteFailed}
use Rattle.tas_session.specs.Session.{refusal_at}
use Rattle.tas_published.specs.History.{movie_of, entries_of}
use Rattle.tas_published.specs.Strokes.{edits_in}
use Rattle.tas_desk.specs.Seats.{SeatContent}
use Rattle.tas_session.specs.declared.replies.EditError.{EditError}
use Rattle.tas_session.specs.declared.replies.EditError.TheVariants.{Memory as NoRoom}
use Rattle.tas_engines.specs.declared.fault.RunFault.{RunFault}
use Rattle.tas_engines.specs.declared.fault.RunFault.TheVariants.{Range, Halted, Write, Foreign, Memory}
use Rattle.tas_engines.specs.Shooting.{halt_fault}
use Rattle.tas_tool.specs.MovieScripts.{edits_of_movie}

-- the seat made two edits, which are the first ones of what it has seen: they load this movie's cartridge and put its inputs in, and so make it
pub record HoldsMovie {A : Type 0} (seat : SeatContent A) (movie : MovieContent) : Type 0 where
  pub made : seat.made ≡ 2
  pub seen : 2 ≤ length seat.front
  pub own : entries_of seat.number (take 2 seat.front) ≡ 2
  pub edits : edits_in (take 2 seat.front) ≡ edits_of_movie A movie
  pub movie_is : movie_of (take 2 seat.front) ≡ movie

-- the seat has seen more edits than it made
abbrev pub HasForeign : {A : Type 0} → SeatContent A → Type 0
HasForeign seat = seat.made < length seat.front

-- this end, if the history at which it was reached has just the two edits; else `Foreign`
abbrev pub unless_foreign : ℕ → Result (Unit {0}) RunFault → Result (Unit {0}) RunFault
unless_foreign at end = if at == 2 then end else Err Foreign

-- what a refused edit is reported as
abbrev pub edit_fault : EditError → RunFault
edit_fault NoRoom = Memory
edit_fault _ = Foreign

-- why the two edits weren't made: being out of memory, or the seat has seen more edits than its own
abbrev pub IsMakingFault : {A : Type 0} → SeatContent A → RunFault → Type 0
IsMakingFault seat Memory = Unit {0}
IsMakingFault seat Foreign = HasForeign seat
IsMakingFault seat _ = ⊥

-- the edit of the two that comes after this many of them
abbrev pub next_edit : (A : Type 0) → MovieContent → ℕ → Edit A
next_edit A movie made = if made == 0 then Load movie.cart else Insert 0 movie.inputs

-- nothing refuses the edit that the seat makes next
abbrev pub IsUnrefused : (A : Type 0) → SeatContent A → MovieContent → Type 0
IsUnrefused A seat movie = refusal_at seat.front seat.number seat.made (next_edit A movie seat.made) ≡ None

-- what a desk's answer to an export is reported as: one that reports on the movie's frames is compared with the two edits
abbrev pub export_end : ℕ → ℕ → Result Exported ExportError → Result (Unit {0}) RunFault
export_end from to (Ok exported) = unless_foreign exported.at (Ok tt)
export_end from to (Err (OffRange at len)) = unless_foreign at (Err (Range from to len))
export_end from to (Err OutOfRoom) = Err Memory
export_end from to (Err (HaltedAt at frame halt)) = unless_foreign at (Err (halt_fault halt))
export_end from to (Err (WriteFailed written error)) = Err (Write written)

-- an answer that reports on the movie's frames stands at just the seat's own edits, and one that reports on others' edits doesn't
abbrev pub StandsAtOwn : {A : Type 0} → SeatContent A → Result (Unit {0}) RunFault → Type 0
StandsAtOwn seat (Ok _) = length seat.front ≡ seat.made
StandsAtOwn seat (Err (Range from to len)) = length seat.front ≡ seat.made
StandsAtOwn seat (Err (Halted at opcode)) = length seat.front ≡ seat.made
StandsAtOwn seat (Err Foreign) = HasForeign seat
StandsAtOwn seat (Err _) = Unit {0}
