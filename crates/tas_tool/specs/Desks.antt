-- `tas desk`: the conversations of several seats on one movie.
use Rattle.std.specs.Prelude.{◌≡◌, ℕ, zero, suc, ◌+◌, ◌<◌, ◌≤◌, List, [], ◌∷◌, length, take, All, slice_get, Option, Some, Result, Ok, Err, ◌⊎◌}
use Rattle.std.specs.Io.KnownBytes.{Appends, Keeps}
use mathlib.Core.List.{IsPrefix}
use Rattle.tas_movie.specs.Content.{MovieContent, blank_movie}
use Rattle.tas_movie.specs.Text.{text2}
use Rattle.tas_movie.specs.declared.edit.Edit.{Edit}
use Rattle.tas_published.specs.declared.entry.Entry.{Entry}
use Rattle.tas_published.specs.History.{movie_of, entries_of, IsLegal}
use Rattle.tas_published.specs.Strokes.{edits_in}
use Rattle.tas_desk.specs.Seats.{SeatContent}
use Rattle.tas_desk.specs.Zones.{ZoneContent}
use Rattle.tas_engines.specs.declared.fault.ReadFault.{ReadFault}
use Rattle.tas_engines.specs.declared.fault.RunFault.{RunFault}
use Rattle.tas_engines.specs.declared.fault.RunFault.TheVariants.{NoPlace, Memory}
use Rattle.tas_engines.specs.declared.fault.SeatFault.{SeatFault}
use Rattle.tas_engines.specs.declared.fault.SeatFault.TheVariants.{Foreign}
use Rattle.tas_engines.specs.declared.fault.ToolFault.{ToolFault}
use Rattle.tas_engines.specs.declared.fault.ToolFault.TheVariants.{Read, Run, Seat}
use Rattle.tas_engines.specs.Input.{IsReadWhole, StopsReadingTwo}
use Rattle.tas_engines.specs.Movies.{IsMovieOf, IsMovieFault}
use Rattle.tas_engines.specs.Output.{StopsWriting}
use Rattle.tas_seat.specs.Lines.{DoorFacts, IsHeld}
use Rattle.tas_seat.specs.Histories.{IsInHistory}
use Rattle.tas_tool.specs.MovieScripts.{edits_of_movie}

-- ---- one history

-- how many edits a seat has made when its conversation begins: the first seat's two make the movie
abbrev pub edits_before : ℕ → ℕ
edits_before zero = 2
edits_before (suc number) = 0

-- an empty greenzone: no state is kept in it or in its window, and it was made for the blank movie
pub record IsBlankZone {A : Type 0} (zone : ZoneContent A) : Type 0 where
  pub movie : zone.movie ≡ blank_movie
  pub states : zone.states ≡ []
  pub window : zone.window ≡ []

-- a seat's conversation, as the history shows it. It begins once the seat has seen the movie's two edits, with an empty greenzone; the history
-- begins with all that the seat has seen in the end, and has of the seat just what it had made before and then, in order, the edits of its
-- conversation
pub record IsSeatOf {A D : Type 0} (facts : DoorFacts D) (history : List (Entry A)) (number : ℕ) (door door' : D) (end : Result (Unit {0}) SeatFault) : Type 0 where
  pub start : SeatContent A
  pub last : SeatContent A
  pub edits : List (Edit A)
  pub number_is : start.number ≡ number
  pub made : start.made ≡ edits_before number
  pub begins : IsPrefix (take 2 history) start.front
  pub zone : IsBlankZone start.zone
  pub held : IsHeld facts door door' start last edits end
  pub shows : IsInHistory history start last edits
  pub not_foreign : end ≡ Err Foreign → ⊥

-- a legal history of a desk: its first two entries are the first seat's, load the movie's cartridge and put its inputs in, and so make it; each seat's door and end are those of a
-- conversation that it shows, as `is_seat` says; and nobody else has entries
pub record IsHistoryOf {A D E : Type 0} (is_seat : ℕ → D → D → E → Type 0) (movie : MovieContent) (doors doors' : List D) (ends : List E) (history : List (Entry A)) : Type 0 where
  pub legal : IsLegal history
  pub long : 2 ≤ length history
  pub first : entries_of 0 (take 2 history) ≡ 2
  pub edits : edits_in (take 2 history) ≡ edits_of_movie A movie
  pub movie_is : movie_of (take 2 history) ≡ movie
  pub back : length doors' ≡ length doors
  pub many : length ends ≡ length doors
  pub seats : (k : ℕ) (door door' : D) (end : E) → slice_get doors k ≡ Some door → slice_get doors' k ≡ Some door' → slice_get ends k ≡ Some end → is_seat k door door' end
  pub no_others : All (λ entry. entry.seat < length doors) history

abbrev pub IsDeskHistory : {A D : Type 0} → DoorFacts D → MovieContent → (doors doors' : List D) → List (Result (Unit {0}) SeatFault) → List (Entry A) → Type 0
IsDeskHistory facts movie doors doors' ends history = IsHistoryOf (λ number door door' end. IsSeatOf facts history number door door' end) movie doors doors' ends history

-- ---- the end

-- the fault of the least seat whose conversation ended with one, the first of these ends being the seat's of this number
abbrev pub first_fault : ℕ → List (Result (Unit {0}) SeatFault) → Result (Unit {0}) ToolFault
first_fault number [] = Ok tt
first_fault number (Ok _ ∷ ends) = first_fault (number + 1) ends
first_fault number (Err fault ∷ ends) = Err (Seat number fault)

-- how a desk ends once all conversations have: the movie is written, and the end is the first fault of the seats; or a write of it failed. No memory is taken for its text
abbrev pub DeskEnds : MovieContent → List (Result (Unit {0}) SeatFault) → (old new : Option (List ℕ)) → Result (Unit {0}) ToolFault → Type 0
DeskEnds movie ends old new result =
    (Appends old new (text2 movie) × (result ≡ first_fault 0 ends)) ⊎ ((fault : RunFault) × (result ≡ Err (Run fault)) × StopsWriting old new (text2 movie) fault)

-- nothing was done: no door was opened, and nothing is written
abbrev pub HasNotBegun : {D : Type 0} → (doors doors' : List D) → (old new : Option (List ℕ)) → Type 0
HasNotBegun doors doors' old new = (doors' ≡ doors) × Keeps old new

-- a desk on a movie: memory or a place was refused for it, and no conversation began; or one was held at each door, and there is one
-- history, which makes the movie that is written
abbrev pub IsDeskOn : (A : Type 0) → {D : Type 0} → DoorFacts D → (doors doors' : List D) → MovieContent → (old new : Option (List ℕ)) → Result (Unit {0}) ToolFault → Type 0
IsDeskOn A facts doors doors' movie old new result =
    (((result ≡ Err (Run Memory)) ⊎ (result ≡ Err (Run NoPlace))) × HasNotBegun doors doors' old new)
    ⊎ ((history : List (Entry A)) × (ends : List (Result (Unit {0}) SeatFault)) × IsDeskHistory facts movie doors doors' ends history × DeskEnds (movie_of history) ends old new result)

-- `tas desk CART MOVIE ..`: reading the two stopped, or they make no movie, and no conversation began; or a desk was opened on the movie
abbrev pub IsDeskRun : (A : Type 0) → {D : Type 0} → DoorFacts D → (doors doors' : List D) → (cart cart' movie movie' output output' : Option (List ℕ)) → Result (Unit {0}) ToolFault → Type 0
IsDeskRun A facts doors doors' cart cart' movie movie' output output' result =
    ((fault : ReadFault) × (result ≡ Err (Read fault)) × StopsReadingTwo cart cart' movie movie' fault × HasNotBegun doors doors' output output')
    ⊎ ((image : List ℕ) × (said : List ℕ) × IsReadWhole cart cart' image × IsReadWhole movie movie' said
    × (((fault : RunFault) × (result ≡ Err (Run fault)) × IsMovieFault image said fault × HasNotBegun doors doors' output output')
    ⊎ ((content : MovieContent) × IsMovieOf image said content × IsDeskOn A facts doors doors' content output output' result)))
