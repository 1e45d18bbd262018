-- A desk's seats on the way from its opening to its end. Private functions cite this file.
use Rattle.std.specs.Prelude.{◌≡◌, ℕ, suc, ◌<◌, ◌≤◌, true, List, [], length, take, All, slice_get, Option, Some, Result, Ok, Err, ◌⊎◌, Vec, vec_len, vec_capacity}
use mathlib.Core.List.{IsPrefix}
use Rattle.vcs_inputs.specs.Cart.{is_cart_size}
use Rattle.tas_movie.specs.Content.{MovieContent}
use Rattle.tas_movie.specs.declared.edit.Edit.{Edit}
use Rattle.tas_published.specs.declared.entry.Entry.{Entry}
use Rattle.tas_published.specs.History.{IsLegal}
use Rattle.tas_desk.specs.Seats.{SeatContent, IsSettled}
use Rattle.tas_engines.specs.declared.fault.ReadFault.{ReadFault}
use Rattle.tas_engines.specs.declared.fault.RunFault.{RunFault}
use Rattle.tas_engines.specs.declared.fault.SeatFault.{SeatFault}
use Rattle.tas_engines.specs.declared.fault.ToolFault.{ToolFault}
use Rattle.tas_engines.specs.declared.fault.ToolFault.TheVariants.{Read, Run}
use Rattle.tas_engines.specs.Input.{IsReadWhole, StopsReading, StopsReadingTwo}
use Rattle.tas_engines.specs.Movies.{IsMovieOf, IsMovieFault}
use Rattle.tas_engines.specs.Tracing.{IsImageFault}
use Rattle.tas_seat.specs.Lines.{DoorFacts, IsHeld}
use Rattle.tas_journaling.specs.declared.callers.CallFault.{CallFault}
use Rattle.tas_journaling.specs.Callers.{WasNoted}
use Rattle.tas_journaling.specs.Journals.{JournalContent}
use Rattle.tas_tool.specs.Desks.{IsBlankZone, IsHistoryOf}
use Rattle.tas_tool.specs.NotedDesks.{IsFileOf, IsNotedSeatOf}
use Rattle.tas_tool.specs.Inside.TwoEdits.{HoldsMovie, IsMakingFault}

-- seats have the numbers from 0 on
abbrev pub AreNumbered : {A : Type 0} → List (SeatContent A) → Type 0
AreNumbered {A} seats = (k : ℕ) (seat : SeatContent A) → slice_get seats k ≡ Some seat → seat.number ≡ k

-- none of them but the first has made an edit
abbrev pub HaveMadeNone : {A : Type 0} → List (SeatContent A) → Type 0
HaveMadeNone {A} seats = (k : ℕ) (seat : SeatContent A) → slice_get seats (suc k) ≡ Some seat → seat.made ≡ 0

-- their greenzones are empty
abbrev pub HaveBlankZones : {A : Type 0} → List (SeatContent A) → Type 0
HaveBlankZones {A} seats = (k : ℕ) (seat : SeatContent A) → slice_get seats k ≡ Some seat → IsBlankZone seat.zone

-- the seats of a desk that was just opened
abbrev pub AreFresh : {A : Type 0} → List (SeatContent A) → Type 0
AreFresh {A} seats = (k : ℕ) (seat : SeatContent A) → slice_get seats k ≡ Some seat → (seat.number ≡ k) × (seat.made ≡ 0) × (seat.front ≡ []) × IsBlankZone seat.zone

-- the first seat made a movie by two edits, and all have seen them
pub record HaveMovie {A : Type 0} (movie : MovieContent) (seats : List (SeatContent A)) : Type 0 where
  pub first : SeatContent A
  pub first_is : slice_get seats 0 ≡ Some first
  pub holds : HoldsMovie first movie
  pub met : (k : ℕ) (seat : SeatContent A) → slice_get seats k ≡ Some seat → IsPrefix (take 2 first.front) seat.front

-- why the first seat didn't make a movie
abbrev pub IsUnmade : {A : Type 0} → List (SeatContent A) → RunFault → Type 0
IsUnmade {A} seats fault = (first : SeatContent A) × (slice_get seats 0 ≡ Some first) × IsMakingFault first fault

-- a seat whose conversation was held, and what the history has of it
pub record IsHeldIn {A D : Type 0} (facts : DoorFacts D) (history : List (Entry A)) (door door' : D) (start : SeatContent A) (end : Result (Unit {0}) SeatFault) : Type 0 where
  pub last : SeatContent A
  pub edits : List (Edit A)
  pub held : IsHeld facts door door' start last edits end
  pub settled : IsSettled history last

-- the conversations of all seats, from what these were to the history that the closed desk leaves
pub record AreHeldIn {A D E : Type 0} (held : D → D → SeatContent A → E → Type 0) (doors doors' : List D) (starts : List (SeatContent A)) (ends : List E) (history : List (Entry A)) : Type 0 where
  pub legal : IsLegal history
  pub back : length doors' ≡ length doors
  pub many : length ends ≡ length doors
  pub each : (k : ℕ) (door door' : D) (start : SeatContent A) (end : E) → slice_get doors k ≡ Some door → slice_get doors' k ≡ Some door' → slice_get starts k ≡ Some start → slice_get ends k ≡ Some end → held door door' start end
  pub no_others : All (λ entry. entry.seat < length doors) history

abbrev pub HoldsAll : {A D : Type 0} → DoorFacts D → (doors doors' : List D) → (starts : List (SeatContent A)) → (ends : List (Result (Unit {0}) SeatFault)) → (history : List (Entry A)) → Type 0
HoldsAll facts doors doors' starts ends history = AreHeldIn (λ door door' start end. IsHeldIn facts history door door' start end) doors doors' starts ends history

-- a seat whose conversation was held with a journal, of which its caller was told so much, and what the history has of it
pub record IsNotedIn {A D : Type 0} (facts : DoorFacts D) (first : ℕ) (history : List (Entry A)) (upto : ℕ) (door door' : D) (start : SeatContent A) (end : Result (Unit {0}) CallFault) : Type 0 where
  pub last : SeatContent A
  pub told : ℕ
  pub was : WasNoted facts first door door' start last told end
  pub settled : IsSettled history last
  pub covered : told ≤ upto

abbrev pub NotesAll : {A D : Type 0} → DoorFacts D → (first : ℕ) → (doors doors' : List D) → (starts : List (SeatContent A)) → (ends : List (Result (Unit {0}) CallFault)) → (history : List (Entry A)) → (upto : ℕ) → Type 0
NotesAll facts first doors doors' starts ends history upto = AreHeldIn (λ door door' start end. IsNotedIn facts first history upto door door' start end) doors doors' starts ends history

-- the same with the journal's file
pub record NotesInto {A D : Type 0} (facts : DoorFacts D) (kept : Option (List ℕ) → Type 0) (head : Option (List ℕ)) (first : ℕ) (doors doors' : List D) (starts : List (SeatContent A)) (ends : List (Result (Unit {0}) CallFault)) (file : Option (List ℕ)) (history : List (Entry A)) : Type 0 where
  pub journal : JournalContent
  pub is : IsFileOf kept head first file history journal
  pub all : NotesAll facts first doors doors' starts ends history journal.upto

-- and of a desk on a movie, whose journal has this head
pub record IsNotedDesk {A D : Type 0} (facts : DoorFacts D) (kept : Option (List ℕ) → Type 0) (head : Option (List ℕ)) (movie : MovieContent) (doors doors' : List D) (ends : List (Result (Unit {0}) CallFault)) (file : Option (List ℕ)) (history : List (Entry A)) : Type 0 where
  pub journal : JournalContent
  pub is : IsFileOf kept head 2 file history journal
  pub desk : IsHistoryOf (λ number door door' end. IsNotedSeatOf facts history journal.upto number door door' end) movie doors doors' ends history

-- a journal's own seat is the one after these, and made no edit
abbrev pub IsOwnSeat : ℕ → (ℕ → ℕ → Type 0) → Type 0
IsOwnSeat count own = (number made : ℕ) → own number made → (number ≡ count) × (made ≡ 0)

-- the seats of a desk on a movie, before the first conversation
pub record IsNotedStart {A : Type 0} (movie : MovieContent) (seats : List (SeatContent A)) : Type 0 where
  pub numbers : AreNumbered seats
  pub others : HaveMadeNone seats
  pub has : HaveMovie movie seats
  pub zones : HaveBlankZones seats

-- an empty list with room for some items
abbrev pub HasRoom : {X A : Type 0} → ℕ → Vec X A → Type 0
HasRoom count items = (vec_len items ≡ 0) × (count ≤ vec_capacity items)

-- a cartridge and a movie text were read, and make this movie; or not
abbrev pub ReadsMovie : (cart cart' movie movie' : Option (List ℕ)) → Result MovieContent ToolFault → Type 0
ReadsMovie cart cart' movie movie' (Ok content) = (image : List ℕ) × (said : List ℕ) × IsReadWhole cart cart' image × IsReadWhole movie movie' said × IsMovieOf image said content
ReadsMovie cart cart' movie movie' (Err end) =
    ((fault : ReadFault) × (end ≡ Read fault) × StopsReadingTwo cart cart' movie movie' fault)
    ⊎ ((image : List ℕ) × (said : List ℕ) × IsReadWhole cart cart' image × IsReadWhole movie movie' said × ((fault : RunFault) × (end ≡ Run fault) × IsMovieFault image said fault))

-- a cartridge was read, and this is the movie of it with no inputs; or not
abbrev pub ReadsCart : (cart cart' : Option (List ℕ)) → Result MovieContent ToolFault → Type 0
ReadsCart cart cart' (Ok content) = (image : List ℕ) × IsReadWhole cart cart' image × (is_cart_size (length image) ≡ true) × (content ≡ record { cart = image; inputs = [] })
ReadsCart cart cart' (Err end) =
    ((fault : ReadFault) × (end ≡ Read fault) × StopsReading cart cart' fault) ⊎ ((image : List ℕ) × IsReadWhole cart cart' image × ((fault : RunFault) × (end ≡ Run fault) × IsImageFault image fault))
