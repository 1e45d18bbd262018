-- `tas desk` with a journal: the conversations of several seats on one movie, whose answers wait for one journal.
use Rattle.std.specs.Prelude.{◌≡◌, ℕ, ◌+◌, ◌≤◌, Bool, true, false, List, [], ◌∷◌, length, take, Option, Result, Ok, Err, ◌⊎◌}
use Rattle.std.specs.Io.KnownBytes.{Appends}
use mathlib.Core.List.{IsPrefix}
use Rattle.tas_movie.specs.Content.{MovieContent}
use Rattle.tas_movie.specs.Text.{text2}
use Rattle.tas_movie.specs.declared.edit.Edit.{Edit}
use Rattle.tas_published.specs.declared.entry.Entry.{Entry}
use Rattle.tas_published.specs.History.{movie_of, entries_of}
use Rattle.tas_desk.specs.Seats.{SeatContent}
use Rattle.tas_engines.specs.declared.fault.ReadFault.{ReadFault}
use Rattle.tas_engines.specs.declared.fault.RunFault.{RunFault}
use Rattle.tas_engines.specs.declared.fault.RunFault.TheVariants.{NoPlace, Memory}
use Rattle.tas_engines.specs.declared.fault.SeatFault.TheVariants.{Foreign}
use Rattle.tas_engines.specs.declared.fault.ToolFault.TheVariants.{Read, Run, Seat}
use Rattle.tas_engines.specs.Input.{IsReadWhole, StopsReadingTwo}
use Rattle.tas_engines.specs.Movies.{IsMovieOf, IsMovieFault}
use Rattle.tas_engines.specs.Output.{StopsWriting}
use Rattle.tas_seat.specs.Lines.{DoorFacts}
use Rattle.tas_seat.specs.Histories.{IsInHistory}
use Rattle.tas_journal.specs.Text.{head_text}
use Rattle.tas_journaling.specs.Journals.{JournalContent, IsGivenPart}
use Rattle.tas_journaling.specs.Shared.{HasSynced, IsJournalOf}
use Rattle.tas_journaling.specs.Callers.{IsNotedHeld}
use Rattle.tas_journaling.specs.declared.callers.CallFault.{CallFault}
use Rattle.tas_journaling.specs.declared.callers.CallFault.TheVariants as call
use Rattle.tas_tool.specs.declared.noted_desk_runs.DeskFault.{DeskFault}
use Rattle.tas_tool.specs.declared.noted_desk_runs.DeskFault.TheVariants as failed
use Rattle.tas_tool.specs.Desks.{edits_before, IsBlankZone, IsHistoryOf, HasNotBegun}

-- ---- one history, and its journal

-- what a journal's file has in the end: this head, and the lines of a beginning of the history from the entry `first` on, each once, in order, and nothing else;
-- after a fault perhaps some bytes more of the next ones. The lines of the entries before the next line were brought to the disk
pub record IsFileOf {A : Type 0} (kept : Option (List ℕ) → Type 0) (head : Option (List ℕ)) (first : ℕ) (file : Option (List ℕ)) (history : List (Entry A)) (journal : JournalContent) : Type 0 where
  pub bytes : journal.bytes ≡ file
  pub is : IsJournalOf head first history journal
  pub synced : HasSynced kept head first history journal.upto

-- the same of the file of a desk's journal: its head, with the movie, comes after what the file had, and its first line is that of the third entry
pub record HasDeskJournal {A : Type 0} (kept : Option (List ℕ) → Type 0) (movie : MovieContent) (file file' : Option (List ℕ)) (history : List (Entry A)) (journal : JournalContent) : Type 0 where
  pub head : Option (List ℕ)
  pub head_is : Appends file head (head_text movie)
  pub is : IsFileOf kept head 2 file' history journal

-- a seat's conversation, as the history shows it: as without a journal (`IsSeatOf`). Of the edits that it made, those whose answers went out, whole or in
-- part, are among the first `upto` entries of the history: with those that the seat had made before there are at least as many of its there
pub record IsNotedSeatOf {A D : Type 0} (facts : DoorFacts D) (history : List (Entry A)) (upto number : ℕ) (door door' : D) (end : Result (Unit {0}) CallFault) : Type 0 where
  pub start : SeatContent A
  pub last : SeatContent A
  pub edits : List (Edit A)
  pub answered : List (Edit A)
  pub number_is : start.number ≡ number
  pub made : start.made ≡ edits_before number
  pub begins : IsPrefix (take 2 history) start.front
  pub zone : IsBlankZone start.zone
  pub held : IsNotedHeld facts door door' start last edits answered end
  pub shows : IsInHistory history start last edits
  pub noted : start.made + length answered ≤ entries_of number (take upto history)
  pub not_foreign : end ≡ Err (call.Seat Foreign) → ⊥

-- the history of a desk, with its journal: each seat's conversation is as without one, but that its answers waited for the journal
pub record IsNotedDeskHistory {A D : Type 0} (facts : DoorFacts D) (kept : Option (List ℕ) → Type 0) (movie : MovieContent) (doors doors' : List D) (ends : List (Result (Unit {0}) CallFault)) (file file' : Option (List ℕ)) (history : List (Entry A)) : Type 0 where
  pub journal : JournalContent
  pub has : HasDeskJournal kept movie file file' history journal
  pub desk : IsHistoryOf (λ number door door' end. IsNotedSeatOf facts history journal.upto number door door' end) movie doors doors' ends history

-- ---- the end

-- the fault of the least seat whose conversation ended with one, the first of these ends being the seat's of this number
abbrev pub first_call_fault : ℕ → List (Result (Unit {0}) CallFault) → Result (Unit {0}) DeskFault
first_call_fault number [] = Ok tt
first_call_fault number (Ok _ ∷ ends) = first_call_fault (number + 1) ends
first_call_fault number (Err (call.Seat fault) ∷ ends) = Err (failed.Tool (Seat number fault))
first_call_fault number (Err (call.Journal fault) ∷ ends) = Err (failed.Seat number fault)

-- how a desk ends once all conversations have: the movie is written, and the end is the first fault of the seats; or a write of it failed
abbrev pub NotedDeskEnds : MovieContent → List (Result (Unit {0}) CallFault) → (old new : Option (List ℕ)) → Result (Unit {0}) DeskFault → Type 0
NotedDeskEnds movie ends old new result =
    (Appends old new (text2 movie) × (result ≡ first_call_fault 0 ends)) ⊎ ((fault : RunFault) × (result ≡ Err (failed.Tool (Run fault))) × StopsWriting old new (text2 movie) fault)

-- why no conversation began: memory or a place was refused for the desk, and the journal's file is as it was, or memory was once it had its head; or its head isn't
-- written whole
abbrev pub IsNoNotedBeginning : MovieContent → (file file' : Option (List ℕ)) → Result (Unit {0}) DeskFault → Type 0
IsNoNotedBeginning movie file file' (Err (failed.Tool (Run Memory))) = (file' ≡ file) ⊎ Appends file file' (head_text movie)
IsNoNotedBeginning movie file file' (Err (failed.Tool (Run NoPlace))) = file' ≡ file
IsNoNotedBeginning movie file file' (Err (failed.Journal fault)) = IsGivenPart file file' (head_text movie) fault
IsNoNotedBeginning movie file file' _ = ⊥

-- a desk with a journal on a movie: no conversation began, no door was opened and nothing is written; or one was held at each door, and there is one
-- history, which makes the movie that is written, and of which the journal has a beginning
abbrev pub IsNotedDeskOn : (A : Type 0) → {D : Type 0} → DoorFacts D → (kept : Option (List ℕ) → Type 0) → (doors doors' : List D) → MovieContent → (file file' output output' : Option (List ℕ)) → Bool → Result (Unit {0}) DeskFault → Type 0
IsNotedDeskOn A facts kept doors doors' movie file file' output output' begun result =
    ((begun ≡ false) × IsNoNotedBeginning movie file file' result × HasNotBegun doors doors' output output')
    ⊎ ((begun ≡ true) × (history : List (Entry A)) × (ends : List (Result (Unit {0}) CallFault)) × IsNotedDeskHistory facts kept movie doors doors' ends file file' history × NotedDeskEnds (movie_of history) ends output output' result)

-- nothing was done, and the journal's file is as it was
abbrev pub IsNotedUnread : {D : Type 0} → (doors doors' : List D) → (file file' output output' : Option (List ℕ)) → Bool → Type 0
IsNotedUnread doors doors' file file' output output' begun = (begun ≡ false) × (file' ≡ file) × HasNotBegun doors doors' output output'

-- `tas desk CART MOVIE ..` with `--journal`: reading the two stopped, or they make no movie, and no conversation began; or a desk was opened on the movie
abbrev pub IsNotedDeskRun : (A : Type 0) → {D : Type 0} → DoorFacts D → (kept : Option (List ℕ) → Type 0) → (doors doors' : List D) → (file file' cart cart' movie movie' output output' : Option (List ℕ)) → Bool → Result (Unit {0}) DeskFault → Type 0
IsNotedDeskRun A facts kept doors doors' file file' cart cart' movie movie' output output' begun result =
    ((fault : ReadFault) × (result ≡ Err (failed.Tool (Read fault))) × StopsReadingTwo cart cart' movie movie' fault × IsNotedUnread doors doors' file file' output output' begun)
    ⊎ ((image : List ℕ) × (said : List ℕ) × IsReadWhole cart cart' image × IsReadWhole movie movie' said
    × (((fault : RunFault) × (result ≡ Err (failed.Tool (Run fault))) × IsMovieFault image said fault × IsNotedUnread doors doors' file file' output output' begun)
    ⊎ ((content : MovieContent) × IsMovieOf image said content × IsNotedDeskOn A facts kept doors doors' content file file' output output' begun result)))
