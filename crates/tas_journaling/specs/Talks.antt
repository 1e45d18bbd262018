-- A conversation with a journal: a seat's conversation whose answers wait for the journal.
use Rattle.std.specs.Prelude.{◌≡◌, ℕ, List, [], ◌∷◌, ◌++◌, length, Option, None, Result, Ok, Err}
use Rattle.std.specs.Io.KnownBytes.{Appends, Consumes}
use Rattle.tas_movie.specs.declared.edit.Edit.{Edit}
use Rattle.tas_published.specs.declared.entry.Entry.{Entry}
use Rattle.tas_desk.specs.Seats.{SeatContent, KeepsZone}
use Rattle.tas_seat.specs.Conversations.{TalkingSeat, talking}
use Rattle.tas_seat.specs.Talk.{Exchange, IsExchange, TalkEnds, IsCarriedOut, lines_of, answers_of}
use Rattle.tas_journaling.specs.declared.talking.TalkFault.{TalkFault}
use Rattle.tas_journaling.specs.declared.talking.TalkFault.TheVariants.{Tool, Journal}
use Rattle.tas_journaling.specs.Journals.{JournalContent, IsNoted, HasAll, HasLess}
use Rattle.tas_journaling.specs.Noting.{NoteFacts, EndsBy, NotesEnd, alone_notes}

-- what a conversation reads from and writes to: the bytes that are left of its lines, those that the writer of its answers holds, and its journal, or
-- what it knows of one
pub record WaysWith (J : Type 0) : Type 0 where
  pub input : Option (List ℕ)
  pub output : Option (List ℕ)
  pub journal : J

abbrev pub Ways : Type 0
Ways = WaysWith JournalContent

-- each line is answered as without a journal, from where the lines before it left the seat, which was then shown more of the history, or nothing
unfoldable pub AreShown : {A : Type 0} → TalkingSeat A → List (Exchange A) → TalkingSeat A → Type 0
AreShown seat [] last = last ≡ seat
AreShown {A} seat (exchange ∷ exchanges) last =
    IsExchange seat exchange × (shown : SeatContent A) × KeepsZone exchange.next.seat shown × AreShown (talking shown exchange.next.draft) exchanges last

-- how it ends before this rest, with these answers out before: as without a journal; or the journal failed, and the first line of the rest was
-- carried out, but nothing of its answer is out
abbrev pub NotedEnds : {A : Type 0} → TalkingSeat A → (last : SeatContent A) → (rest told : List ℕ) → List (Edit A) → (input output output' : Option (List ℕ)) → Result (Unit {0}) TalkFault → Type 0
NotedEnds seat last rest told edits input output output' (Ok done) = TalkEnds seat last rest told edits input output output' (Ok done)
NotedEnds seat last rest told edits input output output' (Err (Tool fault)) = TalkEnds seat last rest told edits input output output' (Err fault)
NotedEnds seat last rest told edits input output output' (Err (Journal fault)) = (answer : List ℕ) × IsCarriedOut seat last rest edits answer × Appends output output' told

-- what its journal has then, where `answered` is what the seat had seen after the last answer that is out whole, and `last` what it has seen in the
-- end: the lines of all that the seat has seen, also where an answer was cut off; where a line isn't answered, those of all that it had seen after
-- the last answer; and where the journal failed, after these some first bytes of the next ones, all of these, or none, by the fault
abbrev pub JournalEnds : {A : Type 0} → (head : Option (List ℕ)) → (answered last : List (Entry A)) → JournalContent → Result (Unit {0}) TalkFault → Type 0
JournalEnds head answered last journal result =
    EndsBy (HasAll head last journal) (IsNoted head last journal × (journal.upto ≡ length answered)) (λ fault. HasLess head last journal fault × (journal.upto ≡ length answered)) result

-- a conversation whose answers wait for notes that covered its seat. Without a draft it begins, and one that is open at the end is lost
pub record IsTalkNotedBy {A J : Type 0} (notes : NoteFacts A J) (start last : SeatContent A) (old new : WaysWith J) (result : Result (Unit {0}) TalkFault) : Type 0 where
  pub exchanges : List (Exchange A)
  pub seat : TalkingSeat A
  pub left_at : SeatContent A
  pub rest : List ℕ
  pub more : List (Edit A)
  pub answered : AreShown (talking start None) exchanges seat
  pub left : Consumes old.input new.input (lines_of exchanges ++ rest)
  pub ends : NotedEnds seat left_at rest (answers_of exchanges) more new.input old.output new.output result
  pub shown : KeepsZone left_at last
  pub noted : (head : Option (List ℕ)) → notes.covers head start old.journal → NotesEnd notes head seat.seat last new.journal result

-- a conversation with a journal of its own, which had its head and the lines of all that the seat had seen
abbrev pub IsNotedTalk : {A : Type 0} → (start last : SeatContent A) → (old new : Ways) → Result (Unit {0}) TalkFault → Type 0
IsNotedTalk start last old new result = IsTalkNotedBy alone_notes start last old new result
