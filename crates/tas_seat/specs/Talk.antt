-- A seat's conversation: outside a draft each line is answered at a beginning of the desk's history, and these never get shorter.
use Rattle.std.specs.Prelude.{◌≡◌, ℕ, ◌≤◌, min, List, [], ◌∷◌, ◌++◌, length, Option, Some, None, Result, Ok, Err, ◌⊎◌}
use Rattle.std.specs.List.{flat_map}
use Rattle.std.specs.Io.KnownBytes.{Appends, Consumes, IsAtEnd}
use Rattle.byte_text.specs.CutOff.{IsCutOff}
use Rattle.tas_movie.specs.Text.{line}
use Rattle.tas_movie.specs.declared.edit.Edit.{Edit}
pub use Rattle.tas_published.specs.History.{most_counted}
use Rattle.tas_desk.specs.Seats.{SeatContent}
use Rattle.tas_engines.specs.declared.fault.ToolFault.{ToolFault}
use Rattle.tas_engines.specs.declared.fault.ToolFault.TheVariants.{Read, Run}
use Rattle.tas_engines.specs.declared.fault.ReadFault.TheVariants.{Failed}
use Rattle.tas_engines.specs.declared.fault.RunFault.TheVariants.{Write, NoEntry, Foreign, Memory}
use Rattle.byte_text.specs.Splitting.{NoByte}
use Rattle.tas_language.specs.declared.request.Request.{Request}
use Rattle.tas_language.specs.declared.request.Request.TheVariants.{Pictures, Quit}
use Rattle.tas_language.specs.Requests.{IsHeard}
use Rattle.tas_language.specs.declared.unheard.Unheard.TheVariants.{End}
use Rattle.tas_language.specs.Unheard.{unknown_text}
use Rattle.tas_seat.specs.Drafts.{DraftContent}
use Rattle.tas_seat.specs.Conversations.{TalkingSeat, talking, IsLineAnswered}
use Rattle.tas_seat.specs.Outcomes.{IsMiscounted, KeepsSeat, IsLook}

-- ---- lines, one after the other

-- a line without its newline, what it is understood as, its answer, the edits that it makes, and the seat and its draft then
pub record Exchange (A : Type 0) : Type 0 where
  pub said : List ℕ
  pub heard : Option Request
  pub answer : List ℕ
  pub edits : List (Edit A)
  pub next : TalkingSeat A

-- a line is answered by the definition's answer at a history that begins with what its seat had seen; the seat has then seen this history and,
-- after it, the edits that the line makes. In a draft a line is answered at what the draft comes to
pub record IsExchange {A : Type 0} (seat : TalkingSeat A) (exchange : Exchange A) : Type 0 where
  pub whole : NoByte 10 exchange.said
  pub heard : IsHeard exchange.said exchange.heard
  pub answered : IsLineAnswered A seat exchange.next exchange.said exchange.heard exchange.answer exchange.edits

-- each line is answered from where the lines before it left the seat; the last seat is what all of them left
unfoldable pub AreExchanges : {A : Type 0} → TalkingSeat A → List (Exchange A) → TalkingSeat A → Type 0
AreExchanges seat [] last = last ≡ seat
AreExchanges seat (exchange ∷ exchanges) last = IsExchange seat exchange × AreExchanges exchange.next exchanges last

-- what was said, what was answered, and what was made
abbrev pub lines_of : {A : Type 0} → List (Exchange A) → List ℕ
lines_of exchanges = flat_map (λ exchange. line exchange.said) exchanges

abbrev pub answers_of : {A : Type 0} → List (Exchange A) → List ℕ
answers_of exchanges = flat_map (λ exchange. exchange.answer) exchanges

abbrev pub edits_of : {A : Type 0} → List (Exchange A) → List (Edit A)
edits_of exchanges = flat_map (λ exchange. exchange.edits) exchanges

-- ---- the end

-- a line that asks for the end, and what was read after it
pub record IsQuit (rest : List ℕ) : Type 0 where
  pub said : List ℕ
  pub more : List ℕ
  pub is : rest ≡ line said ++ more
  pub whole : NoByte 10 said
  pub heard : IsHeard said (Some Quit)

-- the answer to what comes after the last newline: nothing where nothing stands there, and else a line that isn't understood
abbrev pub last_answer : List ℕ → List ℕ
last_answer [] = []
last_answer (byte ∷ bytes) = unknown_text End

-- the first line of the rest was carried out, but its answer isn't out whole
pub record IsCarriedOut {A : Type 0} (seat : TalkingSeat A) (last : SeatContent A) (rest : List ℕ) (edits : List (Edit A)) (answer : List ℕ) : Type 0 where
  pub exchange : Exchange A
  pub more : List ℕ
  pub is : IsExchange seat exchange
  pub text : rest ≡ line exchange.said ++ more
  pub answer_is : answer ≡ exchange.answer
  pub edits_are : edits ≡ exchange.edits
  pub last_is : last ≡ exchange.next.seat

-- nothing more was done
pub record IsLeft {A : Type 0} (seat : TalkingSeat A) (last : SeatContent A) (edits : List (Edit A)) : Type 0 where
  pub same : last ≡ seat.seat
  pub none : edits ≡ []

-- the first line of the rest asks for a strip of pictures, and no draft is open: the seat is as its first pictures left it, fewer than it asks for
pub record HasDrawn {A : Type 0} (seat : TalkingSeat A) (last : SeatContent A) (rest : List ℕ) : Type 0 where
  pub said : List ℕ
  pub more : List ℕ
  pub from : ℕ
  pub to : ℕ
  pub is : rest ≡ line said ++ more
  pub whole : NoByte 10 said
  pub heard : IsHeard said (Some (Pictures from to))
  pub no_draft : seat.draft ≡ None
  pub kept : KeepsSeat (Pictures from to) seat.seat last

-- nothing more was made, and the seat is as it was, but that the first pictures of a strip may have been drawn
pub record HasLooked {A : Type 0} (seat : TalkingSeat A) (last : SeatContent A) (rest : List ℕ) (edits : List (Edit A)) : Type 0 where
  pub kept : (last ≡ seat.seat) ⊎ HasDrawn seat last rest
  pub none : edits ≡ []

-- the first line of the rest looks through the seat's reader, and no draft is open
pub record AsksToLook (draft : Option DraftContent) (rest : List ℕ) : Type 0 where
  pub said : List ℕ
  pub more : List ℕ
  pub request : Request
  pub is : rest ≡ line said ++ more
  pub whole : NoByte 10 said
  pub heard : IsHeard said (Some request)
  pub look : IsLook request
  pub no_draft : draft ≡ None

-- a write of an answer failed: it was cut off with the answers before it, but these went out whole; the fault reports how many bytes went out
pub record IsAnswerCutOff (told answer : List ℕ) (old new : Option (List ℕ)) (written : ℕ) : Type 0 where
  pub sent : ℕ
  pub cut : IsCutOff old new (told ++ answer) sent
  pub before : length told ≤ sent
  pub count : written ≡ min sent most_counted

-- how a conversation ends before this rest, with these answers out before, and what it has made of the rest: by `quit`; at the end of
-- the input, after the answer to what comes after the last newline; where a read failed, with no whole line unanswered; where a write
-- failed; where memory or a reader's entry was refused; or where the history has another number of the seat's edits than it made, which
-- never comes where the seat alone makes them
abbrev pub TalkEnds : {A : Type 0} → TalkingSeat A → (last : SeatContent A) → (rest told : List ℕ) → List (Edit A) → (input output output' : Option (List ℕ)) → Result (Unit {0}) ToolFault → Type 0
TalkEnds seat last rest told edits input output output' (Ok _) =
    IsLeft seat last edits × ((IsQuit rest × Appends output output' told) ⊎ (NoByte 10 rest × IsAtEnd input × Appends output output' (told ++ last_answer rest)))
TalkEnds seat last rest told edits input output output' (Err (Read Failed)) = IsLeft seat last edits × NoByte 10 rest × Appends output output' told
TalkEnds seat last rest told edits input output output' (Err (Run (Write written))) =
    (answer : List ℕ) × (IsCarriedOut seat last rest edits answer ⊎ (IsLeft seat last edits × NoByte 10 rest × IsAtEnd input × (answer ≡ last_answer rest))) × IsAnswerCutOff told answer output output' written
TalkEnds seat last rest told edits input output output' (Err (Run Memory)) = (HasLooked seat last rest edits ⊎ ((answer : List ℕ) × IsCarriedOut seat last rest edits answer)) × Appends output output' told
TalkEnds seat last rest told edits input output output' (Err (Run NoEntry)) = HasLooked seat last rest edits × AsksToLook seat.draft rest × Appends output output' told
TalkEnds seat last rest told edits input output output' (Err (Run Foreign)) = IsMiscounted seat.seat last
TalkEnds seat last rest told edits input output output' (Err _) = ⊥

-- a seat's conversation, from the seat as it was to the seat as it is, and from what the reader has and the writer holds before to what they
-- have and hold afterwards: what left the reader is the lines that were answered, and the rest before which it ended. It begins with no
-- draft, and one that is open at the end is lost
pub record IsTalk {A : Type 0} (start last : SeatContent A) (input input' output output' : Option (List ℕ)) (result : Result (Unit {0}) ToolFault) : Type 0 where
  pub exchanges : List (Exchange A)
  pub seat : TalkingSeat A
  pub rest : List ℕ
  pub more : List (Edit A)
  pub answered : AreExchanges (talking start None) exchanges seat
  pub left : Consumes input input' (lines_of exchanges ++ rest)
  pub ends : TalkEnds seat last rest (answers_of exchanges) more input' output output' result

-- what the seat made: the edits of the lines that were answered, and of one that was carried out but not answered whole
abbrev pub all_edits : {A : Type 0} {start last : SeatContent A} {input input' output output' : Option (List ℕ)} {result : Result (Unit {0}) ToolFault} → IsTalk start last input input' output output' result → List (Edit A)
all_edits talk = edits_of talk.exchanges ++ talk.more
