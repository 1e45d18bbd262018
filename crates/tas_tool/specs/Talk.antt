-- Conversations on a desk of one seat: each line is answered at what the lines before it made.
use Rattle.std.specs.Prelude.{◌≡◌, ℕ, ◌+◌, List, [], ◌∷◌, ◌++◌, length, drop, Bool, true, if◌then◌else◌, Option, Some, None, Result, Ok, Err, ◌⊎◌}
use Rattle.std.specs.List.{flat_map}
use Rattle.std.specs.Io.KnownBytes.{Appends, Consumes, IsAtEnd, Keeps}
use Rattle.byte_text.specs.Splitting.{NoByte}
use Rattle.vcs_inputs.specs.Cart.{is_cart_size}
use Rattle.tas_movie.specs.Content.{MovieContent, blank_movie}
use Rattle.tas_movie.specs.Text.{line}
use Rattle.tas_published.specs.declared.entry.Entry.{Entry}
use Rattle.tas_desk.specs.Parts.{one_part}
use Rattle.tas_engines.specs.declared.fault.ReadFault.{ReadFault}
use Rattle.tas_engines.specs.declared.fault.ReadFault.TheVariants.{Failed}
use Rattle.tas_engines.specs.declared.fault.RunFault.{RunFault}
use Rattle.tas_engines.specs.declared.fault.RunFault.TheVariants.{Write, NoPlace, NoEntry, Memory}
use Rattle.tas_engines.specs.declared.fault.ToolFault.{ToolFault}
use Rattle.tas_engines.specs.declared.fault.ToolFault.TheVariants.{Read, Run}
use Rattle.tas_engines.specs.Input.{IsReadWhole, StopsReading, StopsReadingTwo}
use Rattle.tas_engines.specs.Movies.{IsMovieOf, IsMovieFault}
use Rattle.tas_engines.specs.Tracing.{IsImageFault}
use Rattle.tas_language.specs.declared.reply.Reply.TheVariants.{OutOfMemory}
use Rattle.tas_language.specs.Replies.{reply_text}
use Rattle.tas_language.specs.declared.request.Request.{Request}
use Rattle.tas_language.specs.declared.request.Request.TheVariants.{Pictures, History}
use Rattle.tas_language.specs.Requests.{IsHeard}
use Rattle.tas_language.specs.Unheard.{why_unheard, unknown_text}
use Rattle.tas_language.specs.declared.draft_reply.DraftReply.TheVariants.{Dropped, NoDraft, InDraft}
use Rattle.tas_language.specs.Drafts.{draft_reply_text}
use Rattle.tas_seat.specs.Turns.{Standing}
use Rattle.tas_seat.specs.Requests.{TalkState, Rests, IsPictureAnswer, IsStrip, IsAnswerTo as IsAnswerAt}
use Rattle.tas_seat.specs.declared.conversation.Subject.{Subject}
use Rattle.tas_seat.specs.declared.conversation.Subject.TheVariants as subject
use Rattle.tas_seat.specs.Subjects.{subject_of}
use Rattle.tas_seat.specs.Drafts.{DraftContent, IsDraft, IsDraftAnswered}
use Rattle.tas_seat.specs.Conversations.{IsBeginAnswer, IsCommitAnswer}
use Rattle.tas_published.specs.Strokes.{edited_by}
use Rattle.tas_engines.specs.Changes.{EditContent}
use Rattle.tas_seat.specs.Edits.{requested_edits, made_between}
use Rattle.tas_seat.specs.Seats.{entries_from}
use Rattle.tas_seat.specs.HistoryText.{history_reply_text}
use Rattle.tas_seat.specs.Talk.{IsQuit, AsksToLook, IsAnswerCutOff, last_answer}
use Rattle.tas_tool.specs.Scripts.{IsUnmade, standing_at_start}
use Rattle.tas_tool.specs.MovieScripts.{edits_of_movie, standing_of_movie}

-- ---- the answer to one line

-- the edits that were made, as entries of a history: each is the only seat's, whose number is 0
abbrev pub own_entries : List EditContent → List (Entry (Unit {0}))
own_entries edits = entries_from 0 0 edits

-- the answer to `history FROM`, where these edits were made: the part of them that begins there; or memory was refused
pub record IsOwnHistory (state : TalkState) (edits : List EditContent) (from : ℕ) (answer : List ℕ) (next : TalkState) : Type 0 where
  pub no_memory : Bool
  pub answer_is : answer ≡ (if no_memory then reply_text OutOfMemory else history_reply_text (length edits) from (one_part (drop from (own_entries edits))))
  pub rests : next ≡ state

-- the answer to a request at what was made and kept so far, and what is made and kept then. `quit` gets no answer: it ends the
-- conversation
abbrev pub IsAnswerTo : TalkState → List EditContent → Request → List ℕ → TalkState → Type 0
IsAnswerTo state edits (Pictures from to) answer next = IsStrip IsPictureAnswer state from to answer next
IsAnswerTo state edits (History from) answer next = IsOwnHistory state edits from answer next
IsAnswerTo state edits request answer next = IsAnswerAt state request answer next

-- the edits that a request made, from what there was before to what there is then: one, or none
abbrev pub edits_between : TalkState → TalkState → Request → List EditContent
edits_between old new request = made_between old.stands new.stands (requested_edits (Unit {0}) old.stands.movie request)

-- ---- drafts

-- what is made and kept, the edits that were made, one after the other, and the draft where one is open
pub record DraftedState : Type 0 where
  pub state : TalkState
  pub edits : List EditContent
  pub draft : Option DraftContent

abbrev pub drafted : TalkState → List EditContent → Option DraftContent → DraftedState
drafted state edits draft = record { state = state; edits = edits; draft = draft }

-- what is made once these edits are, too
abbrev pub standing_with : Standing → List EditContent → Standing
standing_with stands edits = record { movie = edited_by stands.movie edits; made = stands.made + length edits }

-- `commit` is answered at what was made so far. The greenzone is left, as by an edit
pub record IsOwnCommit (state : TalkState) (edits : List EditContent) (draft : DraftContent) (answer : List ℕ) (next : DraftedState) : Type 0 where
  pub stroke : List EditContent
  pub answered : IsCommitAnswer state.stands draft answer stroke next.draft
  pub stands : next.state.stands ≡ standing_with state.stands stroke
  pub edits_are : next.edits ≡ edits ++ stroke
  pub rests : Rests state next.state

-- a request about this is answered where no draft is open
abbrev pub IsOutsideAnswerOf : Subject → TalkState → List EditContent → Request → List ℕ → DraftedState → Type 0
IsOutsideAnswerOf subject.Begin state edits request answer next = IsBeginAnswer state answer next.state next.draft × (next.edits ≡ edits)
IsOutsideAnswerOf subject.Commit state edits request answer next = (answer ≡ draft_reply_text NoDraft) × (next ≡ drafted state edits None)
IsOutsideAnswerOf subject.Drop state edits request answer next = (answer ≡ draft_reply_text NoDraft) × (next ≡ drafted state edits None)
IsOutsideAnswerOf subject.Desk state edits request answer next = IsAnswerTo state edits request answer next.state × (next.edits ≡ edits ++ edits_between state next.state request) × (next.draft ≡ None)
IsOutsideAnswerOf subject.Movie state edits request answer next = IsAnswerTo state edits request answer next.state × (next.edits ≡ edits ++ edits_between state next.state request) × (next.draft ≡ None)
IsOutsideAnswerOf subject.End state edits request answer next = ⊥

abbrev pub IsOutsideAnswer : TalkState → List EditContent → Request → List ℕ → DraftedState → Type 0
IsOutsideAnswer state edits request answer next = IsOutsideAnswerOf (subject_of request) state edits request answer next

-- a request about this is answered in a draft. `share` and `history` are about what was made so far
abbrev pub IsInsideAnswerOf : Subject → TalkState → List EditContent → DraftContent → Request → List ℕ → DraftedState → Type 0
IsInsideAnswerOf subject.Begin state edits draft request answer next = (answer ≡ draft_reply_text InDraft) × (next ≡ drafted state edits (Some draft))
IsInsideAnswerOf subject.Commit state edits draft request answer next = IsOwnCommit state edits draft answer next
IsInsideAnswerOf subject.Drop state edits draft request answer next = (answer ≡ draft_reply_text Dropped) × (next ≡ drafted state edits None)
IsInsideAnswerOf subject.Desk state edits draft request answer next = IsAnswerTo state edits request answer next.state × (next.edits ≡ edits) × (next.draft ≡ Some draft)
IsInsideAnswerOf subject.Movie state edits draft request answer next = (after : DraftContent) × IsDraftAnswered draft request answer after × IsDraft after × (next ≡ drafted state edits (Some after))
IsInsideAnswerOf subject.End state edits draft request answer next = ⊥

abbrev pub IsInsideAnswer : TalkState → List EditContent → DraftContent → Request → List ℕ → DraftedState → Type 0
IsInsideAnswer state edits draft request answer next = IsInsideAnswerOf (subject_of request) state edits draft request answer next

abbrev pub IsDraftedAnswer : TalkState → List EditContent → Option DraftContent → Request → List ℕ → DraftedState → Type 0
IsDraftedAnswer state edits None request answer next = IsOutsideAnswer state edits request answer next
IsDraftedAnswer state edits (Some draft) request answer next = IsInsideAnswer state edits draft request answer next

-- a line that isn't understood is answered `unknown` with the reason, and changes nothing
abbrev pub IsLineAnswer : DraftedState → (said : List ℕ) → Option Request → List ℕ → DraftedState → Type 0
IsLineAnswer state said (Some request) answer next = IsDraftedAnswer state.state state.edits state.draft request answer next
IsLineAnswer state said None answer next = (answer ≡ unknown_text (why_unheard said)) × (next ≡ state)

-- ---- lines, one after the other

-- a line without its newline, what it is understood as, its answer, and what is made and kept then, with the draft
pub record Exchange : Type 0 where
  pub said : List ℕ
  pub heard : Option Request
  pub answer : List ℕ
  pub next : DraftedState

-- a line is answered at what was made and kept so far
pub record IsExchange (state : DraftedState) (exchange : Exchange) : Type 0 where
  pub whole : NoByte 10 exchange.said
  pub heard : IsHeard exchange.said exchange.heard
  pub answered : IsLineAnswer state exchange.said exchange.heard exchange.answer exchange.next

-- each line is answered at what the lines before it made and left; the last state is what all of them did
unfoldable pub AreExchanges : DraftedState → List Exchange → DraftedState → Type 0
AreExchanges state [] last = last ≡ state
AreExchanges state (exchange ∷ exchanges) last = IsExchange state exchange × AreExchanges exchange.next exchanges last

-- what was said, and what was answered
abbrev pub lines_of : List Exchange → List ℕ
lines_of exchanges = flat_map (λ exchange. line exchange.said) exchanges

abbrev pub answers_of : List Exchange → List ℕ
answers_of exchanges = flat_map (λ exchange. exchange.answer) exchanges

-- ---- the end

-- the answer to the first line of the rest
abbrev pub IsFirstAnswer : DraftedState → List ℕ → List ℕ → Type 0
IsFirstAnswer state rest answer = (exchange : Exchange) × (more : List ℕ) × IsExchange state exchange × (rest ≡ line exchange.said ++ more) × (answer ≡ exchange.answer)

-- the answer that comes next: to the first line of the rest, or, where no more bytes come, to what comes after the last newline
abbrev pub IsNextAnswer : DraftedState → List ℕ → Option (List ℕ) → List ℕ → Type 0
IsNextAnswer state rest input answer = IsFirstAnswer state rest answer ⊎ (NoByte 10 rest × IsAtEnd input × (answer ≡ last_answer rest))

-- how a conversation ends before this rest, with these answers out before: by `quit`; at the end of the input, after the answer to what
-- comes after the last newline; where a read failed, with no whole line unanswered; where a write failed; where memory or
-- a reader's entry was refused; or before the first line, where the desk had no place
abbrev pub TalkEnds : DraftedState → (rest told : List ℕ) → (input output output' : Option (List ℕ)) → Result (Unit {0}) ToolFault → Type 0
TalkEnds state rest told input output output' (Ok _) = (IsQuit rest × Appends output output' told) ⊎ (NoByte 10 rest × IsAtEnd input × Appends output output' (told ++ last_answer rest))
TalkEnds state rest told input output output' (Err (Read Failed)) = NoByte 10 rest × Appends output output' told
TalkEnds state rest told input output output' (Err (Run (Write written))) = (answer : List ℕ) × IsNextAnswer state rest input answer × IsAnswerCutOff told answer output output' written
TalkEnds state rest told input output output' (Err (Run Memory)) = Appends output output' told
TalkEnds state rest told input output output' (Err (Run NoEntry)) = AsksToLook state.draft rest × Appends output output' told
TalkEnds state rest told input output output' (Err (Run NoPlace)) = (rest ≡ []) × (told ≡ []) × Appends output output' told
TalkEnds state rest told input output output' (Err _) = ⊥

-- a conversation from such a state on, from what the reader has and the writer holds before to what they have and hold afterwards:
-- what left the reader is the lines that were answered, and the rest before which it ended
pub record IsTalk (start : DraftedState) (input input' output output' : Option (List ℕ)) (result : Result (Unit {0}) ToolFault) : Type 0 where
  pub exchanges : List Exchange
  pub state : DraftedState
  pub rest : List ℕ
  pub answered : AreExchanges start exchanges state
  pub left : Consumes input input' (lines_of exchanges ++ rest)
  pub ends : TalkEnds state rest (answers_of exchanges) input' output output' result

-- ---- the movie that a conversation leaves

-- nothing was read of the input, and nothing written
pub record IsUntouched (input input' output output' : Option (List ℕ)) : Type 0 where
  pub unread : input' ≡ input
  pub unwritten : Keeps output output'

-- the first line of the rest was carried out, too, and left this movie; its answer isn't out whole
abbrev pub IsCarriedOut : DraftedState → (rest : List ℕ) → MovieContent → Type 0
IsCarriedOut state rest movie = (exchange : Exchange) × (more : List ℕ) × IsExchange state exchange × (rest ≡ line exchange.said ++ more) × (movie ≡ exchange.next.state.stands.movie)

-- the movie that is left where a conversation ends so: what its lines made, and what the line made whose answer wasn't written, or for which memory was refused, where that
-- was carried out. A draft that is open is lost
abbrev pub LeavesMovie : DraftedState → (rest : List ℕ) → MovieContent → Result (Unit {0}) ToolFault → Type 0
LeavesMovie state rest movie (Err (Run (Write written))) = IsCarriedOut state rest movie ⊎ (NoByte 10 rest × (movie ≡ state.state.stands.movie))
LeavesMovie state rest movie (Err (Run Memory)) = IsCarriedOut state rest movie ⊎ (movie ≡ state.state.stands.movie)
LeavesMovie state rest movie _ = movie ≡ state.state.stands.movie

-- what is left: a movie, or none where the conversation didn't begin, since memory or a place was refused
abbrev pub IsLeft : DraftedState → (rest : List ℕ) → Option MovieContent → (input input' output output' : Option (List ℕ)) → Result (Unit {0}) ToolFault → Type 0
IsLeft state rest (Some movie) input input' output output' result = LeavesMovie state rest movie result
IsLeft state rest None input input' output output' result = IsUntouched input input' output output' × ((fault : RunFault) × (result ≡ Err (Run fault)) × IsUnmade fault)

-- a conversation, and what it leaves
pub record IsTalkLeaving (left : Option MovieContent) (start : DraftedState) (input input' output output' : Option (List ℕ)) (result : Result (Unit {0}) ToolFault) : Type 0 where
  pub talk : IsTalk start input input' output output' result
  pub left_is : IsLeft talk.state talk.rest left input input' output output' result

-- ---- conversations over a cartridge or a movie

-- these edits are made, nothing is kept yet, and no draft is open
abbrev pub fresh_talk_state : Standing → List EditContent → DraftedState
fresh_talk_state stands edits = drafted (record { stands = stands; kept_for = blank_movie; states = [] }) edits None

-- what a conversation starts from: a movie that two edits make, or nothing made yet
abbrev pub talk_state_from : Option MovieContent → DraftedState
talk_state_from None = fresh_talk_state standing_at_start []
talk_state_from (Some movie) = fresh_talk_state (standing_of_movie movie) (edits_of_movie (Unit {0}) movie)

-- the cartridge is loaded, and no inputs are put in
abbrev pub cart_talk_state : List ℕ → DraftedState
cart_talk_state image = talk_state_from (Some (record { cart = image; inputs = [] }))

-- how something ends that reads lines and writes answers, from what its reader has and its writer holds before to what they have and hold afterwards
abbrev pub LinesRunTo : Type 0 → Type 1
LinesRunTo E = (input input' output output' : Option (List ℕ)) → Result (Unit {0}) E → Type 0

abbrev pub LinesRun : Type 1
LinesRun = LinesRunTo ToolFault

-- reading the cartridge stopped, or its size is wrong, and the conversation didn't begin; or it goes on from the cartridge. Faults of the files are
-- named by `tool` among those of the conversation
abbrev pub OverCart : {E : Type 0} → (tool : ToolFault → E) → (IsUnbegun : (input input' output output' : Option (List ℕ)) → Type 0) → (IsSuch : DraftedState → LinesRunTo E) → (cart cart' : Option (List ℕ)) → LinesRunTo E
OverCart tool IsUnbegun IsSuch cart cart' input input' output output' result =
    ((fault : ReadFault) × (result ≡ Err (tool (Read fault))) × StopsReading cart cart' fault × IsUnbegun input input' output output')
    ⊎ ((image : List ℕ) × IsReadWhole cart cart' image
    × (((fault : RunFault) × (result ≡ Err (tool (Run fault))) × IsImageFault image fault × IsUnbegun input input' output output')
    ⊎ ((is_cart_size (length image) ≡ true) × IsSuch (cart_talk_state image) input input' output output' result)))

-- reading the cartridge and the movie stopped, or they make no movie, and the conversation didn't begin; or it goes on from the movie
abbrev pub OverMovie : {E : Type 0} → (tool : ToolFault → E) → (IsUnbegun : (input input' output output' : Option (List ℕ)) → Type 0) → (IsSuch : DraftedState → LinesRunTo E) → (cart cart' movie movie' : Option (List ℕ)) → LinesRunTo E
OverMovie tool IsUnbegun IsSuch cart cart' movie movie' input input' output output' result =
    ((fault : ReadFault) × (result ≡ Err (tool (Read fault))) × StopsReadingTwo cart cart' movie movie' fault × IsUnbegun input input' output output')
    ⊎ ((image : List ℕ) × (said : List ℕ) × IsReadWhole cart cart' image × IsReadWhole movie movie' said
    × (((fault : RunFault) × (result ≡ Err (tool (Run fault))) × IsMovieFault image said fault × IsUnbegun input input' output output')
    ⊎ ((content : MovieContent) × IsMovieOf image said content × IsSuch (talk_state_from (Some content)) input input' output output' result)))

-- `tas talk CART`, and `tas talk CART MOVIE`
abbrev pub IsCartTalk : (cart cart' : Option (List ℕ)) → LinesRun
IsCartTalk cart cart' input input' output output' result = OverCart (λ fault. fault) IsUntouched IsTalk cart cart' input input' output output' result

abbrev pub IsMovieTalk : (cart cart' movie movie' : Option (List ℕ)) → LinesRun
IsMovieTalk cart cart' movie movie' input input' output output' result = OverMovie (λ fault. fault) IsUntouched IsTalk cart cart' movie movie' input input' output output' result

-- the same with what they leave, which is no movie where the conversation didn't begin
abbrev pub IsUnbegun : Option MovieContent → (input input' output output' : Option (List ℕ)) → Type 0
IsUnbegun left input input' output output' = IsUntouched input input' output output' × (left ≡ None)

abbrev pub IsCartTalkLeaving : Option MovieContent → (cart cart' : Option (List ℕ)) → LinesRun
IsCartTalkLeaving left cart cart' input input' output output' result = OverCart (λ fault. fault) (IsUnbegun left) (IsTalkLeaving left) cart cart' input input' output output' result

abbrev pub IsMovieTalkLeaving : Option MovieContent → (cart cart' movie movie' : Option (List ℕ)) → LinesRun
IsMovieTalkLeaving left cart cart' movie movie' input input' output output' result = OverMovie (λ fault. fault) (IsUnbegun left) (IsTalkLeaving left) cart cart' movie movie' input input' output output' result
