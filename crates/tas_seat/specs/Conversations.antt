-- Drafts of conversations: `begin`, `commit` and `drop`, and what the other lines are answered outside a draft and in one.
use Rattle.std.specs.Prelude.{◌≡◌, ℕ, ◌+◌, ◌<◌, ◌≤◌, ◌==◌, nat_lt, List, [], length, Bool, if◌then◌else◌, Option, Some, None, IfSome, ◌⊎◌}
use Rattle.tas_movie.specs.declared.edit.Edit.{Edit}
use Rattle.tas_green.specs.declared.savestate.Savestate.{Savestate}
use Rattle.tas_green.specs.View.{view_of}
use Rattle.tas_green.specs.Window.{AreMovieStates}
use Rattle.tas_published.specs.declared.entry.Entry.{Entry}
use Rattle.tas_published.specs.History.{most_edits}
use Rattle.tas_desk.specs.Seats.{SeatContent}
use Rattle.tas_language.specs.declared.reply.Reply.{Reply}
use Rattle.tas_language.specs.declared.reply.Reply.TheVariants.{Full, OutOfMemory}
use Rattle.tas_language.specs.Replies.{reply_text}
use Rattle.tas_language.specs.declared.draft_reply.DraftReply.TheVariants.{Began, Committed, Moved, Dropped, NoDraft, InDraft}
use Rattle.tas_language.specs.Drafts.{draft_reply_text}
use Rattle.tas_language.specs.Unheard.{why_unheard, unknown_text}
use Rattle.tas_language.specs.declared.request.Request.{Request}
use Rattle.tas_published.specs.Strokes.{edited_by, refusal_in}
use Rattle.tas_seat.specs.Turns.{Standing, standing_of, refusal_reply}
use Rattle.tas_seat.specs.Requests.{TalkState, GainsUnless}
use Rattle.tas_seat.specs.Seats.{talk_state_at, IsSeatAfter, KeepsWindow, IsRequestAnswered}
use Rattle.tas_seat.specs.Subjects.{subject_of}
use Rattle.tas_seat.specs.declared.conversation.Subject.{Subject}
use Rattle.tas_seat.specs.declared.conversation.Subject.TheVariants as subject
use Rattle.tas_seat.specs.Drafts.{DraftContent, fresh_draft, IsDraft, IsDraftAnswered, IsStroke, LeadsTo, HasStroke}

-- ---- `begin`

-- the answer to `begin`
abbrev pub begin_answer : Bool → Standing → List ℕ
begin_answer no_memory stands = if no_memory then reply_text OutOfMemory else draft_reply_text (Began stands.made (length stands.movie.inputs))

-- the draft that it opens: of the movie that was made, with the states that the greenzone then has, and a window
abbrev pub begun_draft : Bool → TalkState → List Savestate → Option DraftContent
begun_draft no_memory next near = if no_memory then None else Some (fresh_draft next.stands.made (view_of next.stands.movie next.states near))

-- the answer to `begin` at what was made and kept so far, and what is made and kept then: the greenzone is brought up to the movie. It opens
-- a draft, or memory was refused
pub record IsBeginAnswer (state : TalkState) (answer : List ℕ) (next : TalkState) (draft : Option DraftContent) : Type 0 where
  pub no_memory : Bool
  pub answer_is : answer ≡ begin_answer no_memory state.stands
  pub stands : next.stands ≡ state.stands
  pub gains : GainsUnless no_memory state next
  pub near : List Savestate
  pub window : AreMovieStates next.stands.movie near
  pub draft_is : draft ≡ begun_draft no_memory next near

-- ---- `commit`

abbrev pub text_of : Option Reply → Option (List ℕ)
text_of None = None
text_of (Some reply) = Some (reply_text reply)

-- the answer to a `commit` of these edits that isn't made: the history has another number of edits than when the draft began; or it has no room
-- for them all; or its movie doesn't allow them, which never comes where this is the draft's base
abbrev pub uncommitted_answer : {A : Type 0} → Standing → ℕ → List (Edit A) → Option (List ℕ)
uncommitted_answer stands at edits =
    if stands.made == at then
    text_of (if nat_lt most_edits (stands.made + length edits) then Some (Full stands.made) else refusal_reply stands.made (refusal_in stands.movie edits))
    else Some (draft_reply_text (Moved stands.made))

-- the answer to `commit` of these edits, where this refuses it
abbrev pub commit_answer : {A : Type 0} → Option (List ℕ) → Standing → List (Edit A) → List ℕ
commit_answer None stands edits = draft_reply_text (Committed (stands.made + length edits) (length (edited_by stands.movie edits).inputs))
commit_answer (Some text) stands edits = text

-- what it makes: all of them, or none
abbrev pub committed_edits : {A : Type 0} → Option (List ℕ) → List (Edit A) → List (Edit A)
committed_edits None edits = edits
committed_edits (Some text) edits = []

-- the draft then: none where they are made
abbrev pub draft_after_commit : Option (List ℕ) → DraftContent → Option DraftContent
draft_after_commit None draft = None
draft_after_commit (Some text) draft = Some draft

-- memory was refused for a commit that the history doesn't refuse: it has as many edits as when the draft began, and room for the draft's, of which
-- there is one at least. Nothing is made, and the draft stays open
pub record IsNoMemoryCommit {A : Type 0} (stands : Standing) (draft : DraftContent) (answer : List ℕ) (edits : List (Edit A)) (next : Option DraftContent) : Type 0 where
  pub count : ℕ
  pub comes_to : HasStroke A draft.base draft.movie count
  pub some : 0 < count
  pub there : stands.made ≡ draft.at
  pub room : stands.made + count ≤ most_edits
  pub answer_is : answer ≡ reply_text OutOfMemory
  pub edits_are : edits ≡ []
  pub draft_is : next ≡ Some draft

-- a draft is committed at what was made so far: the edits that make its movie of its base are made, all of them, and no draft is open then; or
-- none are made, and the draft stays open
pub record IsStrokeAnswer {A : Type 0} (stands : Standing) (draft : DraftContent) (answer : List ℕ) (edits : List (Edit A)) (next : Option DraftContent) : Type 0 where
  pub stroke : List (Edit A)
  pub stroke_is : IsStroke draft.base draft.movie stroke
  pub leads : LeadsTo draft.base stroke draft.movie
  pub answer_is : answer ≡ commit_answer (uncommitted_answer stands draft.at stroke) stands stroke
  pub edits_are : edits ≡ committed_edits (uncommitted_answer stands draft.at stroke) stroke
  pub draft_is : next ≡ draft_after_commit (uncommitted_answer stands draft.at stroke) draft

-- the answer to `commit` of a draft at what was made so far, the edits that it makes, and the draft then
abbrev pub IsCommitAnswer : {A : Type 0} → Standing → DraftContent → List ℕ → List (Edit A) → Option DraftContent → Type 0
IsCommitAnswer stands draft answer edits next = IsNoMemoryCommit stands draft answer edits next ⊎ IsStrokeAnswer stands draft answer edits next

-- ---- lines

-- a seat in a conversation, and its draft where one is open
pub record TalkingSeat (A : Type 0) : Type 0 where
  pub seat : SeatContent A
  pub draft : Option DraftContent

abbrev pub talking : {A : Type 0} → SeatContent A → Option DraftContent → TalkingSeat A
talking seat draft = record { seat = seat; draft = draft }

-- `begin` is answered at the history that the seat has seen then, and the draft begins with the seat's window
pub record IsBegun {A : Type 0} (before : SeatContent A) (now : TalkingSeat A) (answer : List ℕ) : Type 0 where
  pub answered : IsBeginAnswer (talk_state_at now.seat.front before.zone) answer (talk_state_at now.seat.front now.seat.zone) now.draft
  pub seat : IsSeatAfter before now.seat.front [] now.seat
  pub zone : KeepsWindow before.zone now.seat.zone
  pub window : IfSome now.draft (λ draft. draft.near ≡ now.seat.zone.window)

-- `commit` is answered at some history, after which its edits stand, with no other between them
pub record IsCommitted {A : Type 0} (before : SeatContent A) (draft : DraftContent) (now : TalkingSeat A) (answer : List ℕ) (edits : List (Edit A)) : Type 0 where
  pub at : List (Entry A)
  pub answered : IsCommitAnswer (standing_of at) draft answer edits now.draft
  pub zone : now.seat.zone ≡ before.zone
  pub seat : IsSeatAfter before at edits now.seat

-- a line about the draft makes nothing, and leaves the seat
pub record LeavesSeat {A : Type 0} (before : SeatContent A) (now : TalkingSeat A) (edits : List (Edit A)) : Type 0 where
  pub same : now.seat ≡ before
  pub none : edits ≡ []

-- a request about this is answered where no draft is open; `quit` gets no answer
abbrev pub IsAnsweredOutsideOf : Subject → (A : Type 0) → SeatContent A → TalkingSeat A → Request → List ℕ → List (Edit A) → Type 0
IsAnsweredOutsideOf subject.Begin A before now request answer edits = IsBegun before now answer × (edits ≡ [])
IsAnsweredOutsideOf subject.Commit A before now request answer edits = (answer ≡ draft_reply_text NoDraft) × (now.draft ≡ None) × LeavesSeat before now edits
IsAnsweredOutsideOf subject.Drop A before now request answer edits = (answer ≡ draft_reply_text NoDraft) × (now.draft ≡ None) × LeavesSeat before now edits
IsAnsweredOutsideOf subject.Desk A before now request answer edits = IsRequestAnswered A before now.seat request answer edits × (now.draft ≡ None)
IsAnsweredOutsideOf subject.Movie A before now request answer edits = IsRequestAnswered A before now.seat request answer edits × (now.draft ≡ None)
IsAnsweredOutsideOf subject.End A before now request answer edits = ⊥

abbrev pub IsAnsweredOutside : (A : Type 0) → SeatContent A → TalkingSeat A → Request → List ℕ → List (Edit A) → Type 0
IsAnsweredOutside A before now request answer edits = IsAnsweredOutsideOf (subject_of request) A before now request answer edits

-- a request about this is answered in a draft: of those about a movie and of `begin` and `drop` the seat sees nothing
abbrev pub IsAnsweredInsideOf : Subject → (A : Type 0) → SeatContent A → DraftContent → TalkingSeat A → Request → List ℕ → List (Edit A) → Type 0
IsAnsweredInsideOf subject.Begin A before draft now request answer edits = (answer ≡ draft_reply_text InDraft) × (now.draft ≡ Some draft) × LeavesSeat before now edits
IsAnsweredInsideOf subject.Commit A before draft now request answer edits = IsCommitted before draft now answer edits
IsAnsweredInsideOf subject.Drop A before draft now request answer edits = (answer ≡ draft_reply_text Dropped) × (now.draft ≡ None) × LeavesSeat before now edits
IsAnsweredInsideOf subject.Desk A before draft now request answer edits = IsRequestAnswered A before now.seat request answer edits × (now.draft ≡ Some draft)
IsAnsweredInsideOf subject.Movie A before draft now request answer edits =
    (next : DraftContent) × IsDraftAnswered draft request answer next × IsDraft next × (now.draft ≡ Some next) × LeavesSeat before now edits
IsAnsweredInsideOf subject.End A before draft now request answer edits = ⊥

abbrev pub IsAnsweredInside : (A : Type 0) → SeatContent A → DraftContent → TalkingSeat A → Request → List ℕ → List (Edit A) → Type 0
IsAnsweredInside A before draft now request answer edits = IsAnsweredInsideOf (subject_of request) A before draft now request answer edits

-- a request of a conversation is answered
abbrev pub IsTalkAnswered : (A : Type 0) → SeatContent A → Option DraftContent → TalkingSeat A → Request → List ℕ → List (Edit A) → Type 0
IsTalkAnswered A before None now request answer edits = IsAnsweredOutside A before now request answer edits
IsTalkAnswered A before (Some draft) now request answer edits = IsAnsweredInside A before draft now request answer edits

-- a line that isn't understood is answered `unknown` with the reason, and changes nothing
abbrev pub IsLineAnswered : (A : Type 0) → TalkingSeat A → TalkingSeat A → (said : List ℕ) → Option Request → List ℕ → List (Edit A) → Type 0
IsLineAnswered A before now said (Some request) answer edits = IsTalkAnswered A before.seat before.draft now request answer edits
IsLineAnswered A before now said None answer edits = (answer ≡ unknown_text (why_unheard said)) × (edits ≡ []) × (now ≡ before)
