-- Requests of a conversation, by what they are about: the desk, the movie, the draft.
use Rattle.std.proofs.Common.{◌≡◌, ℕ, List, [], Option, Some, None, Result, Ok, Err, inl, inr, refl, sym, ap, subst, ◌∙◌}
use Rattle.std.specs.Prelude.{MatchResult, MatchOption}
use Rattle.tas_desk.specs.Seats.{SeatContent}
use Rattle.tas_engines.specs.declared.fault.RunFault.{RunFault}
use Rattle.tas_engines.specs.declared.fault.RunFault.TheVariants.{NoEntry, Memory, Foreign, Write, Size, Text, NoFrame as OffMovie, Range as OffRange, Halted as Stopped, HaltedFrame as StoppedFrame, Script, Place, Long, Names as NoNames, NoPlace}
use Rattle.tas_language.specs.declared.request.Request.{Request}
use Rattle.tas_language.specs.declared.request.Request.TheVariants.{Do, Retouch, Picture, Pictures, Ram, Digest, Lag, Inputs, Movie, States, Share, History, Version, Begin, Commit, Drop, Quit}
use Rattle.tas_seat.specs.declared.conversation.Subject.{Subject}
use Rattle.tas_seat.specs.declared.conversation.Subject.TheVariants.{Begin as AboutBegin, Commit as AboutCommit, Drop as AboutDrop, Desk as AboutDesk, Movie as AboutMovie, End as AboutEnd}
use Rattle.tas_seat.specs.Subjects.{subject_of, IsOfTalk, IsAboutTalk, IsOfDesk, IsAboutDesk}
use Rattle.tas_seat.specs.Drafts.{DraftContent, IsDraft, IsDraftAnswered, IsDraftUnanswered}
use Rattle.tas_seat.specs.Seats.{IsPictureAt}
use Rattle.tas_seat.specs.Conversations.{TalkingSeat, talking, IsAnsweredOutsideOf, IsAnsweredInsideOf}
use Rattle.tas_seat.specs.Outcomes.{HasAnswer, HasNoAnswer, KeepsSeat, KeepsTalk, HasTalkAnswer, HasNoTalkAnswer}
use Rattle.tas_seat.proofs.StripLemmas.{same_or_strip}

-- ---- what a request's subject says of it

-- a request about one subject: of a conversation's own it is the one that is about it
abbrev IsOf : Request → Subject → Type 0
IsOf request AboutBegin = request ≡ Begin
IsOf request AboutCommit = request ≡ Commit
IsOf request AboutDrop = request ≡ Drop
IsOf request AboutEnd = request ≡ Quit
IsOf request AboutDesk = Unit {0}
IsOf request AboutMovie = Unit {0}

is_of : (request : Request) → IsOf request (subject_of request)
is_of (Do command) = tt
is_of (Retouch retouch) = tt
is_of (Picture k) = tt
is_of (Pictures from to) = tt
is_of (Ram k) = tt
is_of (Digest k) = tt
is_of (Lag a b) = tt
is_of (Inputs a b) = tt
is_of Movie = tt
is_of States = tt
is_of Share = tt
is_of (History from) = tt
is_of Version = tt
is_of Begin = refl
is_of Commit = refl
is_of Drop = refl
is_of Quit = refl

-- a request is what its subject, by any name, says of it
of_subject : (request : Request) (about : Subject) → subject_of request ≡ about → IsOf request about
of_subject request about is = subst (IsOf request) is (is_of request)

-- ---- kinds of subjects are different

pub begin_no_end : AboutBegin ≡ AboutEnd → ⊥
begin_no_end is = cc is

pub commit_no_end : AboutCommit ≡ AboutEnd → ⊥
commit_no_end is = cc is

pub drop_no_end : AboutDrop ≡ AboutEnd → ⊥
drop_no_end is = cc is

pub desk_no_end : AboutDesk ≡ AboutEnd → ⊥
desk_no_end is = cc is

pub movie_no_end : AboutMovie ≡ AboutEnd → ⊥
movie_no_end is = cc is

pub desk_no_movie : AboutDesk ≡ AboutMovie → ⊥
desk_no_movie is = cc is

-- ---- the other lines

-- a request about the desk is answered in a draft and outside one
pub desk_answered : (A : Type 0) (before now : SeatContent A) (draft : Option DraftContent) (request : Request) (answer : List ℕ) → subject_of request ≡ AboutDesk → HasAnswer A before now request answer
    → HasTalkAnswer A (talking before draft) (talking now draft) request answer
desk_answered A before now None request answer is (edits, told) = (edits, subst (λ (about : Subject). IsAnsweredOutsideOf about A before (talking now None) request answer edits) (sym is) (told, refl))
desk_answered A before now (Some draft) request answer is (edits, told) = (edits, subst (λ (about : Subject). IsAnsweredInsideOf about A before draft (talking now (Some draft)) request answer edits) (sym is) (told, refl))

-- a request about the movie is answered at the desk's outside a draft
pub movie_answered_outside : (A : Type 0) (before now : SeatContent A) (request : Request) (answer : List ℕ) → subject_of request ≡ AboutMovie → HasAnswer A before now request answer
    → HasTalkAnswer A (talking before None) (talking now None) request answer
movie_answered_outside A before now request answer is (edits, told) = (edits, subst (λ (about : Subject). IsAnsweredOutsideOf about A before (talking now None) request answer edits) (sym is) (told, refl))

-- and at the draft's in one
pub movie_answered_inside : (A : Type 0) (seat : SeatContent A) (draft next : DraftContent) (request : Request) (answer : List ℕ) → subject_of request ≡ AboutMovie → IsDraftAnswered draft request answer next → IsDraft next
    → HasTalkAnswer A (talking seat (Some draft)) (talking seat (Some next)) request answer
movie_answered_inside A seat draft next request answer is told sound =
    ([], subst (λ (about : Subject). IsAnsweredInsideOf about A seat draft (talking seat (Some next)) request answer []) (sym is) (next, told, sound, refl, record { same = refl; none = refl }))

-- what a request about the desk leaves that isn't answered, in a draft or outside one
desk_kept : {A : Type 0} (before now : SeatContent A) (draft : Option DraftContent) (request : Request) → subject_of request ≡ AboutDesk → KeepsSeat request before now → KeepsTalk request (talking before draft) (talking now draft)
desk_kept before now None request is kept = inl (record { seat = kept; draft_was = refl; draft_is = refl })
desk_kept {A} before now (Some draft) request is kept = elim (same_or_strip (IsPictureAt {A = A}) before now request kept) [
  | inl same ↦ inr (record { old = draft; next = draft; seat = same.0; draft_was = refl; draft_is = refl; kept = same.1 draft })
  | inr strip ↦ absurd (desk_no_movie (sym is ∙ ap subject_of strip.2))
]

-- why a request isn't answered outside a draft, where one that is answered is one of the conversation
pub unanswered_talk : (A : Type 0) (before now : TalkingSeat A) (request : Request) (fault : RunFault) → ((answer : List ℕ) → HasAnswer A before.seat now.seat request answer → HasTalkAnswer A before now request answer)
    → (KeepsSeat request before.seat now.seat → KeepsTalk request before now) → now.draft ≡ before.draft → HasNoAnswer before.seat now.seat request fault → HasNoTalkAnswer before now request fault
unanswered_talk A before now request NoEntry of keeps same is = keeps is
unanswered_talk A before now request Foreign of keeps same is = (is, same)
unanswered_talk A before now request Memory of keeps same (inl kept) = inl (keeps kept)
unanswered_talk A before now request Memory of keeps same (inr (answer, told)) = inr (answer, of answer told)
unanswered_talk A before now request (Write written) of keeps same is = absurd is
unanswered_talk A before now request (Size n) of keeps same is = absurd is
unanswered_talk A before now request (Text error) of keeps same is = absurd is
unanswered_talk A before now request (OffMovie frame len) of keeps same is = absurd is
unanswered_talk A before now request (OffRange from to len) of keeps same is = absurd is
unanswered_talk A before now request (NoNames row kind) of keeps same is = absurd is
unanswered_talk A before now request (Stopped at opcode) of keeps same is = absurd is
unanswered_talk A before now request (StoppedFrame frame at opcode) of keeps same is = absurd is
unanswered_talk A before now request (Script number) of keeps same is = absurd is
unanswered_talk A before now request (Place number) of keeps same is = absurd is
unanswered_talk A before now request (Long number) of keeps same is = absurd is
unanswered_talk A before now request NoPlace of keeps same is = absurd is

-- ---- requests and their results

-- a request about the movie, at the draft
unanswered_inside : (A : Type 0) (seat : SeatContent A) (draft next : DraftContent) (request : Request) → subject_of request ≡ AboutMovie → IsDraftUnanswered draft request next → IsDraft next
    → HasNoTalkAnswer (talking seat (Some draft)) (talking seat (Some next)) request Memory
unanswered_inside A seat draft next request is (inl kept) sound = inl (inr (record { old = draft; next = next; seat = refl; draft_was = refl; draft_is = refl; kept = kept }))
unanswered_inside A seat draft next request is (inr (answer, told)) sound = inr (answer, movie_answered_inside A seat draft next request answer is told sound)

pub inside_said : {X : Type 0} (A : Type 0) (seat : SeatContent A) (draft next : DraftContent) (request : Request) (r : Result (Option X) RunFault) (bytes_of : X → List ℕ) → subject_of request ≡ AboutMovie
    → MatchResult r (λ found. MatchOption found (IsAboutDesk request × (next ≡ draft)) (λ bytes. IsDraftAnswered draft request (bytes_of bytes) next)) (λ fault. (fault ≡ Memory) × IsDraftUnanswered draft request next) → IsDraft next
    → MatchResult r (λ found. MatchOption found ⊥ (λ bytes. HasTalkAnswer A (talking seat (Some draft)) (talking seat (Some next)) request (bytes_of bytes))) (HasNoTalkAnswer (talking seat (Some draft)) (talking seat (Some next)) request)
inside_said A seat draft next request (Ok None) bytes_of is told sound = absurd (subst IsOfDesk is told.0)
inside_said A seat draft next request (Ok (Some bytes)) bytes_of is told sound = movie_answered_inside A seat draft next request (bytes_of bytes) is told sound
inside_said A seat draft next request (Err fault) bytes_of is told sound =
    subst (HasNoTalkAnswer (talking seat (Some draft)) (talking seat (Some next)) request) (sym told.0) (unanswered_inside A seat draft next request is told.1 sound)

-- at the desk
pub outside_said : {X : Type 0} (A : Type 0) (before now : SeatContent A) (request : Request) (r : Result (Option X) RunFault) (bytes_of : X → List ℕ) → subject_of request ≡ AboutMovie
    → MatchResult r (λ found. MatchOption found (IsAboutTalk request × (now ≡ before)) (λ bytes. HasAnswer A before now request (bytes_of bytes))) (HasNoAnswer before now request)
    → MatchResult r (λ found. MatchOption found ⊥ (λ bytes. HasTalkAnswer A (talking before None) (talking now None) request (bytes_of bytes))) (HasNoTalkAnswer (talking before None) (talking now None) request)
outside_said A before now request (Ok None) bytes_of is told = absurd (subst IsOfTalk is told.0)
outside_said A before now request (Ok (Some bytes)) bytes_of is told = movie_answered_outside A before now request (bytes_of bytes) is told
outside_said A before now request (Err fault) bytes_of is told =
    unanswered_talk A (talking before None) (talking now None) request fault (λ answer has. movie_answered_outside A before now request answer is has)
    (λ kept. inl (record { seat = kept; draft_was = refl; draft_is = refl })) refl told

-- a request about the desk, in a draft or outside one
pub desk_said : {X : Type 0} (A : Type 0) (before now : SeatContent A) (draft : Option DraftContent) (request : Request) (r : Result (Option X) RunFault) (bytes_of : X → List ℕ) → subject_of request ≡ AboutDesk
    → MatchResult r (λ found. MatchOption found (IsAboutTalk request × (now ≡ before)) (λ bytes. HasAnswer A before now request (bytes_of bytes))) (HasNoAnswer before now request)
    → MatchResult r (λ found. MatchOption found ((request ≡ Quit) × (talking now draft ≡ talking before draft)) (λ bytes. HasTalkAnswer A (talking before draft) (talking now draft) request (bytes_of bytes)))
    (HasNoTalkAnswer (talking before draft) (talking now draft) request)
desk_said A before now draft request (Ok None) bytes_of is told = absurd (subst IsOfTalk is told.0)
desk_said A before now draft request (Ok (Some bytes)) bytes_of is told = desk_answered A before now draft request (bytes_of bytes) is told
desk_said A before now draft request (Err fault) bytes_of is told =
    unanswered_talk A (talking before draft) (talking now draft) request fault (λ answer has. desk_answered A before now draft request answer is has)
    (desk_kept before now draft request is) refl told

-- a request about the movie is answered something
pub movie_said : {X A : Type 0} (before now : TalkingSeat A) (request : Request) (r : Result (Option X) RunFault) (bytes_of : X → List ℕ)
    → MatchResult r (λ found. MatchOption found ⊥ (λ bytes. HasTalkAnswer A before now request (bytes_of bytes))) (HasNoTalkAnswer before now request)
    → MatchResult r (λ found. MatchOption found ((request ≡ Quit) × (now ≡ before)) (λ bytes. HasTalkAnswer A before now request (bytes_of bytes))) (HasNoTalkAnswer before now request)
movie_said before now request (Ok None) bytes_of told = absurd told
movie_said before now request (Ok (Some bytes)) bytes_of told = told
movie_said before now request (Err fault) bytes_of told = told

abbrev AnswersMovie : {X : Type 0} (A : Type 0) → TalkingSeat A → TalkingSeat A → Request → Result (Option X) RunFault → (X → List ℕ) → Type 0
AnswersMovie A before now request r bytes_of = MatchResult r (λ found. MatchOption found ⊥ (λ bytes. HasTalkAnswer A before now request (bytes_of bytes))) (HasNoTalkAnswer before now request)

-- the same in a draft that was and is one of these
pub movie_in_draft : {X A : Type 0} (seat : SeatContent A) (draft left : Option DraftContent) (old new : DraftContent) (request : Request) (r : Result (Option X) RunFault) (bytes_of : X → List ℕ) → draft ≡ Some old → left ≡ Some new
    → AnswersMovie A (talking seat (Some old)) (talking seat (Some new)) request r bytes_of
    → MatchResult r (λ found. MatchOption found ((request ≡ Quit) × (talking seat left ≡ talking seat draft)) (λ bytes. HasTalkAnswer A (talking seat draft) (talking seat left) request (bytes_of bytes)))
    (HasNoTalkAnswer (talking seat draft) (talking seat left) request)
movie_in_draft {X} {A} seat draft left old new request r bytes_of was is told =
    movie_said (talking seat draft) (talking seat left) request r bytes_of
    (subst (λ (d : Option DraftContent). AnswersMovie A (talking seat d) (talking seat left) request r bytes_of) (sym was)
    (subst (λ (d : Option DraftContent). AnswersMovie A (talking seat (Some old)) (talking seat d) request r bytes_of) (sym is) told))

-- the same where no draft was or is open
pub movie_at_desk : {X A : Type 0} (before now : SeatContent A) (draft left : Option DraftContent) (request : Request) (r : Result (Option X) RunFault) (bytes_of : X → List ℕ) → draft ≡ None → left ≡ None → subject_of request ≡ AboutMovie
    → MatchResult r (λ found. MatchOption found (IsAboutTalk request × (now ≡ before)) (λ bytes. HasAnswer A before now request (bytes_of bytes))) (HasNoAnswer before now request)
    → MatchResult r (λ found. MatchOption found ((request ≡ Quit) × (talking now left ≡ talking before draft)) (λ bytes. HasTalkAnswer A (talking before draft) (talking now left) request (bytes_of bytes)))
    (HasNoTalkAnswer (talking before draft) (talking now left) request)
movie_at_desk {X} {A} before now draft left request r bytes_of was is subject told =
    movie_said (talking before draft) (talking now left) request r bytes_of
    (subst (λ (d : Option DraftContent). AnswersMovie A (talking before d) (talking now left) request r bytes_of) (sym was)
    (subst (λ (d : Option DraftContent). AnswersMovie A (talking before None) (talking now d) request r bytes_of) (sym is) (outside_said A before now request r bytes_of subject told)))

-- a request that is another by another name
pub asked_as : {A : Type 0} (before now : TalkingSeat A) (request other : Request) (answer : List ℕ) → request ≡ other → HasTalkAnswer A before now other answer → HasTalkAnswer A before now request answer
asked_as {A} before now request other answer is told = subst (λ (q : Request). HasTalkAnswer A before now q answer) (sym is) told

pub unanswered_as : {A : Type 0} (before now : TalkingSeat A) (request other : Request) (fault : RunFault) → request ≡ other → HasNoTalkAnswer before now other fault → HasNoTalkAnswer before now request fault
unanswered_as before now request other fault is told = subst (λ (q : Request). HasNoTalkAnswer before now q fault) (sym is) told

-- ---- the one request that is about something

pub is_begin : (request : Request) → subject_of request ≡ AboutBegin → request ≡ Begin
is_begin request is = of_subject request AboutBegin is

pub is_commit : (request : Request) → subject_of request ≡ AboutCommit → request ≡ Commit
is_commit request is = of_subject request AboutCommit is

pub is_drop : (request : Request) → subject_of request ≡ AboutDrop → request ≡ Drop
is_drop request is = of_subject request AboutDrop is
