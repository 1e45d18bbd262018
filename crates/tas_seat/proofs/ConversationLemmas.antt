-- Answers of conversations, in a draft and outside one.
use Rattle.std.proofs.Common.{◌≡◌, ℕ, ◌+◌, List, [], ◌∷◌, ◌++◌, length, Bool, true, false, Option, Some, None, Result, Ok, Err, inl, inr, refl, sym, ap, subst, ◌∙◌, arith, append-nil, ◌<◌, ◌≤◌}
use Rattle.std.specs.Prelude.{MatchResult, ◌≢◌, ◌==◌, nat_lt, is_some, if◌then◌else◌}
use Rattle.std.proofs.lemmas.Bool.{false≢true, eq-eqb, ne_eqb, eqb-true}
use Rattle.std.proofs.lemmas.Bool.Decides.{nat_tests}
use mathlib.Core.List.{IsPrefix}
use Rattle.tas_movie.specs.Content.{MovieContent}
use Rattle.tas_movie.specs.declared.edit.Edit.{Edit}
use Rattle.tas_movie.specs.declared.edit.EditRefusal.{EditRefusal}
use Rattle.tas_movie.specs.declared.edit.EditRefusal.TheVariants.{Place as PlaceRefusal, Long as LongRefusal}
use Rattle.tas_published.specs.declared.entry.Entry.{Entry}
use Rattle.tas_session.specs.declared.replies.EditError.{EditError}
use Rattle.tas_session.specs.declared.replies.EditError.TheVariants.{Serial, Full as AllMade, Place as OutOfPlace, Long as OverLong, Memory as NoRoom}
use Rattle.tas_session.specs.declared.replies.Receipt.{Receipt}
use Rattle.tas_published.specs.History.{most_edits, movie_of, entries_of}
use Rattle.tas_session.specs.Session.{error_at}
use Rattle.tas_desk.specs.Seats.{SeatContent, HasSeen, KeepsZone, seat_of}
use Rattle.tas_desk.specs.Zones.{IsShared, view_in}
use Rattle.tas_engines.specs.declared.fault.RunFault.{RunFault}
use Rattle.tas_engines.specs.declared.fault.RunFault.TheVariants.{Memory, Foreign}
use Rattle.tas_language.specs.declared.reply.Reply.{Reply}
use Rattle.tas_language.specs.declared.reply.Reply.TheVariants.{Full, Place as PlaceReply, Long as LongReply, OutOfMemory}
use Rattle.tas_language.specs.Replies.{reply_text}
use Rattle.tas_language.specs.declared.draft_reply.DraftReply.TheVariants.{Began, Committed, Moved as MovedReply, Dropped}
use Rattle.tas_language.specs.Drafts.{draft_reply_text}
use Rattle.tas_language.specs.declared.request.Request.{Request}
use Rattle.tas_language.specs.declared.request.Request.TheVariants.{Begin, Commit, Drop}
use Rattle.tas_published.specs.Strokes.{entries_by, refusal_in}
use Rattle.tas_session.specs.Commits.{refused_as as refused_stroke, commit_refusal_at}
use Rattle.tas_desk.specs.Commits.{IsCommitted as IsDeskCommit}
use Rattle.tas_session.specs.declared.replies.CommitError.{CommitError}
use Rattle.tas_session.specs.declared.replies.CommitError.TheVariants.{Moved, Refused}
use Rattle.tas_seat.specs.Turns.{standing_of, refusal_reply}
use Rattle.tas_seat.specs.Requests.{GainsUnless}
use Rattle.tas_seat.specs.Seats.{entries_from, talk_state_at, IsSeatAfter, KeepsWindow}
use Rattle.tas_green.specs.View.{view_of}
use Rattle.tas_green.specs.Window.{AreMovieStates}
use Rattle.tas_seat.specs.Drafts.{DraftContent, fresh_draft, IsStroke, LeadsTo, HasStroke}
use Rattle.tas_seat.specs.Conversations.{TalkingSeat, talking, text_of, uncommitted_answer, commit_answer, committed_edits, draft_after_commit}
use Rattle.tas_seat.specs.Inside.Conversing.{HasMoved, HasNoOutcome}
use Rattle.tas_seat.specs.Outcomes.{refused_as, IsMiscounted, HasTalkAnswer, HasNoTalkAnswer}
use Rattle.tas_published.proofs.PrefixLemmas.{prefix_trans}
use Rattle.tas_seat.proofs.SeatLemmas.{looked_at, stood, strange_later}
use Rattle.tas_seat.proofs.TextLemmas.{text_or_memory}
use Rattle.tas_seat.proofs.AnswerLemmas.{unshared, shared_still}

-- ---- answers and faults

-- the answer's bytes, or memory was refused for them
pub said_text : {X A : Type 0} (before now : TalkingSeat A) (request : Request) (text : List ℕ) (r : Result X RunFault) (bytes_of : X → List ℕ) → MatchResult r (λ bytes. bytes_of bytes ≡ text) (λ fault. fault ≡ Memory) → HasTalkAnswer A before now request text
    → MatchResult r (λ bytes. HasTalkAnswer A before now request (bytes_of bytes)) (HasNoTalkAnswer before now request)
said_text {X} {A} before now request text r bytes_of is told = text_or_memory (HasTalkAnswer A before now request) (HasNoTalkAnswer before now request) text r bytes_of is told (λ has. inr (text, has))

-- the same, where the draft was and is one of these
pub said_of : {X A : Type 0} (before now : SeatContent A) (draft left old new : Option DraftContent) (request : Request) (text : List ℕ) (r : Result X RunFault) (bytes_of : X → List ℕ) → draft ≡ old → left ≡ new
    → MatchResult r (λ bytes. bytes_of bytes ≡ text) (λ fault. fault ≡ Memory) → HasTalkAnswer A (talking before old) (talking now new) request text
    → MatchResult r (λ bytes. HasTalkAnswer A (talking before draft) (talking now left) request (bytes_of bytes)) (HasNoTalkAnswer (talking before draft) (talking now left) request)
said_of {X} {A} before now draft left old new request text r bytes_of was is said told =
    said_text (talking before draft) (talking now left) request text r bytes_of said
    (subst (λ (d : Option DraftContent). HasTalkAnswer A (talking before d) (talking now left) request text) (sym was)
    (subst (λ (d : Option DraftContent). HasTalkAnswer A (talking before old) (talking now d) request text) (sym is) told))

-- ---- `begin`

-- memory was refused for the desk's states, or for the draft
pub begin_refused : (A : Type 0) (before now : SeatContent A) (draft : Option DraftContent) → is_some draft ≡ false → HasSeen before now → GainsUnless true (talk_state_at now.front before.zone) (talk_state_at now.front now.zone)
    → KeepsWindow before.zone now.zone → HasTalkAnswer A (talking before draft) (talking now draft) Begin (reply_text OutOfMemory)
begin_refused A before now (Some draft) is seen gains window = absurd (false≢true (sym is))
begin_refused A before now None is seen gains window = (
  [],
  (
    record {
      answered = record {
        no_memory = true;
        answer_is = refl;
        stands = refl;
        gains = gains;
        near = [];
        window = record { rising = tt; within = λ f s e. absurd (cc e); each = λ f s e. absurd (cc e) };
        draft_is = refl;
      };
      seat = looked_at before now seen;
      zone = window;
      window = tt;
    },
    refl,
  ),
)

pub begin_unshared : (A : Type 0) (before now : SeatContent A) (draft : Option DraftContent) → is_some draft ≡ false → HasSeen before now → now.zone ≡ before.zone → HasTalkAnswer A (talking before draft) (talking now draft) Begin (reply_text OutOfMemory)
begin_unshared A before now draft is seen zone = begin_refused A before now draft is seen (unshared before now zone) (inl zone)

pub begin_unopened : (A : Type 0) (before now : SeatContent A) (draft : Option DraftContent) (gained : ℕ) → is_some draft ≡ false → HasSeen before now → IsShared before.zone now.zone now.front gained
    → HasTalkAnswer A (talking before draft) (talking now draft) Begin (reply_text OutOfMemory)
begin_unopened A before now draft gained is seen shared = begin_refused A before now draft is seen (shared_still before now gained shared) (inr shared.cut)

pub begin_opened : (A : Type 0) (before now : SeatContent A) (draft : Option DraftContent) (opened : DraftContent) (at len gained : ℕ) → is_some draft ≡ false → HasSeen before now → at ≡ length now.front → IsShared before.zone now.zone now.front gained
    → opened ≡ fresh_draft at (view_in now.zone) → len ≡ length now.zone.movie.inputs → HasTalkAnswer A (talking before draft) (talking now (Some opened)) Begin (draft_reply_text (Began at len))
begin_opened A before now (Some draft) opened at len gained is seen here shared fresh long = absurd (false≢true (sym is))
begin_opened A before now None opened at len gained is seen here shared fresh long = (
  [],
  (
    record {
      answered = record {
        no_memory = false;
        answer_is = ap (λ (n : ℕ). draft_reply_text (Began n len)) here ∙ ap (λ (n : ℕ). draft_reply_text (Began (length now.front) n)) (long ∙ ap (λ (m : MovieContent). length m.inputs) shared.made.movie);
        stands = refl;
        gains = record { green = record { kept_for = shared.made.movie; lawful = shared.made.lawful }; other = shared.other; others = shared.others; gained = gained; gain = shared.gain };
        near = now.zone.window;
        window = subst (λ (m : MovieContent). AreMovieStates m now.zone.window) shared.made.movie shared.made.near;
        draft_is = ap (λ (d : DraftContent). Some d)
            (fresh ∙ ap (λ (n : ℕ). fresh_draft n (view_in now.zone)) here ∙ ap (λ (m : MovieContent). fresh_draft (length now.front) (view_of m now.zone.states now.zone.window)) shared.made.movie);
      };
      seat = looked_at before now seen;
      zone = inr shared.cut;
      window = ap (λ (d : DraftContent). d.near) fresh;
    },
    refl,
  ),
)

-- ---- `commit`

-- a movie that isn't the one it was made of takes an edit at least
stroke_some : (A : Type 0) (base new : MovieContent) (count : ℕ) → HasStroke A base new count → new ≢ base → 0 < count
stroke_some A base new count stroke apart = go stroke.edits stroke.leads stroke.long
  where
    go : (edits : List (Edit A)) → LeadsTo base edits new → length edits ≡ count → 0 < count
    go [] is long = absurd (apart is)
    go (edit ∷ edits) is long = omega (arith, long)

-- memory was refused
commit_refused : (A : Type 0) (before now : SeatContent A) (draft : DraftContent) (count : ℕ) → HasStroke A draft.base draft.movie count → 0 < count → KeepsZone before now → length now.front ≡ draft.at → length now.front + count ≤ most_edits
    → HasTalkAnswer A (talking before (Some draft)) (talking now (Some draft)) Commit (reply_text OutOfMemory)
commit_refused A before now draft count stroke some looked there room = (
  [],
  record {
    at = now.front;
    answered = inl (record { count = count; comes_to = stroke; some = some; there = there; room = room; answer_is = refl; edits_are = refl; draft_is = refl });
    zone = looked.zone;
    seat = looked_at before now looked.seen;
  },
)

-- what a refusal is answered, where it isn't of the seat's serial
abbrev refusal_text : CommitError → Option (List ℕ)
refusal_text (Moved at) = Some (draft_reply_text (MovedReply at))
refusal_text (Refused (AllMade at)) = Some (reply_text (Full at))
refusal_text (Refused (OutOfPlace at place len)) = Some (reply_text (PlaceReply at len))
refusal_text (Refused (OverLong at len)) = Some (reply_text (LongReply at len))
refusal_text (Refused (Serial at counted)) = None
refusal_text (Refused NoRoom) = None

abbrev told : Option CommitError → Option (List ℕ)
told None = None
told (Some error) = refusal_text error

told_movie : (made : ℕ) (refused : Option EditRefusal) → told (refused_stroke (error_at made refused)) ≡ text_of (refusal_reply made refused)
told_movie made None = refl
told_movie made (Some (PlaceRefusal at len)) = refl
told_movie made (Some (LongRefusal len)) = refl

told_room : (full : Bool) (made : ℕ) (refused : Option EditRefusal)
    → told (if full then Some (Refused (AllMade made)) else refused_stroke (error_at made refused)) ≡ text_of (if full then Some (Full made) else refusal_reply made refused)
told_room true made refused = refl
told_room false made refused = told_movie made refused

told_all : (here full : Bool) (made : ℕ) (refused : Option EditRefusal)
    → told (if here then (if full then Some (Refused (AllMade made)) else refused_stroke (error_at made refused)) else Some (Moved made))
    ≡ (if here then text_of (if full then Some (Full made) else refusal_reply made refused) else Some (draft_reply_text (MovedReply made)))
told_all true full made refused = told_room full made refused
told_all false full made refused = refl

-- a refusal that isn't of the serial is answered as the definition answers
told_of : {A : Type 0} (history : List (Entry A)) (seat made at : ℕ) (edits : List (Edit A)) (found : Option CommitError) → commit_refusal_at history seat made at edits ≡ found
    → (found ≡ Some (Refused (Serial (length history) (entries_of seat history))) → ⊥) → uncommitted_answer (standing_of history) at edits ≡ told found
told_of {A} history seat made at edits found is other = go (entries_of seat history == made) refl is
  where
    go : (b : Bool) → (entries_of seat history == made) ≡ b → (if b then (if length history == at then
        (if nat_lt most_edits (length history + length edits) then Some (Refused (AllMade (length history))) else refused_stroke (error_at (length history) (refusal_in (movie_of history) edits)))
        else Some (Moved (length history))) else Some (Refused (Serial (length history) (entries_of seat history)))) ≡ found → uncommitted_answer (standing_of history) at edits ≡ told found
    go true e is = sym (told_all (length history == at) (nat_lt most_edits (length history + length edits)) (length history) (refusal_in (movie_of history) edits)) ∙ ap told is
    go false e is = absurd (other (sym is))

entries_same : {A : Type 0} (seat made : ℕ) (edits : List (Edit A)) → entries_by seat made edits ≡ entries_from seat made edits
entries_same seat made [] = refl
entries_same {A} seat made (edit ∷ edits) = ap (λ (l : List (Entry A)). record { seat = seat; serial = made; edit = edit } ∷ l) (entries_same seat (made + 1) edits)

-- all edits are made
pub commit_made : (A : Type 0) (before now : SeatContent A) (draft : DraftContent) (stroke : List (Edit A)) (receipt : Receipt) → IsDeskCommit before now draft.at stroke (Ok receipt) → IsStroke draft.base draft.movie stroke → LeadsTo draft.base stroke draft.movie
    → HasTalkAnswer A (talking before (Some draft)) (talking now None) Commit (draft_reply_text (Committed receipt.at receipt.len))
commit_made A before now draft stroke receipt is strokes leads =
    let free : uncommitted_answer (standing_of is.history) draft.at stroke ≡ None = told_of is.history before.number before.made draft.at stroke None is.refusal (λ e. cc e) in (
      stroke,
      record {
        at = is.history;
        answered = inr (record {
          stroke = stroke;
          stroke_is = strokes;
          leads = leads;
          answer_is = ap (λ (r : Receipt). draft_reply_text (Committed r.at r.len)) is.receipt ∙ ap (λ (o : Option (List ℕ)). commit_answer o (standing_of is.history) stroke) (sym free);
          edits_are = ap (λ (o : Option (List ℕ)). committed_edits o stroke) (sym free);
          draft_is = ap (λ (o : Option (List ℕ)). draft_after_commit o draft) (sym free);
        });
        zone = ap (λ (s : SeatContent A). s.zone) is.seat;
        seat = record {
          begins = is.begins;
          front = ap (λ (s : SeatContent A). s.front) is.seat ∙ ap (λ (l : List (Entry A)). is.history ++ l) (entries_same before.number before.made stroke);
          number = ap (λ (s : SeatContent A). s.number) is.seat;
          made = ap (λ (s : SeatContent A). s.made) is.seat;
        };
      },
    )

-- a seat that was answered at a history, and made nothing, has seen it
seen_at : {A : Type 0} (before now : SeatContent A) (history : List (Entry A)) → IsPrefix before.front history → now ≡ seat_of before.number before.made history before.zone → HasSeen before now
seen_at {A} before now history begins is = record {
  number = ap (λ (s : SeatContent A). s.number) is;
  made = ap (λ (s : SeatContent A). s.made) is;
  begins = subst (λ (l : List (Entry A)). IsPrefix before.front l) (sym (ap (λ (s : SeatContent A). s.front) is)) begins;
}

-- none are made, and this is why
said_where : (A : Type 0) (before now : SeatContent A) (draft : DraftContent) (stroke : List (Edit A)) (text : List ℕ) (history : List (Entry A)) → now.zone ≡ before.zone → IsSeatAfter before history [] now
    → uncommitted_answer (standing_of history) draft.at stroke ≡ Some text → IsStroke draft.base draft.movie stroke → LeadsTo draft.base stroke draft.movie
    → HasTalkAnswer A (talking before (Some draft)) (talking now (Some draft)) Commit text
said_where A before now draft stroke text history zone seat why strokes leads = (
  [],
  record {
    at = history;
    answered = inr (record {
      stroke = stroke;
      stroke_is = strokes;
      leads = leads;
      answer_is = ap (λ (o : Option (List ℕ)). commit_answer o (standing_of history) stroke) (sym why);
      edits_are = ap (λ (o : Option (List ℕ)). committed_edits o stroke) (sym why);
      draft_is = ap (λ (o : Option (List ℕ)). draft_after_commit o draft) (sym why);
    });
    zone = zone;
    seat = seat;
  },
)

stays : (A : Type 0) (before now : SeatContent A) (draft : DraftContent) (stroke : List (Edit A)) (text : List ℕ) (history : List (Entry A)) → IsPrefix before.front history
    → now ≡ seat_of before.number before.made history before.zone → uncommitted_answer (standing_of history) draft.at stroke ≡ Some text → IsStroke draft.base draft.movie stroke → LeadsTo draft.base stroke draft.movie
    → HasTalkAnswer A (talking before (Some draft)) (talking now (Some draft)) Commit text
stays A before now draft stroke text history begins seat why strokes leads =
    said_where A before now draft stroke text history (ap (λ (s : SeatContent A). s.zone) seat) (stood before now history begins seat) why strokes leads

pub commit_moved : (A : Type 0) (before now : SeatContent A) (draft : DraftContent) (stroke : List (Edit A)) (at : ℕ) → IsDeskCommit before now draft.at stroke (Err (Moved at)) → IsStroke draft.base draft.movie stroke → LeadsTo draft.base stroke draft.movie
    → HasTalkAnswer A (talking before (Some draft)) (talking now (Some draft)) Commit (draft_reply_text (MovedReply at))
commit_moved A before now draft stroke at is strokes leads =
    stays A before now draft stroke (draft_reply_text (MovedReply at)) is.history is.begins is.seat
    (told_of is.history before.number before.made draft.at stroke (Some (Moved at)) is.refusal (λ e. cc e)) strokes leads

-- a commit whose serial is right is refused otherwise
no_serial : (here full : Bool) (made : ℕ) (refused : Option EditRefusal) (at counted : ℕ)
    → (if here then (if full then Some (Refused (AllMade made)) else refused_stroke (error_at made refused)) else Some (Moved made)) ≡ Some (Refused (Serial at counted)) → ⊥
no_serial false full made refused at counted e = cc e
no_serial true true made refused at counted e = cc e
no_serial true false made None at counted e = cc e
no_serial true false made (Some (PlaceRefusal place len)) at counted e = cc e
no_serial true false made (Some (LongRefusal len)) at counted e = cc e

miscounted : {A : Type 0} (history : List (Entry A)) (seat made here : ℕ) (edits : List (Edit A)) (at counted : ℕ) → commit_refusal_at history seat made here edits ≡ Some (Refused (Serial at counted)) → entries_of seat history ≡ made → ⊥
miscounted {A} history seat made here edits at counted is same =
    let rest : Option CommitError =
    if length history == here then
    (if nat_lt most_edits (length history + length edits) then Some (Refused (AllMade (length history))) else refused_stroke (error_at (length history) (refusal_in (movie_of history) edits)))
    else Some (Moved (length history)) in
    no_serial (length history == here) (nat_lt most_edits (length history + length edits)) (length history) (refusal_in (movie_of history) edits) at counted
    (sym (ap (λ (b : Bool). if b then rest else Some (Refused (Serial (length history) (entries_of seat history)))) (eq-eqb (entries_of seat history) made same)) ∙ is)

-- a commit that is refused for its serial is one of a seat whose edits were miscounted
strange_at : {A : Type 0} (before now : SeatContent A) (here : ℕ) (stroke : List (Edit A)) (at counted : ℕ) → IsDeskCommit before now here stroke (Err (Refused (Serial at counted))) → IsMiscounted before now
strange_at {A} before now here stroke at counted is = record {
  seen = seen_at before now is.history is.begins is.seat;
  other = λ (e : entries_of now.number now.front ≡ now.made).
      miscounted is.history before.number before.made here stroke at counted is.refusal
      (ap (λ (n : ℕ). entries_of n is.history) (sym (ap (λ (s : SeatContent A). s.number) is.seat)) ∙ ap (λ (l : List (Entry A)). entries_of now.number l) (sym (ap (λ (s : SeatContent A). s.front) is.seat)) ∙ e
      ∙ ap (λ (s : SeatContent A). s.made) is.seat);
}

-- ---- the history is looked at before memory is asked for

looked_by : {A : Type 0} (before now : SeatContent A) (history : List (Entry A)) → IsPrefix before.front history → now ≡ seat_of before.number before.made history before.zone → KeepsZone before now
looked_by {A} before now history begins is = record { seen = seen_at before now history begins is; zone = ap (λ (s : SeatContent A). s.zone) is }

-- refusals of a history with as many edits as the caller says
abbrev IsThere : Option CommitError → Type 0
IsThere (Some (Moved at)) = ⊥
IsThere (Some (Refused (Serial at counted))) = ⊥
IsThere _ = Unit {0}

there_of : {A : Type 0} (history : List (Entry A)) (seat made at : ℕ) (edits : List (Edit A)) (found : Option CommitError) → commit_refusal_at history seat made at edits ≡ found → IsThere found → length history ≡ at
there_of {A} history seat made at edits found is there = go (entries_of seat history == made) (length history == at) refl (subst IsThere (sym is) there)
  where
    go : (own here : Bool) → (length history == at) ≡ here → IsThere (if own then
        (if here then (if nat_lt most_edits (length history + length edits) then Some (Refused (AllMade (length history))) else refused_stroke (error_at (length history) (refusal_in (movie_of history) edits))) else Some (Moved (length history)))
        else Some (Refused (Serial (length history) (entries_of seat history)))) → length history ≡ at
    go true true e is' = eqb-true (length history) at e
    go true false e is' = absurd is'
    go false here e is' = absurd is'

-- where nothing refuses them there is room
room_of : {A : Type 0} (history : List (Entry A)) (seat made at : ℕ) (edits : List (Edit A)) → commit_refusal_at history seat made at edits ≡ None → length history + length edits ≤ most_edits
room_of {A} history seat made at edits is = go (entries_of seat history == made) (length history == at) (nat_lt most_edits (length history + length edits)) refl is
  where
    go : (own here full : Bool) → nat_lt most_edits (length history + length edits) ≡ full → (if own then
        (if here then (if full then Some (Refused (AllMade (length history))) else refused_stroke (error_at (length history) (refusal_in (movie_of history) edits))) else Some (Moved (length history)))
        else Some (Refused (Serial (length history) (entries_of seat history)))) ≡ None → length history + length edits ≤ most_edits
    go true true false e is' = grind (arith, nat_tests, e)
    go true true true e is' = absurd (cc is')
    go true false full e is' = absurd (cc is')
    go false here full e is' = absurd (cc is')

-- no edit is made, and the history has as many as the caller says
pub still_there : (A : Type 0) (before now : SeatContent A) (at : ℕ) (receipt : Receipt) → IsDeskCommit {A = A} before now at [] (Ok receipt) → KeepsZone before now × (length now.front ≡ at)
still_there A before now at receipt is =
    let seat : now ≡ seat_of before.number before.made is.history before.zone =
    is.seat ∙ ap (λ (l : List (Entry A)). seat_of before.number (before.made + 0) l before.zone) (append-nil is.history) ∙ ap (λ (n : ℕ). seat_of before.number n is.history before.zone) (omega arith) in
    (looked_by before now is.history is.begins seat, ap (λ (s : SeatContent A). length s.front) seat ∙ is.tells)

pub has_moved : (A : Type 0) (before now : SeatContent A) (at told : ℕ) → IsDeskCommit {A = A} before now at [] (Err (Moved told)) → KeepsZone before now × HasMoved at (length now.front) (Some told)
has_moved A before now at told is =
    let front : is.history ≡ now.front = sym (ap (λ (s : SeatContent A). s.front) is.seat) in (
      looked_by before now is.history is.begins is.seat,
      ((λ e. is.tells.1 (ap (λ (l : List (Entry A)). length l) front ∙ e)), is.tells.0 ∙ ap (λ (l : List (Entry A)). length l) front),
    )

-- another refusal is that of the serial, which is a fault, or says that the history has as many
abbrev LookSays : {A : Type 0} → SeatContent A → SeatContent A → ℕ → Result Reply RunFault → Type 0
LookSays before now at (Ok reply) = KeepsZone before now × (length now.front ≡ at)
LookSays before now at (Err fault) = HasNoOutcome before now fault

looked_there : (A : Type 0) (before now : SeatContent A) (at : ℕ) (history : List (Entry A)) (found : Option CommitError) → IsPrefix before.front history → now ≡ seat_of before.number before.made history before.zone
    → commit_refusal_at {A = A} history before.number before.made at [] ≡ found → IsThere found → KeepsZone before now × (length now.front ≡ at)
looked_there A before now at history found begins seat is there = (
  looked_by before now history begins seat,
  ap (λ (s : SeatContent A). length s.front) seat ∙ there_of {A = A} history before.number before.made at [] found is there,
)

look_says : (A : Type 0) (before now : SeatContent A) (at : ℕ) (error : EditError) → IsDeskCommit {A = A} before now at [] (Err (Refused error)) → LookSays before now at (refused_as error)
look_says A before now at (Serial here counted) is = (refl, strange_at before now at [] here counted is)
look_says A before now at (AllMade here) is = looked_there A before now at is.history (Some (Refused (AllMade here))) is.begins is.seat is.refusal tt
look_says A before now at (OutOfPlace here place len) is = looked_there A before now at is.history (Some (Refused (OutOfPlace here place len))) is.begins is.seat is.refusal tt
look_says A before now at (OverLong here len) is = looked_there A before now at is.history (Some (Refused (OverLong here len))) is.begins is.seat is.refusal tt
look_says A before now at NoRoom is = looked_there A before now at is.history None is.begins is.seat is.refusal tt

look_told : (A : Type 0) (before now : SeatContent A) (at : ℕ) (error : EditError) (r told : Result Reply RunFault) → r ≡ refused_as error → r ≡ told → IsDeskCommit {A = A} before now at [] (Err (Refused error)) → LookSays before now at told
look_told A before now at error r told tells was is = subst (LookSays before now at) was (subst (LookSays before now at) (sym tells) (look_says A before now at error is))

pub look_stands : (A : Type 0) (before now : SeatContent A) (at : ℕ) (error : EditError) (r : Result Reply RunFault) (reply : Reply) → r ≡ refused_as error → r ≡ Ok reply → IsDeskCommit {A = A} before now at [] (Err (Refused error))
    → KeepsZone before now × (length now.front ≡ at)
look_stands A before now at error r reply tells was is = look_told A before now at error r (Ok reply) tells was is

pub look_fails : (A : Type 0) (before now : SeatContent A) (at : ℕ) (error : EditError) (r : Result Reply RunFault) (fault : RunFault) → r ≡ refused_as error → r ≡ Err fault → IsDeskCommit {A = A} before now at [] (Err (Refused error))
    → HasNoOutcome before now fault
look_fails A before now at error r fault tells was is = look_told A before now at error r (Err fault) tells was is

-- what is answered where the history was looked at
unmade : (A : Type 0) (before now : SeatContent A) (draft : DraftContent) (count : ℕ) (text : List ℕ) → KeepsZone before now → (stroke : HasStroke A draft.base draft.movie count) → uncommitted_answer (standing_of now.front) draft.at stroke.edits ≡ Some text
    → HasTalkAnswer A (talking before (Some draft)) (talking now (Some draft)) Commit text
unmade A before now draft count text looked stroke why =
    said_where A before now draft stroke.edits text now.front looked.zone (looked_at before now looked.seen) why stroke.stroke_is stroke.leads

-- the history was looked at, and has moved or not
abbrev Looked : {A : Type 0} → SeatContent A → SeatContent A → ℕ → Option ℕ → Type 0
Looked before now here found = KeepsZone before now × HasMoved here (length now.front) found

pub still_at : (A : Type 0) (before now : SeatContent A) (here : ℕ) (found : Option ℕ) → Looked before now here found → found ≡ None → KeepsZone before now × (length now.front ≡ here)
still_at A before now here found looked is = subst (Looked before now here) is looked

pub moved_first : (A : Type 0) (before now : SeatContent A) (draft : DraftContent) (count here at : ℕ) (found : Option ℕ) → Looked before now here found → found ≡ Some at → HasStroke A draft.base draft.movie count → here ≡ draft.at
    → HasTalkAnswer A (talking before (Some draft)) (talking now (Some draft)) Commit (draft_reply_text (MovedReply at))
moved_first A before now draft count here at found looked is stroke begun =
    let moved : Looked before now here (Some at) = subst (Looked before now here) is looked in
    unmade A before now draft count (draft_reply_text (MovedReply at)) moved.0 stroke
    (rw (ne_eqb (length now.front) draft.at (λ e. moved.1.0 (e ∙ sym begun))) (ap (λ (n : ℕ). Some (draft_reply_text (MovedReply n))) (sym moved.1.1)))

pub full_first : (A : Type 0) (before now : SeatContent A) (draft : DraftContent) (count here : ℕ) (found : Option ℕ) → Looked before now here found → found ≡ None → HasStroke A draft.base draft.movie count → here ≡ draft.at → most_edits < here + count
    → HasTalkAnswer A (talking before (Some draft)) (talking now (Some draft)) Commit (reply_text (Full here))
full_first A before now draft count here found looked is stroke begun full =
    let there = still_at A before now here found looked is in
    let long : length now.front ≡ here = there.1 in
    let many : length stroke.edits ≡ count = stroke.long in
    let no_room : nat_lt most_edits (length now.front + length stroke.edits) ≡ true = grind (arith, nat_tests) in
    unmade A before now draft count (reply_text (Full here)) there.0 stroke
    (rw (eq-eqb (length now.front) draft.at (long ∙ begun), no_room) (ap (λ (n : ℕ). Some (reply_text (Full n))) long))

pub refused_first : (A : Type 0) (before now : SeatContent A) (draft : DraftContent) (count here : ℕ) (found : Option ℕ) → Looked before now here found → found ≡ None → HasStroke A draft.base draft.movie count → draft.movie ≢ draft.base → here ≡ draft.at → here + count ≤ most_edits
    → HasTalkAnswer A (talking before (Some draft)) (talking now (Some draft)) Commit (reply_text OutOfMemory)
refused_first A before now draft count here found looked is stroke apart begun room =
    let there = still_at A before now here found looked is in
    let long : length now.front ≡ here = there.1 in
    commit_refused A before now draft count stroke (stroke_some A draft.base draft.movie count stroke apart) there.0 (long ∙ begun) (omega (arith, long, room))

-- what came of a commit once the history was looked at
outcome_after : (A : Type 0) (before mid now : SeatContent A) (draft : DraftContent) (next : Option DraftContent) (text : List ℕ) → KeepsZone before mid → HasTalkAnswer A (talking mid (Some draft)) (talking now next) Commit text
    → HasTalkAnswer A (talking before (Some draft)) (talking now next) Commit text
outcome_after A before mid now draft next text looked (edits, is) = (
  edits,
  record {
    at = is.at;
    answered = is.answered;
    zone = is.zone ∙ looked.zone;
    seat = record {
      begins = prefix_trans before.front mid.front is.at looked.seen.begins is.seat.begins;
      front = is.seat.front ∙ ap (λ (n : ℕ). is.at ++ entries_from n mid.made edits) looked.seen.number ∙ ap (λ (n : ℕ). is.at ++ entries_from before.number n edits) looked.seen.made;
      number = is.seat.number ∙ looked.seen.number;
      made = is.seat.made ∙ ap (λ (n : ℕ). n + length edits) looked.seen.made;
    };
  },
)

-- what other errors of a commit are answered, or the fault that they are
abbrev pub CommitSays : (A : Type 0) → SeatContent A → SeatContent A → DraftContent → Result Reply RunFault → Type 0
CommitSays A before now draft (Ok reply) = HasTalkAnswer A (talking before (Some draft)) (talking now (Some draft)) Commit (reply_text reply)
CommitSays A before now draft (Err fault) = (fault ≡ Foreign) × IsMiscounted before now

pub commit_says : (A : Type 0) (before now : SeatContent A) (draft : DraftContent) (stroke : List (Edit A)) (error : EditError) → IsDeskCommit before now draft.at stroke (Err (Refused error)) → IsStroke draft.base draft.movie stroke → LeadsTo draft.base stroke draft.movie
    → CommitSays A before now draft (refused_as error)
commit_says A before now draft stroke (Serial at counted) is strokes leads = (refl, strange_at before now draft.at stroke at counted is)
commit_says A before now draft stroke (AllMade at) is strokes leads =
    stays A before now draft stroke (reply_text (Full at)) is.history is.begins is.seat
    (told_of is.history before.number before.made draft.at stroke (Some (Refused (AllMade at))) is.refusal (λ e. cc e)) strokes leads
commit_says A before now draft stroke (OutOfPlace at place len) is strokes leads =
    stays A before now draft stroke (reply_text (PlaceReply at len)) is.history is.begins is.seat
    (told_of is.history before.number before.made draft.at stroke (Some (Refused (OutOfPlace at place len))) is.refusal (λ e. cc e)) strokes leads
commit_says A before now draft stroke (OverLong at len) is strokes leads =
    stays A before now draft stroke (reply_text (LongReply at len)) is.history is.begins is.seat
    (told_of is.history before.number before.made draft.at stroke (Some (Refused (OverLong at len))) is.refusal (λ e. cc e)) strokes leads
commit_says A before now draft stroke NoRoom is strokes leads =
    let front : is.history ≡ now.front = sym (ap (λ (s : SeatContent A). s.front) is.seat) in
    let free : commit_refusal_at now.front before.number before.made draft.at stroke ≡ None = subst (λ (h : List (Entry A)). commit_refusal_at h before.number before.made draft.at stroke ≡ None) front is.refusal in
    let there : length now.front ≡ draft.at = there_of now.front before.number before.made draft.at stroke None free tt in
    commit_refused A before now draft (length stroke) (record { edits = stroke; stroke_is = strokes; leads = leads; long = refl }) (is.memory refl) (looked_by before now is.history is.begins is.seat) there
    (room_of now.front before.number before.made draft.at stroke free)

-- the same of a draft that says where it began, once the history was looked at
committed_at : {A : Type 0} (before now : SeatContent A) (at here : ℕ) (stroke : List (Edit A)) (answer : Result Receipt CommitError) → here ≡ at → IsDeskCommit before now here stroke answer → IsDeskCommit before now at stroke answer
committed_at before now at here stroke answer is done = subst (λ (n : ℕ). IsDeskCommit before now n stroke answer) is done

pub made_at : (A : Type 0) (before mid now : SeatContent A) (draft : DraftContent) (here : ℕ) (stroke : List (Edit A)) (receipt : Receipt) → KeepsZone before mid → here ≡ draft.at → IsDeskCommit mid now here stroke (Ok receipt)
    → IsStroke draft.base draft.movie stroke → LeadsTo draft.base stroke draft.movie → HasTalkAnswer A (talking before (Some draft)) (talking now None) Commit (draft_reply_text (Committed receipt.at receipt.len))
made_at A before mid now draft here stroke receipt looked is done strokes leads =
    outcome_after A before mid now draft None (draft_reply_text (Committed receipt.at receipt.len)) looked (commit_made A mid now draft stroke receipt (committed_at mid now draft.at here stroke (Ok receipt) is done) strokes leads)

pub moved_at : (A : Type 0) (before mid now : SeatContent A) (draft : DraftContent) (here : ℕ) (stroke : List (Edit A)) (at : ℕ) → KeepsZone before mid → here ≡ draft.at → IsDeskCommit mid now here stroke (Err (Moved at))
    → IsStroke draft.base draft.movie stroke → LeadsTo draft.base stroke draft.movie → HasTalkAnswer A (talking before (Some draft)) (talking now (Some draft)) Commit (draft_reply_text (MovedReply at))
moved_at A before mid now draft here stroke at looked is done strokes leads =
    outcome_after A before mid now draft (Some draft) (draft_reply_text (MovedReply at)) looked (commit_moved A mid now draft stroke at (committed_at mid now draft.at here stroke (Err (Moved at)) is done) strokes leads)

refused_at : (A : Type 0) (before now : SeatContent A) (draft : DraftContent) (here : ℕ) (stroke : List (Edit A)) (error : EditError) (r told : Result Reply RunFault) → r ≡ refused_as error → r ≡ told → here ≡ draft.at
    → IsDeskCommit before now here stroke (Err (Refused error)) → IsStroke draft.base draft.movie stroke → LeadsTo draft.base stroke draft.movie → CommitSays A before now draft told
refused_at A before now draft here stroke error r told tells was is done strokes leads =
    subst (CommitSays A before now draft) was
    (subst (CommitSays A before now draft) (sym tells) (commit_says A before now draft stroke error (committed_at before now draft.at here stroke (Err (Refused error)) is done) strokes leads))

pub refusal_said : (A : Type 0) (before mid now : SeatContent A) (draft : DraftContent) (here : ℕ) (stroke : List (Edit A)) (error : EditError) (r : Result Reply RunFault) (reply : Reply) → KeepsZone before mid → r ≡ refused_as error → r ≡ Ok reply
    → here ≡ draft.at → IsDeskCommit mid now here stroke (Err (Refused error)) → IsStroke draft.base draft.movie stroke → LeadsTo draft.base stroke draft.movie
    → HasTalkAnswer A (talking before (Some draft)) (talking now (Some draft)) Commit (reply_text reply)
refusal_said A before mid now draft here stroke error r reply looked tells was is done strokes leads =
    outcome_after A before mid now draft (Some draft) (reply_text reply) looked (refused_at A mid now draft here stroke error r (Ok reply) tells was is done strokes leads)

pub refusal_fault : (A : Type 0) (before mid now : SeatContent A) (draft : DraftContent) (here : ℕ) (stroke : List (Edit A)) (error : EditError) (r : Result Reply RunFault) (fault : RunFault) → KeepsZone before mid → r ≡ refused_as error → r ≡ Err fault
    → here ≡ draft.at → IsDeskCommit mid now here stroke (Err (Refused error)) → IsStroke draft.base draft.movie stroke → LeadsTo draft.base stroke draft.movie → HasNoOutcome before now fault
refusal_fault A before mid now draft here stroke error r fault looked tells was is done strokes leads =
    let strange = refused_at A mid now draft here stroke error r (Err fault) tells was is done strokes leads in
    (strange.0, strange_later before mid now looked.seen strange.1)

-- a commit that isn't carried out
pub no_outcome : {A : Type 0} (before now : TalkingSeat A) (fault : RunFault) → now.draft ≡ before.draft → (fault ≡ Foreign) × IsMiscounted before.seat now.seat → HasNoTalkAnswer before now Commit fault
no_outcome before now fault same is = subst (HasNoTalkAnswer before now Commit) (sym is.0) (is.1, same)

-- ---- `drop`

pub dropped : (A : Type 0) (seat : SeatContent A) (draft : Option DraftContent) → true ≡ is_some draft → HasTalkAnswer A (talking seat draft) (talking seat None) Drop (draft_reply_text Dropped)
dropped A seat None is = absurd (false≢true (sym is))
dropped A seat (Some draft) is = ([], (refl, refl, record { same = refl; none = refl }))
