-- A draft is one of the movie at which it began, and a commit makes its movie.
use Rattle.std.proofs.Common.{◌≡◌, ℕ, ◌+◌, List, [], ◌∷◌, ◌++◌, length, Bool, true, false, Option, Some, None, inl, inr, refl, sym, ap, subst, ◌∙◌, arith, append-nil}
use Rattle.std.specs.Prelude.{◌==◌, nat_lt, if◌then◌else◌}
use Rattle.std.proofs.lemmas.Bool.{eqb-true}
use mathlib.Core.List.{IsPrefix}
use Rattle.tas_movie.specs.Content.{MovieContent, blank_movie}
use Rattle.tas_movie.specs.declared.edit.Edit.{Edit}
use Rattle.tas_movie.specs.Edit.{edited}
use Rattle.tas_published.specs.declared.entry.Entry.{Entry}
use Rattle.tas_published.specs.History.{most_edits, movie_of, movie_from}
use Rattle.tas_desk.specs.Seats.{SeatContent}
use Rattle.tas_language.specs.declared.command.Command.TheVariants.{Load, Edit as EditLine, Length, InputAt, Shot, Work}
use Rattle.tas_language.specs.declared.reply.Reply.TheVariants.{Full}
use Rattle.tas_language.specs.declared.draft_reply.DraftReply.TheVariants.{Moved}
use Rattle.tas_language.specs.Drafts.{draft_reply_text}
use Rattle.tas_language.specs.declared.request.Request.{Request}
use Rattle.tas_language.specs.declared.request.Request.TheVariants.{Do, Retouch, Picture, Pictures, Ram, Digest, Lag, Inputs, Movie, States, Share, History, Version, Begin, Commit, Drop, Quit}
use Rattle.tas_published.specs.Strokes.{edited_by, refusal_in}
use Rattle.tas_seat.specs.Turns.{standing_of, refusal_reply}
use Rattle.tas_seat.specs.Seats.{entries_from, talk_state_at}
use Rattle.tas_seat.specs.Requests.{StripAnswer, AreShown}
use Rattle.tas_seat.specs.declared.conversation.Subject.{Subject}
use Rattle.tas_seat.specs.declared.conversation.Subject.TheVariants as about
use Rattle.tas_seat.specs.Subjects.{subject_of}
use Rattle.tas_seat.specs.Drafts.{DraftContent, IsPictureIn, IsDraftAnswered, IsAnsweredInDraft, LeadsTo}
use Rattle.tas_seat.specs.Conversations.{TalkingSeat, talking, begun_draft, IsCommitted, IsCommitAnswer, IsAnsweredOutsideOf, IsAnsweredInsideOf, IsTalkAnswered, IsLineAnswered, text_of, uncommitted_answer, committed_edits, draft_after_commit}
use Rattle.tas_seat.specs.Talk.{Exchange, IsExchange, AreExchanges}
use Rattle.tas_published.proofs.PrefixLemmas.{prefix_trans, prefix_whole}
use Rattle.tas_seat.proofs.HistoryLemmas.{line_leaves}

-- ---- what a draft keeps

-- a draft that began where another did
pub record BeganAs (draft next : DraftContent) : Type 0 where
  pub at : next.at ≡ draft.at
  pub base : next.base ≡ draft.base

began_as_in : (draft next : DraftContent) (request : Request) (answer : List ℕ) → IsAnsweredInDraft draft request answer next → BeganAs draft next
began_as_in draft next request answer is = record { at = is.after.at; base = is.after.base }

began_as_pictures : (draft last : DraftContent) (from : ℕ) (strip : List (StripAnswer DraftContent)) → AreShown IsPictureIn draft from strip last → BeganAs draft last
unfolding AreShown
began_as_pictures draft last from [] is = record { at = ap (λ (d : DraftContent). d.at) is; base = ap (λ (d : DraftContent). d.base) is }
began_as_pictures draft last from (shown ∷ strip) is =
    let first = began_as_in draft shown.next (Picture from) shown.answer is.0 in
    let rest = began_as_pictures shown.next last (from + 1) strip is.1 in
    record { at = rest.at ∙ first.at; base = rest.base ∙ first.base }

pub began_as : (draft next : DraftContent) (request : Request) (answer : List ℕ) → IsDraftAnswered draft request answer next → BeganAs draft next
began_as draft next (Do (Load image)) answer (told, is) = record { at = ap (λ (d : DraftContent). d.at) is; base = ap (λ (d : DraftContent). d.base) is }
began_as draft next (Do (EditLine change)) answer is = began_as_in draft next (Do (EditLine change)) answer is.0
began_as draft next (Do Length) answer is = began_as_in draft next (Do Length) answer is
began_as draft next (Do (InputAt k)) answer is = began_as_in draft next (Do (InputAt k)) answer is
began_as draft next (Do (Shot k)) answer is = began_as_in draft next (Do (Shot k)) answer is
began_as draft next (Do (Work k)) answer is = began_as_in draft next (Do (Work k)) answer is.0
began_as draft next (Retouch retouch) answer is = began_as_in draft next (Retouch retouch) answer is
began_as draft next (Picture k) answer is = began_as_in draft next (Picture k) answer is
began_as draft next (Pictures from to) answer (strip, long, are, told) = began_as_pictures draft next from strip are
began_as draft next (Ram k) answer is = began_as_in draft next (Ram k) answer is
began_as draft next (Digest k) answer is = began_as_in draft next (Digest k) answer is
began_as draft next (Lag a b) answer is = began_as_in draft next (Lag a b) answer is
began_as draft next (Inputs a b) answer is = began_as_in draft next (Inputs a b) answer is.0
began_as draft next Movie answer is = began_as_in draft next Movie answer is.0
began_as draft next States answer is = began_as_in draft next States answer is.0
began_as draft next Share answer is = absurd is
began_as draft next (History from) answer is = began_as_in draft next (History from) answer is
began_as draft next Version answer is = began_as_in draft next Version answer is
began_as draft next Begin answer is = began_as_in draft next Begin answer is
began_as draft next Commit answer is = began_as_in draft next Commit answer is
began_as draft next Drop answer is = began_as_in draft next Drop answer is
began_as draft next Quit answer is = began_as_in draft next Quit answer is

-- ---- a seat's draft began at a history that the seat has seen

pub record Begins {A : Type 0} (seat : SeatContent A) (draft : DraftContent) : Type 0 where
  pub began : List (Entry A)
  pub begins : IsPrefix began seat.front
  pub long : length began ≡ draft.at
  pub base : movie_of began ≡ draft.base

abbrev pub IsTied : {A : Type 0} → SeatContent A → Option DraftContent → Type 0
IsTied seat None = Unit {0}
IsTied seat (Some draft) = Begins seat draft

tied_as : {A : Type 0} (seat : SeatContent A) (draft next : Option DraftContent) → next ≡ draft → IsTied seat draft → IsTied seat next
tied_as {A} seat draft next is tied = subst (λ (d : Option DraftContent). IsTied seat d) (sym is) tied

tied_later : {A : Type 0} (seat now : SeatContent A) (draft next : DraftContent) → IsPrefix seat.front now.front → BeganAs draft next → Begins seat draft → Begins now next
tied_later seat now draft next more same tied = record {
  began = tied.began;
  begins = prefix_trans tied.began seat.front now.front tied.begins more;
  long = tied.long ∙ sym same.at;
  base = tied.base ∙ sym same.base;
}

tied_still : {A : Type 0} (seat now : SeatContent A) (draft : DraftContent) → IsPrefix seat.front now.front → Begins seat draft → Begins now draft
tied_still seat now draft more tied = tied_later seat now draft draft more (record { at = refl; base = refl }) tied

tied_outside : (subject : Subject) (A : Type 0) (before : SeatContent A) (now : TalkingSeat A) (request : Request) (answer : List ℕ) (edits : List (Edit A)) → IsAnsweredOutsideOf subject A before now request answer edits → IsTied now.seat now.draft
tied_outside about.Begin A before now request answer edits (is, none) = go is.answered.no_memory is.answered.draft_is
  where
    go : (no_memory : Bool) → now.draft ≡ begun_draft no_memory (talk_state_at now.seat.front now.seat.zone) is.answered.near → IsTied now.seat now.draft
    go true is = tied_as now.seat None now.draft is tt
    go false is = tied_as now.seat _ now.draft is (record { began = now.seat.front; begins = ([], append-nil now.seat.front); long = refl; base = refl })
tied_outside about.Commit A before now request answer edits is = tied_as now.seat None now.draft is.1 tt
tied_outside about.Drop A before now request answer edits is = tied_as now.seat None now.draft is.1 tt
tied_outside about.Desk A before now request answer edits is = tied_as now.seat None now.draft is.1 tt
tied_outside about.Movie A before now request answer edits is = tied_as now.seat None now.draft is.1 tt
tied_outside about.End A before now request answer edits is = absurd is

tied_inside : (subject : Subject) (A : Type 0) (before : SeatContent A) (draft : DraftContent) (now : TalkingSeat A) (request : Request) (answer : List ℕ) (edits : List (Edit A)) → IsAnsweredInsideOf subject A before draft now request answer edits
    → IsPrefix before.front now.seat.front → Begins before draft → IsTied now.seat now.draft
tied_inside about.Begin A before draft now request answer edits is more tied = tied_as now.seat (Some draft) now.draft is.1 (tied_still before now.seat draft more tied)
tied_inside about.Commit A before draft now request answer edits is more tied = go is.answered
  where
    after : (outcome : Option (List ℕ)) → now.draft ≡ draft_after_commit outcome draft → IsTied now.seat now.draft
    after None e = tied_as now.seat None now.draft e tt
    after (Some text) e = tied_as now.seat (Some draft) now.draft e (tied_still before now.seat draft more tied)

    go : IsCommitAnswer (standing_of is.at) draft answer edits now.draft → IsTied now.seat now.draft
    go (inl none) = tied_as now.seat (Some draft) now.draft none.draft_is (tied_still before now.seat draft more tied)
    go (inr told) = after (uncommitted_answer (standing_of is.at) draft.at told.stroke) told.draft_is
tied_inside about.Drop A before draft now request answer edits is more tied = tied_as now.seat None now.draft is.1 tt
tied_inside about.Desk A before draft now request answer edits is more tied = tied_as now.seat (Some draft) now.draft is.1 (tied_still before now.seat draft more tied)
tied_inside about.Movie A before draft now request answer edits (next, told, sound, is, left) more tied = tied_as now.seat (Some next) now.draft is (tied_later before now.seat draft next more (began_as draft next request answer told) tied)
tied_inside about.End A before draft now request answer edits is more tied = absurd is

tied_talk : (A : Type 0) (before : SeatContent A) (draft : Option DraftContent) (now : TalkingSeat A) (request : Request) (answer : List ℕ) (edits : List (Edit A)) → IsTalkAnswered A before draft now request answer edits
    → IsPrefix before.front now.seat.front → IsTied before draft → IsTied now.seat now.draft
tied_talk A before None now request answer edits is more tied = tied_outside (subject_of request) A before now request answer edits is
tied_talk A before (Some draft) now request answer edits is more tied = tied_inside (subject_of request) A before draft now request answer edits is more tied

tied_line : (A : Type 0) (before now : TalkingSeat A) (said : List ℕ) (heard : Option Request) (answer : List ℕ) (edits : List (Edit A)) → IsLineAnswered A before now said heard answer edits → IsTied before.seat before.draft → IsTied now.seat now.draft
tied_line A before now said (Some request) answer edits is tied =
    tied_talk A before.seat before.draft now request answer edits is (line_leaves A before now said (Some request) answer edits is).seen tied
tied_line A before now said None answer edits (told, none, same) tied = subst (λ (s : TalkingSeat A). IsTied s.seat s.draft) (sym same) tied

pub tied_exchanges : {A : Type 0} (start last : TalkingSeat A) (xs : List (Exchange A)) → AreExchanges start xs last → IsTied start.seat start.draft → IsTied last.seat last.draft
unfolding AreExchanges
tied_exchanges {A} start last [] is tied = subst (λ (s : TalkingSeat A). IsTied s.seat s.draft) (sym is) tied
tied_exchanges {A} start last (x ∷ xs) is tied = tied_exchanges x.next last xs is.1 (tied_line A start x.next x.said x.heard x.answer x.edits is.0.answered tied)

-- ---- the history at which it began

-- a history with as many edits as when the draft began has its base
pub based : {A : Type 0} (seat : SeatContent A) (draft : DraftContent) (history : List (Entry A)) → Begins seat draft → IsPrefix seat.front history → length history ≡ draft.at → movie_of history ≡ draft.base
based {A} seat draft history tied more long =
    ap (λ (h : List (Entry A)). movie_of h) (sym (prefix_whole tied.began history (prefix_trans tied.began seat.front history tied.begins more) (omega (arith, long, tied.long)))) ∙ tied.base

-- ---- a commit

none_some : {X : Type 0} (x : X) → None ≡ Some x → ⊥
none_some x e = cc e

stroke_makes : {A : Type 0} (base new : MovieContent) (stroke : List (Edit A)) → LeadsTo base stroke new → edited_by base stroke ≡ new
stroke_makes base new [] is = sym is
stroke_makes base new (edit ∷ edits) is = stroke_makes (edited base edit) new edits is.1

-- the entries of edits make what the edits make
pub made_by_entries : {A : Type 0} (movie : MovieContent) (seat made : ℕ) (edits : List (Edit A)) → movie_from movie (entries_from seat made edits) ≡ edited_by movie edits
unfolding movie_from
made_by_entries movie seat made [] = refl
made_by_entries movie seat made (edit ∷ edits) = made_by_entries (edited movie edit) seat (made + 1) edits

pub made_after : {A : Type 0} (movie : MovieContent) (history more : List (Entry A)) → movie_from movie (history ++ more) ≡ movie_from (movie_from movie history) more
unfolding movie_from
made_after movie [] more = refl
made_after movie (entry ∷ history) more = made_after (edited movie entry.edit) history more

-- where it is made, the history had as many edits as when the draft began
was_there : {A : Type 0} (history : List (Entry A)) (at : ℕ) (stroke : List (Edit A)) → uncommitted_answer (standing_of history) at stroke ≡ None → length history ≡ at
was_there {A} history at stroke is = go (length history == at) refl is
  where
    go : (b : Bool) → (length history == at) ≡ b → (if b then text_of (if nat_lt most_edits (length history + length stroke) then Some (Full (length history)) else refusal_reply (length history) (refusal_in (movie_of history) stroke)) else Some (draft_reply_text (Moved (length history)))) ≡ None
        → length history ≡ at
    go true e is = eqb-true (length history) at e
    go false e is = absurd (cc is)

-- the movie is then the draft's
pub committed : (A : Type 0) (before : SeatContent A) (draft : DraftContent) (now : TalkingSeat A) (answer : List ℕ) (edits : List (Edit A)) → Begins before draft → IsCommitted before draft now answer edits → now.draft ≡ None → movie_of now.seat.front ≡ draft.movie
committed A before draft now answer edits tied is gone = go is.answered
  where
    made : (stroke : List (Edit A)) → LeadsTo draft.base stroke draft.movie → uncommitted_answer (standing_of is.at) draft.at stroke ≡ None → edits ≡ stroke → movie_of now.seat.front ≡ draft.movie
    made stroke leads free same =
        let base : movie_of is.at ≡ draft.base = based before draft is.at tied is.seat.begins (was_there is.at draft.at stroke free) in
        ap (λ (h : List (Entry A)). movie_of h) is.seat.front
        ∙ made_after blank_movie is.at (entries_from before.number before.made edits)
        ∙ made_by_entries (movie_of is.at) before.number before.made edits
        ∙ ap (λ (m : MovieContent). edited_by m edits) base
        ∙ ap (λ (l : List (Edit A)). edited_by draft.base l) same
        ∙ stroke_makes draft.base draft.movie stroke leads

    outcome : (stroke : List (Edit A)) → LeadsTo draft.base stroke draft.movie → (o : Option (List ℕ)) → uncommitted_answer (standing_of is.at) draft.at stroke ≡ o → edits ≡ committed_edits o stroke → now.draft ≡ draft_after_commit o draft
        → movie_of now.seat.front ≡ draft.movie
    outcome stroke leads None free same left = made stroke leads free same
    outcome stroke leads (Some text) free same left = absurd (none_some draft (sym gone ∙ left))

    go : IsCommitAnswer (standing_of is.at) draft answer edits now.draft → movie_of now.seat.front ≡ draft.movie
    go (inl none) = absurd (none_some draft (sym gone ∙ none.draft_is))
    go (inr told) = outcome told.stroke told.leads (uncommitted_answer (standing_of is.at) draft.at told.stroke) refl told.edits_are told.draft_is

-- ---- the laws

-- the draft that is open after some lines
tied_draft : {A : Type 0} (start : SeatContent A) (last : TalkingSeat A) (xs : List (Exchange A)) (draft : DraftContent) → AreExchanges (talking start None) xs last → last.draft ≡ Some draft → Begins last.seat draft
tied_draft {A} start last xs draft are opened = subst (λ (d : Option DraftContent). IsTied last.seat d) opened (tied_exchanges (talking start None) last xs are tt)

pub draft_has_base : {A : Type 0} (start : SeatContent A) (last : TalkingSeat A) (xs : List (Exchange A)) (draft : DraftContent) (history : List (Entry A)) → AreExchanges (talking start None) xs last → last.draft ≡ Some draft
    → IsPrefix last.seat.front history → length history ≡ draft.at → movie_of history ≡ draft.base
draft_has_base {A} start last xs draft history are opened more long = based last.seat draft history (tied_draft start last xs draft are opened) more long

pub commit_makes_draft : {A : Type 0} (start : SeatContent A) (seat : TalkingSeat A) (xs : List (Exchange A)) (x : Exchange A) (draft : DraftContent) → AreExchanges (talking start None) xs seat → IsExchange seat x → seat.draft ≡ Some draft
    → x.heard ≡ Some Commit → x.next.draft ≡ None → movie_of x.next.seat.front ≡ draft.movie
commit_makes_draft {A} start seat xs x draft are is opened heard gone =
    let there : IsTalkAnswered A seat.seat (Some draft) x.next Commit x.answer x.edits =
    subst (λ (d : Option DraftContent). IsTalkAnswered A seat.seat d x.next Commit x.answer x.edits) opened (subst (λ (h : Option Request). IsLineAnswered A seat x.next x.said h x.answer x.edits) heard is.answered) in
    committed A seat.seat draft x.next x.answer x.edits (tied_draft start seat xs draft are opened) there gone
