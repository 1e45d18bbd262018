-- Edits that lines ask for.
use Rattle.std.proofs.Common.{◌≡◌, ℕ, ◌+◌, List, [], ◌∷◌, ◌++◌, length, Bool, true, false, Option, Some, None, Result, Ok, Err, refl, sym, ap, subst, ◌∙◌, arith, length-append}
use Rattle.std.specs.Prelude.{◌==◌, if◌then◌else◌, MatchResult}
use Rattle.std.proofs.lemmas.Bool.{eq-eqb}
use Rattle.std.proofs.lemmas.Result.{MatchResult-weaker}
use mathlib.Core.List.{IsPrefix}
use Rattle.vcs_inputs.specs.declared.input.Input.{Input}
use Rattle.tas_movie.specs.Content.{MovieContent}
use Rattle.tas_movie.specs.declared.edit.Edit.{Edit}
use Rattle.tas_movie.specs.declared.edit.EditRefusal.{EditRefusal}
use Rattle.tas_movie.specs.declared.edit.EditRefusal.TheVariants.{Place as PlaceRefusal, Long as LongRefusal}
use Rattle.tas_movie.specs.Edit.{refusal, edited, edited_unless, IsAllowed}
use Rattle.tas_published.specs.declared.entry.Entry.{Entry}
use Rattle.tas_session.specs.declared.replies.Receipt.{Receipt}
use Rattle.tas_session.specs.declared.replies.EditError.{EditError}
use Rattle.tas_session.specs.declared.replies.EditError.TheVariants.{Serial, Full as AllMade, Place as OutOfPlace, Long as OverLong, Memory as NoRoom}
use Rattle.tas_published.specs.History.{most_edits, movie_of, entries_of}
use Rattle.tas_session.specs.Session.{refusal_by, error_at}
use Rattle.tas_desk.specs.Seats.{SeatContent, seat_of, entry_of, IsEditedBy}
use Rattle.tas_published.proofs.HistoryLemmas.{movie_of-push}
use Rattle.tas_engines.specs.declared.fault.RunFault.{RunFault}
use Rattle.tas_engines.specs.declared.fault.RunFault.TheVariants.{Foreign}
use Rattle.tas_engines.specs.Changes.{EditContent}
use Rattle.tas_engines.specs.Retouching.{taken_by, retouch_with}
use Rattle.tas_engines.proofs.ChangeLemmas.{same_refusal as change_refusal, same_edited as change_edited}
use Rattle.tas_engines.proofs.RetouchLemmas.{retouch_allowed}
use Rattle.tas_language.specs.declared.change.Change.{Change as ChangeLine}
use Rattle.tas_language.specs.declared.image.Image.{Image}
use Rattle.tas_language.specs.declared.retouch.Retouch.{Retouch as RetouchLine}
use Rattle.tas_language.specs.declared.retouch.Retouch.TheVariants.{Press, Release, Repeat, Copy}
use Rattle.tas_language.specs.declared.command.Command.{Command}
use Rattle.tas_language.specs.declared.command.Command.TheVariants.{Load as LoadCommand, Edit as EditCommand}
use Rattle.tas_language.specs.declared.reply.Reply.{Reply}
use Rattle.tas_language.specs.declared.reply.Reply.TheVariants.{Edited, Place as PlaceReply, Long as LongReply, Full, OutOfMemory}
use Rattle.tas_seat.specs.declared.edit_requests.EditRequest.{EditRequest}
use Rattle.tas_seat.specs.declared.edit_requests.EditRequest.TheVariants.{Load, Change, Retouch}
use Rattle.tas_seat.specs.Turns.{Unforeseen, Standing, standing_of, refused_reply, refusal_reply, edit_reply, standing_unless}
use Rattle.tas_seat.specs.Seats.{IsSeatAfter, IsAnswered}
use Rattle.tas_seat.specs.Inside.EditRequests.{requested_refusal, requested_edit}
use Rattle.tas_seat.specs.Outcomes.{refused_as, IsTurnOf, IsEditAnswered, IsMiscounted, IsUnanswered}
use Rattle.tas_seat.proofs.SeatLemmas.{stood, rests, made_none, made_all}

-- ---- the same edit on any allocator

retouch_same : (A : Type 0) (movie : MovieContent) (taken : List Input) (retouch : RetouchLine) → refusal movie (retouch_with A taken retouch) ≡ refusal movie (retouch_with (Unit {0}) taken retouch)
retouch_same A movie taken (Press at count input) = refl
retouch_same A movie taken (Release at count input) = refl
retouch_same A movie taken (Repeat at count times) = refl
retouch_same A movie taken (Copy from count at) = refl

retouch_unless : (A : Type 0) (refused : Option EditRefusal) (movie : MovieContent) (taken : List Input) (retouch : RetouchLine)
    → edited_unless refused movie (retouch_with A taken retouch) ≡ edited_unless refused movie (retouch_with (Unit {0}) taken retouch)
retouch_unless A (Some refused) movie taken retouch = refl
retouch_unless A None movie taken (Press at count input) = refl
retouch_unless A None movie taken (Release at count input) = refl
retouch_unless A None movie taken (Repeat at count times) = refl
retouch_unless A None movie taken (Copy from count at) = refl

retouch_edited : (A : Type 0) (movie : MovieContent) (taken : List Input) (retouch : RetouchLine) → edited movie (retouch_with A taken retouch) ≡ edited movie (retouch_with (Unit {0}) taken retouch)
retouch_edited A movie taken retouch =
    ap (λ (r : Option EditRefusal). edited_unless r movie (retouch_with A taken retouch)) (retouch_same A movie taken retouch)
    ∙ retouch_unless A (refusal movie (retouch_with (Unit {0}) taken retouch)) movie taken retouch

pub asked_edited : (A : Type 0) (asked : EditRequest) (movie : MovieContent) → edited movie (requested_edit A asked movie) ≡ edited movie (requested_edit (Unit {0}) asked movie)
asked_edited A (Load image) movie = refl
asked_edited A (Change change) movie = change_edited A movie change
asked_edited A (Retouch retouch) movie = retouch_edited A movie (taken_by movie.inputs retouch) retouch

-- an edit that isn't refused is allowed
pub asked_allowed : (A : Type 0) (asked : EditRequest) (movie : MovieContent) → requested_refusal asked movie ≡ None → IsAllowed movie (requested_edit A asked movie)
asked_allowed A (Load image) movie none = refl
asked_allowed A (Change change) movie none = change_refusal A movie change ∙ none
asked_allowed A (Retouch retouch) movie none = retouch_allowed A movie retouch none

-- ---- refusals of a desk

-- why the desk refuses an edit, by whether the history has as many of the seat's edits as it made, and whether it is full
abbrev refused_if : Bool → Bool → ℕ → ℕ → Option EditRefusal → Option EditError
refused_if own full n k r = if own then (if full then Some (AllMade n) else error_at n r) else Some (Serial n k)

told_refusal : (own full : Bool) (n k : ℕ) (r : Option EditRefusal) (error : EditError) (reply : Reply) → refused_if own full n k r ≡ Some error → refused_as error ≡ Ok reply → (if full then Some (Full n) else refusal_reply n r) ≡ Some reply
told_refusal false full n k r error reply e t = let s : Serial n k ≡ error = cc e in let no : ◌≡◌ {A = Result Reply RunFault} (Err Foreign) (Ok reply) = ap refused_as s ∙ t in absurd (cc no)
told_refusal true true n k r error reply e t = let s : AllMade n ≡ error = cc e in let is : ◌≡◌ {A = Result Reply RunFault} (Ok (Full n)) (Ok reply) = ap refused_as s ∙ t in let same : Full n ≡ reply = cc is in ap Some same
told_refusal true false n k None error reply e t = absurd (cc e)
told_refusal true false n k (Some (PlaceRefusal at len)) error reply e t =
    let s : OutOfPlace n at len ≡ error = cc e in let is : ◌≡◌ {A = Result Reply RunFault} (Ok (PlaceReply n len)) (Ok reply) = ap refused_as s ∙ t in let same : PlaceReply n len ≡ reply = cc is in ap Some same
told_refusal true false n k (Some (LongRefusal len)) error reply e t =
    let s : OverLong n len ≡ error = cc e in let is : ◌≡◌ {A = Result Reply RunFault} (Ok (LongReply n len)) (Ok reply) = ap refused_as s ∙ t in let same : LongReply n len ≡ reply = cc is in ap Some same

unrefused : (own full : Bool) (n k : ℕ) (r : Option EditRefusal) → refused_if own full n k r ≡ None → (if full then Some (Full n) else refusal_reply n r) ≡ None
unrefused false full n k r e = absurd (cc e)
unrefused true true n k r e = absurd (cc e)
unrefused true false n k None e = refl
unrefused true false n k (Some (PlaceRefusal at len)) e = absurd (cc e)
unrefused true false n k (Some (LongRefusal len)) e = absurd (cc e)

not_serial : (full : Bool) (n k at counted : ℕ) (r : Option EditRefusal) → refused_if true full n k r ≡ Some (Serial at counted) → ⊥
not_serial true n k at counted r e = absurd (cc e)
not_serial false n k at counted None e = absurd (cc e)
not_serial false n k at counted (Some (PlaceRefusal p len)) e = absurd (cc e)
not_serial false n k at counted (Some (LongRefusal len)) e = absurd (cc e)

-- ---- turns

pub turn_refused : {A : Type 0} (s : Standing) (refused : Option EditRefusal) (edit : Edit A) (reply : Reply) → refused_reply s.made refused ≡ Some reply → IsTurnOf s refused edit reply s
turn_refused s refused edit reply is = (
  false,
  sym (ap (λ (o : Option Reply). edit_reply o false s.made (length (edited s.movie edit).inputs)) is),
  sym (ap (λ (o : Option Reply). standing_unless o false s edit) is),
)

pub turn_without_memory : {A : Type 0} (s : Standing) (refused : Option EditRefusal) (edit : Edit A) → refused_reply s.made refused ≡ None → IsTurnOf s refused edit OutOfMemory s
turn_without_memory s refused edit is = (
  true,
  sym (ap (λ (o : Option Reply). edit_reply o true s.made (length (edited s.movie edit).inputs)) is),
  sym (ap (λ (o : Option Reply). standing_unless o true s edit) is),
)

pub turn_made : {A : Type 0} (s : Standing) (refused : Option EditRefusal) (edit : Edit A) → refused_reply s.made refused ≡ None
    → IsTurnOf s refused edit (Edited (s.made + 1) (length (edited s.movie edit).inputs)) (record { movie = edited s.movie edit; made = s.made + 1 })
turn_made s refused edit is = (
  false,
  sym (ap (λ (o : Option Reply). edit_reply o false s.made (length (edited s.movie edit).inputs)) is),
  sym (ap (λ (o : Option Reply). standing_unless o false s edit) is),
)

-- ---- an edit on the desk

pub edit_made : (A : Type 0) (before now : SeatContent A) (asked : EditRequest) (receipt : Receipt) → IsEditedBy before now (requested_refusal asked) (requested_edit A asked) (Ok receipt) → IsEditAnswered A before now asked (Edited receipt.at receipt.len)
edit_made A before now asked receipt e =
    let movie : MovieContent = movie_of e.at in
    let edit : Edit A = requested_edit A asked movie in
    let content : EditContent = requested_edit (Unit {0}) asked movie in
    let entry : Entry A = entry_of before.number before.made edit in
    let pushed : List (Entry A) = e.at ++ entry ∷ [] in
    let free : refused_reply (length e.at) (requested_refusal asked movie) ≡ None =
    unrefused (entries_of before.number e.at == before.made) (length e.at == most_edits) (length e.at) (entries_of before.number e.at) (requested_refusal asked movie) e.refusal in
    let front : now.front ≡ pushed = ap (λ (s : SeatContent A). s.front) e.seat in
    let long : length pushed ≡ length e.at + 1 = omega (arith, length-append e.at (entry ∷ [])) in
    let same : edited movie edit ≡ edited movie content = asked_edited A asked movie in
    let next : standing_of now.front ≡ record { movie = edited movie content; made = length e.at + 1 } =
    ap (λ (l : List (Entry A)). standing_of l) front
    ∙ ap (λ (m : MovieContent). let f : Standing = record { movie = m; made = length pushed } in f) (movie_of-push e.at entry ∙ same)
    ∙ ap (λ (n : ℕ). let f : Standing = record { movie = edited movie content; made = n } in f) long in
    let turn = turn_made (standing_of e.at) (requested_refusal asked movie) content free in
    record {
      at = e.at;
      turn = (turn.0, ap (λ (r : Receipt). Edited r.at r.len) e.receipt ∙ ap (λ (m : MovieContent). Edited (length e.at + 1) (length m.inputs)) same ∙ turn.1, next ∙ turn.2);
      zone = ap (λ (s : SeatContent A). s.zone) e.seat;
      seat = subst (λ (l : List (Edit A)). IsSeatAfter before e.at l now) (made_all (standing_of e.at) (standing_of now.front) (edit ∷ []) (ap (λ (s : Standing). s.made) next))
          (record { begins = e.begins; front = front; number = ap (λ (s : SeatContent A). s.number) e.seat; made = ap (λ (s : SeatContent A). s.made) e.seat });
    }

-- an edit that wasn't made leaves the seat at the history
unmade : (A : Type 0) (before now : SeatContent A) (asked : EditRequest) (reply : Reply) (at : List (Entry A)) → IsPrefix before.front at → now ≡ seat_of before.number before.made at before.zone
    → IsTurnOf (standing_of at) (requested_refusal asked (movie_of at)) (requested_edit (Unit {0}) asked (movie_of at)) reply (standing_of at) → IsEditAnswered A before now asked reply
unmade A before now asked reply at begins is turn =
    let front : now.front ≡ at = ap (λ (s : SeatContent A). s.front) is in
    record {
      at = at;
      turn = subst (λ (l : List (Entry A)). IsTurnOf (standing_of at) (requested_refusal asked (movie_of at)) (requested_edit (Unit {0}) asked (movie_of at)) reply (standing_of l)) (sym front) turn;
      zone = ap (λ (s : SeatContent A). s.zone) is;
      seat = subst (λ (l : List (Edit A)). IsSeatAfter before at l now) (made_none (standing_of at) (standing_of now.front) (requested_edit A asked (movie_of at) ∷ []) (ap (λ (l : List (Entry A)). length l) front))
          (stood before now at begins is);
    }

refused_edit : (A : Type 0) (before now : SeatContent A) (asked : EditRequest) (error : EditError) (reply : Reply) (at : List (Entry A)) → IsPrefix before.front at → now ≡ seat_of before.number before.made at before.zone
    → refusal_by at before.number before.made (requested_refusal asked (movie_of at)) ≡ Some error → refused_as error ≡ Ok reply → IsEditAnswered A before now asked reply
refused_edit A before now asked error reply at begins is found says =
    unmade A before now asked reply at begins is
    (turn_refused (standing_of at) (requested_refusal asked (movie_of at)) (requested_edit (Unit {0}) asked (movie_of at)) reply
    (told_refusal (entries_of before.number at == before.made) (length at == most_edits) (length at) (entries_of before.number at) (requested_refusal asked (movie_of at)) error reply found says))

memory_edit : (A : Type 0) (before now : SeatContent A) (asked : EditRequest) (at : List (Entry A)) → IsPrefix before.front at → now ≡ seat_of before.number before.made at before.zone
    → refusal_by at before.number before.made (requested_refusal asked (movie_of at)) ≡ None → IsEditAnswered A before now asked OutOfMemory
memory_edit A before now asked at begins is found =
    unmade A before now asked OutOfMemory at begins is
    (turn_without_memory (standing_of at) (requested_refusal asked (movie_of at)) (requested_edit (Unit {0}) asked (movie_of at))
    (unrefused (entries_of before.number at == before.made) (length at == most_edits) (length at) (entries_of before.number at) (requested_refusal asked (movie_of at)) found))

strange_edit : (A : Type 0) (before now : SeatContent A) (asked : EditRequest) (n counted : ℕ) (at : List (Entry A)) → IsPrefix before.front at → now ≡ seat_of before.number before.made at before.zone
    → refusal_by at before.number before.made (requested_refusal asked (movie_of at)) ≡ Some (Serial n counted) → IsMiscounted before now
strange_edit A before now asked n counted at begins is found =
    let refused : Option EditRefusal = requested_refusal asked (movie_of at) in
    let front : now.front ≡ at = ap (λ (s : SeatContent A). s.front) is in
    let number : now.number ≡ before.number = ap (λ (s : SeatContent A). s.number) is in
    let made : now.made ≡ before.made = ap (λ (s : SeatContent A). s.made) is in
    record {
      seen = record { number = number; made = made; begins = subst (λ (l : List (Entry A)). IsPrefix before.front l) (sym front) begins };
      other = λ (same : entries_of now.number now.front ≡ now.made).
          let same' : entries_of before.number at ≡ before.made = sym (ap (λ (l : List (Entry A)). entries_of before.number l) front) ∙ sym (ap (λ (k : ℕ). entries_of k now.front) number) ∙ same ∙ made in
          let equal : (entries_of before.number at == before.made) ≡ true = eq-eqb (entries_of before.number at) before.made same' in
          let found' : refused_if true (length at == most_edits) (length at) (entries_of before.number at) refused ≡ Some (Serial n counted) =
          sym (ap (λ (b : Bool). refused_if b (length at == most_edits) (length at) (entries_of before.number at) refused) equal) ∙ found in
          not_serial (length at == most_edits) (length at) (entries_of before.number at) n counted refused found';
    }

pub edit_refused : (A : Type 0) (before now : SeatContent A) (asked : EditRequest) (error : EditError) (r : Result Reply RunFault) → IsEditedBy before now (requested_refusal asked) (requested_edit A asked) (Err error) → r ≡ refused_as error
    → MatchResult r (IsEditAnswered A before now asked) (λ fault. (fault ≡ Foreign) × IsMiscounted before now)
edit_refused A before now asked error r e is =
    subst (λ (x : Result Reply RunFault). MatchResult x (IsEditAnswered A before now asked) (λ fault. (fault ≡ Foreign) × IsMiscounted before now)) (sym is) (go error e)
  where
    go : (x : EditError) → IsEditedBy before now (requested_refusal asked) (requested_edit A asked) (Err x) → MatchResult (refused_as x) (IsEditAnswered A before now asked) (λ fault. (fault ≡ Foreign) × IsMiscounted before now)
    go (Serial at counted) i = (refl, strange_edit A before now asked at counted i.at i.begins i.seat i.refusal)
    go (AllMade at) i = refused_edit A before now asked (AllMade at) (Full at) i.at i.begins i.seat i.refusal refl
    go (OutOfPlace at place len) i = refused_edit A before now asked (OutOfPlace at place len) (PlaceReply at len) i.at i.begins i.seat i.refusal refl
    go (OverLong at len) i = refused_edit A before now asked (OverLong at len) (LongReply at len) i.at i.begins i.seat i.refusal refl
    go NoRoom i = memory_edit A before now asked i.at i.begins i.seat i.refusal

-- ---- commands that make edits

abbrev pub unforeseen : Bool → Unforeseen
unforeseen refused = record { refused = refused; ran = 0; kept = 0; stale = 0 }

load_answered : (A : Type 0) (before now : SeatContent A) (image : Image) (reply : Reply) → IsEditAnswered A before now (Load image) reply → IsAnswered A before now (LoadCommand image) reply
load_answered A before now image reply e = record {
  at = e.at;
  turn = (unforeseen e.turn.0, e.turn.1, e.turn.2);
  leaves = rests before now e.at now.front e.zone;
  seat = e.seat;
  zone = e.zone;
  counts = tt;
}

change_answered : (A : Type 0) (before now : SeatContent A) (change : ChangeLine) (reply : Reply) → IsEditAnswered A before now (Change change) reply → IsAnswered A before now (EditCommand change) reply
change_answered A before now change reply e = record {
  at = e.at;
  turn = (unforeseen e.turn.0, e.turn.1, e.turn.2);
  leaves = rests before now e.at now.front e.zone;
  seat = e.seat;
  zone = e.zone;
  counts = tt;
}

-- the history has another number of the seat's edits than it made
pub strange_fault : {A : Type 0} (before now : SeatContent A) (fault : RunFault) → (fault ≡ Foreign) × IsMiscounted before now → IsUnanswered before now fault
strange_fault before now fault is = subst (λ (f : RunFault). IsUnanswered before now f) (sym is.0) is.1

pub load_line : (A : Type 0) (before now : SeatContent A) (command : Command) (image : Image) (r : Result Reply RunFault) → command ≡ LoadCommand image
    → MatchResult r (IsEditAnswered A before now (Load image)) (λ fault. (fault ≡ Foreign) × IsMiscounted before now) → MatchResult r (IsAnswered A before now command) (IsUnanswered before now)
load_line A before now command image r is e =
    subst (λ (c : Command). MatchResult r (IsAnswered A before now c) (IsUnanswered before now)) (sym is)
    (MatchResult-weaker r e (load_answered A before now image) (strange_fault before now))

pub change_line : (A : Type 0) (before now : SeatContent A) (command : Command) (change : ChangeLine) (r : Result Reply RunFault) → command ≡ EditCommand change
    → MatchResult r (IsEditAnswered A before now (Change change)) (λ fault. (fault ≡ Foreign) × IsMiscounted before now) → MatchResult r (IsAnswered A before now command) (IsUnanswered before now)
change_line A before now command change r is e =
    subst (λ (c : Command). MatchResult r (IsAnswered A before now c) (IsUnanswered before now)) (sym is)
    (MatchResult-weaker r e (change_answered A before now change) (strange_fault before now))
