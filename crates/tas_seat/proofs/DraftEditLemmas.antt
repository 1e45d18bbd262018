-- Changes of drafts, and lines of a script at drafts.
use Rattle.std.proofs.Common.{◌≡◌, ℕ, ◌+◌, ◌≤◌, List, [], ◌∷◌, length, min, filter, Bool, true, false, Option, Some, None, Result, Ok, inl, inr, refl, sym, ap, subst, ◌∙◌, arith}
use Rattle.std.specs.Prelude.{◌==◌, ◌⊎◌, nat_le, if◌then◌else◌, slice_get, OnOk}
use Rattle.std.proofs.lemmas.Bool.{eq-eqb, eqb-true}
use Rattle.std.proofs.lemmas.Option.{slice_get_past}
use Rattle.vcs_inputs.specs.declared.input.Input.{Input}
use Rattle.tas_movie.specs.Content.{MovieContent}
use Rattle.tas_movie.specs.declared.edit.Edit.{Edit}
use Rattle.tas_movie.specs.declared.edit.EditRefusal.{EditRefusal}
use Rattle.tas_movie.specs.declared.edit.EditRefusal.TheVariants.{Place, Long}
use Rattle.tas_movie.specs.Edit.{edited, edited_unless, edited_place, refusal}
use Rattle.tas_green.specs.declared.savestate.Savestate.{Savestate}
use Rattle.tas_green.specs.Green.{is_left, IsReachedFrom}
use Rattle.tas_green.specs.View.{ViewContent, view_of}
use Rattle.tas_published.specs.History.{most_edits}
use Rattle.tas_session.specs.Session.{left_by}
use Rattle.tas_engines.specs.Changes.{edit_of, BringsCopies}
use Rattle.tas_engines.specs.Retouching.{taken_by, retouch_with}
use Rattle.tas_language.specs.declared.change.Change.{Change as ChangeLine}
use Rattle.tas_language.specs.declared.change.Change.TheVariants.{Insert, Replace, Delete}
use Rattle.tas_language.specs.declared.retouch.Retouch.{Retouch as RetouchLine}
use Rattle.tas_language.specs.declared.retouch.Retouch.TheVariants.{Press, Release, Repeat, Copy}
use Rattle.tas_language.specs.declared.command.Command.TheVariants.{Edit as EditCommand, Length, InputAt, Work}
use Rattle.tas_language.specs.declared.reply.Reply.{Reply}
use Rattle.tas_language.specs.declared.reply.Reply.TheVariants.{Edited, Full, Place as PlaceReply, Long as LongReply, Measured, Pressed, NoFrame, Worked, OutOfMemory}
use Rattle.tas_language.specs.Replies.{reply_text}
use Rattle.tas_language.specs.declared.request.Request.TheVariants.{Do, Retouch as RetouchRequest}
use Rattle.tas_seat.specs.declared.edit_requests.EditRequest.{EditRequest}
use Rattle.tas_seat.specs.declared.edit_requests.EditRequest.TheVariants.{Load, Change, Retouch}
use Rattle.tas_seat.specs.Turns.{Standing, refused_reply, refusal_reply, edit_reply, standing_unless, input_reply}
use Rattle.tas_seat.specs.Requests.{Gains}
use Rattle.tas_seat.specs.Drafts.{DraftContent, draft_of, draft_standing, draft_state, left_by_edits, near_left_by_edits, IsDraftEdit}
use Rattle.tas_seat.specs.Inside.EditRequests.{requested_refusal, requested_edit, TakesMemory}
use Rattle.tas_seat.specs.Outcomes.{IsTurnOf}
use Rattle.tas_seat.specs.Inside.Drafting.{with_states, draft_after, KeepsCart, IsDraftChanged, IsDraftReply}
use Rattle.tas_seat.proofs.SeatLemmas.{made_none, made_all}
use Rattle.tas_seat.proofs.EditLemmas.{unforeseen, turn_refused, turn_without_memory, turn_made, asked_edited}
use Rattle.tas_seat.proofs.DraftLemmas.{glanced, rests, same_window, state_with}

-- ---- the same edit on any allocator

retouch_place : (A : Type 0) (taken : List Input) (retouch : RetouchLine) → edited_place (retouch_with A taken retouch) ≡ edited_place (retouch_with (Unit {0}) taken retouch)
retouch_place A taken (Press at count input) = refl
retouch_place A taken (Release at count input) = refl
retouch_place A taken (Repeat at count times) = refl
retouch_place A taken (Copy from count at) = refl

change_place : (A : Type 0) (movie : MovieContent) (change : ChangeLine) → edited_place (requested_edit A (Change change) movie) ≡ edited_place (requested_edit (Unit {0}) (Change change) movie)
change_place A movie (Insert at count input) = refl
change_place A movie (Replace at count input) = refl
change_place A movie (Delete at count) = refl

asked_place : (A : Type 0) (asked : EditRequest) (movie : MovieContent) → edited_place (requested_edit A asked movie) ≡ edited_place (requested_edit (Unit {0}) asked movie)
asked_place A (Load image) movie = refl
asked_place A (Change change) movie = change_place A movie change
asked_place A (Retouch retouch) movie = retouch_place A (taken_by movie.inputs retouch) retouch

-- an edit that no line loads a cartridge by keeps the cartridge
unless_cart : (refused : Option EditRefusal) (asked : EditRequest) (movie : MovieContent) → KeepsCart asked → (edited_unless refused movie (requested_edit (Unit {0}) asked movie)).cart ≡ movie.cart
unless_cart (Some refused) asked movie keeps = refl
unless_cart None (Load image) movie keeps = absurd keeps
unless_cart None (Change (Insert at count input)) movie keeps = refl
unless_cart None (Change (Replace at count input)) movie keeps = refl
unless_cart None (Change (Delete at count)) movie keeps = refl
unless_cart None (Retouch (Press at count input)) movie keeps = refl
unless_cart None (Retouch (Release at count input)) movie keeps = refl
unless_cart None (Retouch (Repeat at count times)) movie keeps = refl
unless_cart None (Retouch (Copy from count at)) movie keeps = refl

pub asked_cart : (A : Type 0) (asked : EditRequest) (movie : MovieContent) (edit : Edit A) → KeepsCart asked → edit ≡ requested_edit A asked movie → (edited movie edit).cart ≡ movie.cart
asked_cart A asked movie edit keeps is =
    ap (λ (e : Edit A). (edited movie e).cart) is ∙ ap (λ (m : MovieContent). m.cart) (asked_edited A asked movie)
    ∙ unless_cart (refusal movie (requested_edit (Unit {0}) asked movie)) asked movie keeps

-- ---- changes

-- an edit of a draft's view makes the draft after it
pub made_in : {A X E : Type 0} (at made : ℕ) (base : MovieContent) (old new : ViewContent) (edit : Edit A) (r : Result X E) (x : X) → r ≡ Ok x → new.movie ≡ edited old.movie edit
    → OnOk r (new.states ≡ filter (is_left (edited_place edit) (length new.movie.inputs)) old.states)
    → OnOk r (new.near ≡ filter (λ (kept : Savestate). nat_le kept.frame (min (edited_place edit) (length new.movie.inputs))) old.near)
    → draft_of at base (made + 1) new ≡ draft_after (draft_of at base made old) edit
made_in {A} {X} {E} at made base old new edit r x is movie states near =
    ap (λ (s : List Savestate). draft_of at base (made + 1) (view_of new.movie s new.near)) (subst (λ (a : Result X E). OnOk a (new.states ≡ left new.movie)) is states)
    ∙ ap (λ (s : List Savestate). draft_of at base (made + 1) (view_of new.movie (left new.movie) s)) (subst (λ (a : Result X E). OnOk a (new.near ≡ close new.movie)) is near)
    ∙ ap (λ (m : MovieContent). draft_of at base (made + 1) (view_of m (left m) (close m))) movie
  where
    left : MovieContent → List Savestate
    left m = filter (is_left (edited_place edit) (length m.inputs)) old.states

    close : MovieContent → List Savestate
    close m = filter (λ (kept : Savestate). nat_le kept.frame (min (edited_place edit) (length m.inputs))) old.near

-- nothing was changed
unchanged : (before : DraftContent) (asked : EditRequest) (reply : Reply)
    → IsTurnOf (draft_standing before) (requested_refusal asked before.movie) (requested_edit (Unit {0}) asked before.movie) reply (draft_standing before) → (reply ≡ OutOfMemory → TakesMemory asked)
    → IsDraftChanged before before asked reply
unchanged before asked reply turn memory = record {
  turn = turn;
  memory = memory;
  at = refl;
  base = refl;
  states = ap (λ (l : List (Edit (Unit {0}))). left_by_edits before.movie l before.states) (made_none (draft_standing before) (draft_standing before) (requested_edit (Unit {0}) asked before.movie ∷ []) refl);
  near = ap (λ (l : List (Edit (Unit {0}))). near_left_by_edits before.movie l before.near) (made_none (draft_standing before) (draft_standing before) (requested_edit (Unit {0}) asked before.movie ∷ []) refl);
}

refused_as_full : (made : ℕ) (refused : Option EditRefusal) → made ≡ most_edits → refused_reply made refused ≡ Some (Full made)
refused_as_full made refused full = ap (λ (b : Bool). if b then Some (Full made) else refusal_reply made refused) (eq-eqb made most_edits full)

refused_as_movie : (made : ℕ) (refused : Option EditRefusal) → (made ≡ most_edits → ⊥) → refused_reply made refused ≡ refusal_reply made refused
refused_as_movie made refused room = go (made == most_edits) refl
  where
    go : (b : Bool) → made == most_edits ≡ b → (if b then Some (Full made) else refusal_reply made refused) ≡ refusal_reply made refused
    go true e = absurd (room (eqb-true made most_edits e))
    go false e = refl

refused_not_memory : (at : ℕ) (refused : EditRefusal) (reply : Reply) → refusal_reply at (Some refused) ≡ Some reply → reply ≡ OutOfMemory → ⊥
refused_not_memory at (Place place len) reply says e = let no : ◌≡◌ {A = Option Reply} (Some (PlaceReply at len)) (Some OutOfMemory) = says ∙ ap Some e in cc no
refused_not_memory at (Long len) reply says e = let no : ◌≡◌ {A = Option Reply} (Some (LongReply at len)) (Some OutOfMemory) = says ∙ ap Some e in cc no

pub change_full : (before : DraftContent) (asked : EditRequest) (at : ℕ) → at ≡ before.at + before.made → at ≡ most_edits → IsDraftChanged before before asked (Full at)
change_full before asked at is full =
    let edit = requested_edit (Unit {0}) asked before.movie in
    unchanged before asked (Full at)
    (turn_refused (draft_standing before) (requested_refusal asked before.movie) (requested_edit (Unit {0}) asked before.movie) (Full at)
    (refused_as_full (before.at + before.made) (requested_refusal asked before.movie) (sym is ∙ full) ∙ ap (λ (n : ℕ). Some (Full n)) (sym is)))
    (λ e. absurd (cc e))

pub change_refused : (before : DraftContent) (asked : EditRequest) (at : ℕ) (refused : EditRefusal) (reply : Reply) → at ≡ before.at + before.made → (at ≡ most_edits → ⊥) → requested_refusal asked before.movie ≡ Some refused
    → refusal_reply at (Some refused) ≡ Some reply → IsDraftChanged before before asked reply
change_refused before asked at refused reply is room found says =
    unchanged before asked reply
    (turn_refused (draft_standing before) (requested_refusal asked before.movie) (requested_edit (Unit {0}) asked before.movie) reply
    (refused_as_movie (before.at + before.made) (requested_refusal asked before.movie) (λ (e : before.at + before.made ≡ most_edits). room (is ∙ e))
    ∙ ap (refusal_reply (before.at + before.made)) found ∙ ap (λ (n : ℕ). refusal_reply n (Some refused)) (sym is) ∙ says))
    (λ e. absurd (refused_not_memory at refused reply says e))

pub not_refused : (before : DraftContent) (asked : EditRequest) (at : ℕ) → at ≡ before.at + before.made → (at ≡ most_edits → ⊥) → requested_refusal asked before.movie ≡ None → refused_reply (before.at + before.made) (requested_refusal asked before.movie) ≡ None
not_refused before asked at is room free =
    refused_as_movie (before.at + before.made) (requested_refusal asked before.movie) (λ (e : before.at + before.made ≡ most_edits). room (is ∙ e)) ∙ ap (refusal_reply (before.at + before.made)) free

pub change_without_memory : (before : DraftContent) (asked : EditRequest) (at : ℕ) → at ≡ before.at + before.made → (at ≡ most_edits → ⊥) → requested_refusal asked before.movie ≡ None → TakesMemory asked → IsDraftChanged before before asked OutOfMemory
change_without_memory before asked at is room free takes =
    unchanged before asked OutOfMemory (turn_without_memory (draft_standing before) (requested_refusal asked before.movie) (requested_edit (Unit {0}) asked before.movie) (not_refused before asked at is room free))
    (λ e. takes)

pub change_made : (A : Type 0) (before now : DraftContent) (asked : EditRequest) (edit : Edit A) (at len : ℕ) → at ≡ before.at + before.made → (at ≡ most_edits → ⊥) → requested_refusal asked before.movie ≡ None → edit ≡ requested_edit A asked before.movie
    → now ≡ draft_after before edit → len ≡ length now.movie.inputs → IsDraftChanged before now asked (Edited (at + 1) len)
change_made A before now asked edit at len is room free edit_is made long =
    let movie : MovieContent = before.movie in
    let content : Edit (Unit {0}) = requested_edit (Unit {0}) asked movie in
    let s : Standing = draft_standing before in
    let same : edited movie edit ≡ edited movie content = ap (edited movie) edit_is ∙ asked_edited A asked movie in
    let place : edited_place edit ≡ edited_place content = ap edited_place edit_is ∙ asked_place A asked movie in
    let count : before.at + (before.made + 1) ≡ before.at + before.made + 1 = omega arith in
    let stands : draft_standing now ≡ record { movie = edited movie content; made = before.at + before.made + 1 } =
    ap draft_standing made
    ∙ ap (λ (m : MovieContent). let f : Standing = record { movie = m; made = before.at + (before.made + 1) } in f) same
    ∙ ap (λ (n : ℕ). let f : Standing = record { movie = edited movie content; made = n } in f) count in
    let turn = turn_made s (requested_refusal asked movie) content (not_refused before asked at is room free) in
    let size : len ≡ length (edited movie content).inputs = long ∙ ap (λ (d : DraftContent). length d.movie.inputs) made ∙ ap (λ (m : MovieContent). length m.inputs) same in
    let left : left_by movie edit before.states ≡ left_by movie content before.states =
    ap (λ (n : ℕ). filter (is_left n (length (edited movie edit).inputs)) before.states) place ∙ ap (λ (m : MovieContent). filter (is_left (edited_place content) (length m.inputs)) before.states) same in
    let close : near_left_by_edits movie (edit ∷ []) before.near ≡ near_left_by_edits movie (content ∷ []) before.near =
    ap (λ (n : ℕ). filter (λ (kept : Savestate). nat_le kept.frame (min n (length (edited movie edit).inputs))) before.near) place
    ∙ ap (λ (m : MovieContent). filter (λ (kept : Savestate). nat_le kept.frame (min (edited_place content) (length m.inputs))) before.near) same in
    record {
      turn = (
        turn.0,
        ap (λ (n : ℕ). Edited (n + 1) len) is ∙ ap (Edited (before.at + before.made + 1)) size ∙ turn.1,
        stands ∙ turn.2,
      );
      memory = λ e. absurd (cc e);
      at = ap (λ (d : DraftContent). d.at) made;
      base = ap (λ (d : DraftContent). d.base) made;
      states =
          ap (λ (d : DraftContent). d.states) made
          ∙ left
          ∙ ap (λ (l : List (Edit (Unit {0}))). left_by_edits movie l before.states) (made_all s (draft_standing now) (content ∷ []) (ap (λ (t : Standing). t.made) stands));
      near =
          ap (λ (d : DraftContent). d.near) made
          ∙ close
          ∙ ap (λ (l : List (Edit (Unit {0}))). near_left_by_edits movie l before.near) (made_all s (draft_standing now) (content ∷ []) (ap (λ (t : Standing). t.made) stands));
    }

-- ---- lines

-- a change that isn't answered `out of memory` is answered and made as where none is refused
change_edit : (before now : DraftContent) (change : ChangeLine) (reply : Reply) → IsDraftChanged before now (Change change) reply → IsDraftEdit before change (reply_text reply) now
change_edit before now change reply e = go (refused_reply (before.at + before.made) (refusal before.movie (edit_of change))) e.turn.0 e.turn.1 e.turn.2
  where
    go : (r : Option Reply) (no_memory : Bool) → reply ≡ edit_reply r no_memory (before.at + before.made) (length (edited before.movie (edit_of change)).inputs) → draft_standing now ≡ standing_unless r no_memory (draft_standing before) (edit_of change)
        → BringsCopies change ⊎ ((reply_text reply ≡ reply_text (edit_reply r false (before.at + before.made) (length (edited before.movie (edit_of change)).inputs))) × (draft_standing now ≡ standing_unless r false (draft_standing before) (edit_of change)))
    go None true says stands = inl (e.memory says)
    go None false says stands = inr (ap reply_text says, stands)
    go (Some refused) no_memory says stands = inr (ap reply_text says, stands)

pub change_answered : (before now : DraftContent) (change : ChangeLine) (reply : Reply) → IsDraftChanged before now (Change change) reply → IsDraftReply before now (Do (EditCommand change)) reply
change_answered before now change reply e = (
  record {
    next = record { stands = draft_standing now; kept_for = before.movie; states = before.states };
    answered = (reply, (unforeseen e.turn.0, e.turn.1, e.turn.2), refl, record { kept_for = refl; states = refl });
    after = record { at = e.at; base = e.base; stands = refl; states = e.states };
    window = e.near;
  },
  change_edit before now change reply e,
)

pub retouch_answered : (before now : DraftContent) (retouch : RetouchLine) (reply : Reply) → IsDraftChanged before now (Retouch retouch) reply → IsDraftReply before now (RetouchRequest retouch) reply
retouch_answered before now retouch reply e = record {
  next = record { stands = draft_standing now; kept_for = before.movie; states = before.states };
  answered = (reply, e.turn, refl, record { kept_for = refl; states = refl });
  after = record { at = e.at; base = e.base; stands = refl; states = e.states };
  window = e.near;
}

pub length_answered : (draft : DraftContent) (at len : ℕ) → at ≡ draft.at + draft.made → len ≡ length draft.movie.inputs → IsDraftReply draft draft (Do Length) (Measured at len)
length_answered draft at len here long =
    glanced draft draft (Do Length) (reply_text (Measured at len)) refl
    (Measured at len, (unforeseen false, ap (λ (n : ℕ). Measured n len) here ∙ ap (Measured (draft.at + draft.made)) long, refl), refl, rests draft draft refl) (λ near. near)

pub input_answered : (draft : DraftContent) (k at : ℕ) (input : Input) → at ≡ draft.at + draft.made → slice_get draft.movie.inputs k ≡ Some input → IsDraftReply draft draft (Do (InputAt k)) (Pressed at input)
input_answered draft k at input here there =
    glanced draft draft (Do (InputAt k)) (reply_text (Pressed at input)) refl
    (Pressed at input, (unforeseen false, ap (λ (n : ℕ). Pressed n input) here ∙ ap (input_reply (draft_standing draft)) (sym there), refl), refl, rests draft draft refl) (λ near. near)

pub no_input_answered : (draft : DraftContent) (k at len : ℕ) → at ≡ draft.at + draft.made → len ≡ length draft.movie.inputs → len ≤ k → IsDraftReply draft draft (Do (InputAt k)) (NoFrame at len)
no_input_answered draft k at len here long past =
    let none : slice_get draft.movie.inputs k ≡ None = slice_get_past draft.movie.inputs k (subst (λ (n : ℕ). n ≤ k) long past) in
    glanced draft draft (Do (InputAt k)) (reply_text (NoFrame at len)) refl (
      NoFrame at len,
      (unforeseen false, ap (λ (n : ℕ). NoFrame n len) here ∙ ap (NoFrame (draft.at + draft.made)) long ∙ ap (input_reply (draft_standing draft)) (sym none), refl),
      refl,
      rests draft draft refl,
    ) (λ near. near)

pub work_refused : (before now : DraftContent) (k : ℕ) → now ≡ before → IsDraftReply before now (Do (Work k)) OutOfMemory
work_refused before now k same = (
  glanced before now (Do (Work k)) (reply_text OutOfMemory) (same_window before now same) (OutOfMemory, (unforeseen true, refl, refl), refl, rests before now same) (λ near. near),
  inl (refl, ap (λ (d : DraftContent). d.states) same),
)

pub work_answered : (before d now : DraftContent) (k kept : ℕ) → d ≡ before → now ≡ with_states d now.states d.near → length now.states ≡ length d.states + kept → Gains (draft_state d) (state_with d now.states)
    → (ran : ℕ) × IsReachedFrom d.movie d.movie (min k (length d.movie.inputs)) d.states now.states 0 ran → IsDraftReply before now (Do (Work k)) (Worked 1 kept 0)
work_answered before d now k kept is rest count gains reached =
    subst (λ (x : DraftContent). IsDraftReply x now (Do (Work k)) (Worked 1 kept 0)) is (
      glanced d now (Do (Work k)) (reply_text (Worked 1 kept 0)) rest (Worked 1 kept 0, (record { refused = false; ran = 0; kept = kept; stale = 0 }, refl, refl), refl, gains) (λ near. near),
      inr (kept, reached.0, refl, count, reached.1),
    )
