-- Answers at drafts.
use Rattle.std.proofs.Common.{◌≡◌, ℕ, ◌+◌, ◌<◌, ◌≤◌, List, length, Bool, true, false, Option, Some, None, Result, Ok, Err, IfOk, ◌⊎◌, inl, inr, refl, sym, ap, subst, ◌∙◌, arith}
use Rattle.std.specs.Prelude.{MatchOption, MatchResult, OnOk, OnErr, IfErr, IsOk}
use Rattle.std.proofs.lemmas.Result.{IfOk-weaker, MatchResult-weaker}
use Rattle.vcs_cpu.specs.declared.halt.Halt.{Halt}
use Rattle.vcs_machine.specs.declared.state.State.{State}
use Rattle.vcs_machine.specs.Machine.{profile}
use Rattle.vcs_tia.specs.Image.{ppm_bytes}
use Rattle.vcs_tia.specs.Picture.{lit_count}
use Rattle.tas_movie.specs.Content.{MovieContent}
use Rattle.tas_movie.specs.Text.{text2}
use Rattle.tas_movie.specs.declared.edit.Edit.{Edit}
use Rattle.tas_green.specs.declared.savestate.Savestate.{Savestate}
use Rattle.tas_green.specs.Green.{IsLawful, IsPlayedFrom, IsShotFrom}
use Rattle.tas_green.specs.View.{ViewContent, view_of, AreOfMovie, both_of}
use Rattle.tas_green.specs.Window.{IsPlayedNear, both}
use Rattle.tas_green.specs.Grid.{stride}
use Rattle.tas_green.specs.Run.{state_after, picture_of, answer_of}
use Rattle.tas_green.specs.Zone.{state_at, nearest, first_of, where_true, is_passed}
use Rattle.tas_green.proofs.MovingLemmas.{moved_same}
use Rattle.tas_session.specs.Answers.{answer_shot, shown_of}
use Rattle.tas_session.specs.declared.replies.Shot.{Shot as ShotOf}
use Rattle.tas_session.specs.declared.replies.Reached.{Reached}
use Rattle.tas_published.specs.declared.errors.ShotError.{ShotError}
use Rattle.tas_published.specs.declared.errors.ShotError.TheVariants.{Halted as ShotHalted}
use Rattle.tas_published.specs.declared.errors.StateError.{StateError}
use Rattle.tas_published.specs.Errors.{shot_error}
use Rattle.tas_engines.specs.declared.fault.RunFault.{RunFault}
use Rattle.tas_engines.specs.declared.fault.RunFault.TheVariants.{Memory}
use Rattle.tas_language.specs.declared.command.Command.TheVariants.{Shot}
use Rattle.tas_language.specs.declared.reply.Reply.{Reply}
use Rattle.tas_language.specs.declared.reply.Reply.TheVariants.{Drawn, OutOfMemory}
use Rattle.tas_language.specs.Replies.{reply_text}
use Rattle.tas_language.specs.declared.request.Request.{Request}
use Rattle.tas_language.specs.declared.request.Request.TheVariants.{Do, Picture, Ram, Digest, Lag, Inputs, Movie, States, Version}
use Rattle.tas_language.specs.Answers.{picture_text, frame_digest_text, movie_text, states_text, version_text}
use Rattle.tas_seat.specs.Turns.{standing_at}
use Rattle.tas_seat.specs.Edits.{requested_edits, made_between}
use Rattle.tas_seat.specs.Requests.{TalkState, Rests, Plays, Gains, picture_found, digest_found, look_text, look_places, IsLooked, IsAnswerTo, GainsUnless, kept_frames, inputs_found, answer_to_inputs}
use Rattle.tas_seat.specs.Drafts.{DraftContent, draft_of, draft_standing, draft_state, left_by_edits, near_left_by_edits, LeavesNear, IsAnsweredInDraft, IsDraftAnswered}
use Rattle.tas_seat.specs.Inside.Looking.{AsksForState, HasText, HasReport}
use Rattle.tas_seat.specs.Inside.Drafting.{with_states, IsDraftPlayed, IsDraftViewed, IsDraftDrawn, IsDraftShot, IsDraftPicture, IsDraftStateFor, HasNoDraftAnswer}
use Rattle.tas_seat.specs.Outcomes.{unshown_as}
use Rattle.tas_seat.proofs.SeatLemmas.{made_none}
use Rattle.tas_seat.proofs.TextLemmas.{text_or_memory, made_or_memory}
use Rattle.tas_seat.proofs.ReachLemmas.{shown_frame, lag_ignored, of_looks, looked_as, same_or_left, state_told, drawn_told, of_ok, shown_within, shot_told}

-- ---- answers and faults

-- memory was refused for the answer of a request that was carried out
untold : (before now : DraftContent) (request : Request) (answer : List ℕ) → IsDraftAnswered before request answer now → HasNoDraftAnswer before now request Memory
untold before now request answer told = (refl, inr (answer, told))

-- the answer's bytes, or memory was refused for them
pub told_text : {X : Type 0} (before now : DraftContent) (request : Request) (text : List ℕ) (r : Result X RunFault) (bytes_of : X → List ℕ) → MatchResult r (λ bytes. bytes_of bytes ≡ text) (λ fault. fault ≡ Memory)
    → IsDraftAnswered before request text now → MatchResult r (λ bytes. IsDraftAnswered before request (bytes_of bytes) now) (HasNoDraftAnswer before now request)
told_text before now request text r bytes_of is told = text_or_memory (λ l. IsDraftAnswered before request l now) (HasNoDraftAnswer before now request) text r bytes_of is told (untold before now request text)

-- an answer was made, or memory was refused for it, and then for the line that says so
pub answered_or : {X E : Type 0} (before now : DraftContent) (request : Request) (answer : Result X E) (r : Result X RunFault) (bytes_of : X → List ℕ)
    → MatchResult answer (λ bytes. r ≡ Ok bytes) (λ fault. MatchResult r (λ bytes. bytes_of bytes ≡ reply_text OutOfMemory) (λ fault. fault ≡ Memory))
    → IfOk answer (λ bytes. IsDraftAnswered before request (bytes_of bytes) now) → IsDraftAnswered before request (reply_text OutOfMemory) now
    → MatchResult r (λ bytes. IsDraftAnswered before request (bytes_of bytes) now) (HasNoDraftAnswer before now request)
answered_or before now request answer r bytes_of is told lost =
    made_or_memory (λ l. IsDraftAnswered before request l now) (HasNoDraftAnswer before now request) answer r bytes_of is told lost (untold before now request (reply_text OutOfMemory))

-- ---- a request that makes no edit

abbrev pub state_with : DraftContent → List Savestate → TalkState
state_with draft states = record { stands = draft_standing draft; kept_for = draft.movie; states = states }

pub looked : (before now : DraftContent) (request : Request) (answer : List ℕ) → now ≡ with_states before now.states now.near → IsAnswerTo (draft_state before) request answer (state_with before now.states) → LeavesNear before request answer now
    → IsAnsweredInDraft before request answer now
looked before now request answer rest is window = record {
  next = state_with before now.states;
  answered = is;
  after = record {
    at = ap (λ (d : DraftContent). d.at) rest;
    base = ap (λ (d : DraftContent). d.base) rest;
    stands = ap draft_standing rest;
    states = ap (λ (l : List (Edit (Unit {0}))). left_by_edits before.movie l now.states) (made_none (draft_standing before) (draft_standing before) (requested_edits (Unit {0}) before.movie request) refl);
  };
  window = window;
}

-- the draft is as it was
pub same_states : (before now : DraftContent) → now ≡ before → now ≡ with_states before now.states now.near
same_states before now is = subst (λ (d : DraftContent). d ≡ with_states before d.states d.near) (sym is) refl

pub same_window : (before now : DraftContent) → now ≡ before → now ≡ with_states before now.states before.near
same_window before now is = subst (λ (d : DraftContent). d ≡ with_states before d.states before.near) (sym is) refl

-- its window is
pub window_kept : (before now : DraftContent) → now ≡ with_states before now.states before.near → now ≡ with_states before now.states now.near
window_kept before now rest = rest ∙ ap (with_states before now.states) (sym (ap (λ (d : DraftContent). d.near) rest))

pub near_kept : (before now : DraftContent) (edits : List (Edit (Unit {0}))) → now ≡ with_states before now.states before.near
    → now.near ≡ near_left_by_edits before.movie (made_between (draft_standing before) (draft_standing now) edits) before.near
near_kept before now edits rest =
    ap (λ (d : DraftContent). d.near) rest
    ∙ ap (λ (l : List (Edit (Unit {0}))). near_left_by_edits before.movie l before.near) (made_none (draft_standing before) (draft_standing now) edits (ap (λ (d : DraftContent). d.at + d.made) rest))

-- so is its window after a line that doesn't use it
pub glanced : (before now : DraftContent) (request : Request) (answer : List ℕ) → now ≡ with_states before now.states before.near → IsAnswerTo (draft_state before) request answer (state_with before now.states)
    → (now.near ≡ near_left_by_edits before.movie (made_between (draft_standing before) (draft_standing now) (requested_edits (Unit {0}) before.movie request)) before.near → LeavesNear before request answer now)
    → IsAnsweredInDraft before request answer now
glanced before now request answer rest is leaves = looked before now request answer (window_kept before now rest) is (leaves (near_kept before now (requested_edits (Unit {0}) before.movie request) rest))

pub rests : (before now : DraftContent) → now ≡ before → Rests (draft_state before) (state_with before now.states)
rests before now is = record { kept_for = refl; states = ap (λ (d : DraftContent). d.states) is }

-- ---- frames that were played

pub played_over : (movie : MovieContent) (near end ran : ℕ) (old now : List Savestate) → IsLawful movie old → ran + nearest near old ≡ end
    → ((f : ℕ) → state_at f now ≡ first_of (state_at f old) (where_true (is_passed (stride (length movie.inputs)) (nearest near old) end f) (Some (state_after movie f)))) → IsPlayedFrom movie movie near end old now 0 ran
played_over movie near end ran old now lawful rise kept = record {
  left = old;
  moved = moved_same movie old lawful;
  rise = omega (arith, rise);
  kept = kept;
}

plays : (before now : DraftContent) (k ran : ℕ) → IsDraftPlayed before now k ran → Plays (draft_state before) (state_with before now.states) k (k + 1) ran
plays before now k ran is = record { green = record { kept_for = refl; lawful = is.lawful }; played = is.shot }

-- states were gained
pub gains : (before : DraftContent) (states : List Savestate) (more : ℕ → Option State) (gained : ℕ) → IsLawful before.movie before.states → IsLawful before.movie states → ((f : ℕ) → state_at f states ≡ first_of (state_at f before.states) (more f))
    → length states ≡ length before.states + gained → Gains (draft_state before) (state_with before states)
gains before states more gained old now is count = record {
  green = record { kept_for = refl; lawful = now };
  other = states;
  others = now;
  gained = gained;
  gain = (before.states, moved_same before.movie before.states old, λ f. is f ∙ twice (state_at f before.states) (more f) ∙ ap (first_of (state_at f before.states)) (sym (is f)), count);
}
  where
    twice : {X : Type 0} (a b : Option X) → first_of a b ≡ first_of a (first_of a b)
    twice (Some x) b = refl
    twice None b = refl

-- none were
gains_none : (before : DraftContent) → IsLawful before.movie before.states → Gains (draft_state before) (state_with before before.states)
gains_none before lawful = gains before before.states (λ f. None) 0 lawful lawful (λ f. first (state_at f before.states)) (omega arith)
  where
    first : {X : Type 0} (a : Option X) → a ≡ first_of a None
    first (Some x) = refl
    first None = refl

-- ---- `shot K`

pub shot_answered : {B : Type 0} (before now : DraftContent) (k : ℕ) (drawn : Result (ShotOf B) ShotError) (r : Result Reply RunFault) → IsDraftShot before now k drawn
    → MatchResult drawn (λ shot. r ≡ Ok (Drawn shot.at shot.frame shot.ran (lit_count shot.picture))) (λ error. r ≡ unshown_as error)
    → MatchResult r (λ reply. IsDraftAnswered before (Do (Shot k)) (reply_text reply) now) (λ fault. ⊥)
shot_answered before now k drawn r is has =
    shot_told (λ (reply : Reply). IsDraftAnswered before (Do (Shot k)) (reply_text reply) now) (λ (fault : RunFault). ⊥) before.movie (before.at + before.made) k ⊥ (now ≡ before) (Rests (draft_state before) (state_with before now.states)) (IsDraftPlayed before now k)
    (Plays (draft_state before) (state_with before now.states) k (k + 1)) drawn r is has (rests before now) (plays before now k)
    (λ reply turn leaves kept. glanced before now (Do (Shot k)) (reply_text reply) (elim kept [
      | inl same ↦ same_window before now same
      | inr played ↦ played.1.rest
    ]) (reply, turn, refl, leaves) (λ near. near)) (λ none. absurd none)

-- ---- looks

-- a look is answered at a draft
looked_in : (before now : DraftContent) (look : Request) (at : ℕ × ℕ) (answer : List ℕ) → look_places look ≡ Some at
    → IsLooked (draft_standing before) (look_text (draft_standing before) look) (now ≡ before) (IsDraftViewed before now at.0 at.1) answer → IsDraftAnswered before look answer now
looked_in before now look at answer is told =
    of_looks (λ (l : Request). MatchOption (look_places l) ⊥ (λ f. IsLooked (draft_standing before) (look_text (draft_standing before) l) (now ≡ before) (IsDraftViewed before now f.0 f.1) answer) → IsDraftAnswered before l answer now) at look is
    (λ k found. in_draft (Picture k) (k, k + 1) found (refl, plays_in _ (k, k + 1) found) (views_in _ (k, k + 1) found))
    (λ k found. in_draft (Ram k) (k, k) found (refl, plays_in _ (k, k) found) (views_in _ (k, k) found))
    (λ k found. in_draft (Digest k) (k, k + 1) found (refl, plays_in _ (k, k + 1) found) (views_in _ (k, k + 1) found))
    (λ a b found. in_draft (Lag a b) (a, a) found ((refl, plays_in _ (a, a) found), lag_ignored before.movie) (views_in _ (a, a) found))
    (subst (λ (o : Option (ℕ × ℕ)). MatchOption o ⊥ (λ f. IsLooked (draft_standing before) (look_text (draft_standing before) look) (now ≡ before) (IsDraftViewed before now f.0 f.1) answer)) (sym is) told)
  where
    in_draft : (l : Request) (f : ℕ × ℕ) → IsLooked (draft_standing before) (look_text (draft_standing before) l) (now ≡ before) (IsDraftViewed before now f.0 f.1) answer → IsAnswerTo (draft_state before) l answer (state_with before now.states)
        → LeavesNear before l answer now → IsAnsweredInDraft before l answer now
    in_draft l f found = looked before now l answer (elim (same_or_left (draft_standing before) (look_text (draft_standing before) l) answer (now ≡ before) (IsDraftViewed before now f.0 f.1) found) [
      | inl same ↦ same_states before now same
      | inr viewed ↦ viewed.1.rest
    ])

    plays_in : (text : Option (List ℕ)) (f : ℕ × ℕ) → IsLooked (draft_standing before) text (now ≡ before) (IsDraftViewed before now f.0 f.1) answer
        → IsLooked (draft_standing before) text (Rests (draft_state before) (state_with before now.states)) (Plays (draft_state before) (state_with before now.states) f.0 f.1) answer
    plays_in text f found =
        looked_as (draft_standing before) text answer (now ≡ before) (Rests (draft_state before) (state_with before now.states)) (IsDraftViewed before now f.0 f.1) (Plays (draft_state before) (state_with before now.states) f.0 f.1) found (rests before now)
        (λ ran viewed. (viewed.view.rose, record { green = record { kept_for = refl; lawful = viewed.lawful }; played = viewed.view.played }))

    views_in : (text : Option (List ℕ)) (f : ℕ × ℕ) → IsLooked (draft_standing before) text (now ≡ before) (IsDraftViewed before now f.0 f.1) answer
        → IsLooked (draft_standing before) text (now ≡ before) (IsPlayedNear before.movie before.movie f.0 f.1 (both before.states before.near) (both now.states now.near)) answer
    views_in text f found =
        looked_as (draft_standing before) text answer (now ≡ before) (now ≡ before) (IsDraftViewed before now f.0 f.1) (IsPlayedNear before.movie before.movie f.0 f.1 (both before.states before.near) (both now.states now.near)) found (λ same. same)
        (λ ran viewed. (ran, viewed.view))

-- another name of a draft's movie after a look
pub movie_in : (before now : DraftContent) (name : MovieContent) (from to : ℕ) (reached : Result Reached StateError) → name ≡ now.movie → IsDraftStateFor before now from to reached → IfOk reached (λ found. name ≡ before.movie)
movie_in before now name from to (Ok found) named is = named ∙ ap (λ (d : DraftContent). d.movie) is.4.rest
movie_in before now name from to (Err error) named is = tt

pub picture_answered : {X B : Type 0} (before now : DraftContent) (k : ℕ) (drawn : Result (ShotOf B) ShotError) (r : Result X RunFault) (bytes_of : X → List ℕ) → IsDraftPicture before now k drawn
    → MatchResult drawn (λ shot. HasText r bytes_of (Some (picture_text shot.at k (ppm_bytes shot.picture)))) (λ error. HasReport r bytes_of error)
    → MatchResult r (λ bytes. IsDraftAnswered before (Picture k) (bytes_of bytes) now) (HasNoDraftAnswer before now (Picture k))
picture_answered before now k drawn r bytes_of is has =
    drawn_told (λ (answer : List ℕ). IsDraftAnswered before (Picture k) answer now) (HasNoDraftAnswer before now (Picture k)) before.movie (before.at + before.made) k (Picture k) (picture_found (draft_standing before) k) (λ n p. picture_text n k (ppm_bytes p)) ⊥
    (now ≡ before) (IsDraftViewed before now k (k + 1)) drawn r bytes_of refl (λ halt. refl) (of_ok drawn _ (λ shot. refl)) is has (λ answer told. looked_in before now (Picture k) (k, k + 1) answer refl told) (λ none. absurd none)
    (λ answer told. untold before now (Picture k) answer told)

-- the movie of the view that has drawn it is as before
viewed_as : {B : Type 0} (before now : DraftContent) (name : MovieContent) (k : ℕ) (drawn : Result (ShotOf B) ShotError) → name ≡ now.movie → IsDraftPicture before now k drawn → IfOk drawn (λ shot. name ≡ before.movie)
viewed_as before now name k (Ok shot) named is = named ∙ ap (λ (d : DraftContent). d.movie) is.3.rest
viewed_as before now name k (Err error) named is = tt

pub digest_answered : {X B : Type 0} (before now : DraftContent) (name : MovieContent) (k : ℕ) (drawn : Result (ShotOf B) ShotError) (r : Result X RunFault) (bytes_of : X → List ℕ) → IsDraftPicture before now k drawn → name ≡ now.movie
    → MatchResult drawn (λ shot. HasText r bytes_of (Some (frame_digest_text shot.at k (state_after name (k + 1)).riot.ram (ppm_bytes shot.picture)))) (λ error. HasReport r bytes_of error)
    → MatchResult r (λ bytes. IsDraftAnswered before (Digest k) (bytes_of bytes) now) (HasNoDraftAnswer before now (Digest k))
digest_answered before now name k drawn r bytes_of is named has =
    drawn_told (λ (answer : List ℕ). IsDraftAnswered before (Digest k) answer now) (HasNoDraftAnswer before now (Digest k)) before.movie (before.at + before.made) k (Digest k) (digest_found (draft_standing before) k)
    (λ n p. frame_digest_text n k (state_after name (k + 1)).riot.ram (ppm_bytes p)) ⊥ (now ≡ before) (IsDraftViewed before now k (k + 1)) drawn r bytes_of refl (λ halt. refl)
    (IfOk-weaker drawn _ _ (λ shot e. ap (λ (m : MovieContent). frame_digest_text (before.at + before.made) k (state_after m (k + 1)).riot.ram (ppm_bytes shot.picture)) e) (viewed_as before now name k drawn named is)) is has
    (λ answer told. looked_in before now (Digest k) (k, k + 1) answer refl told) (λ none. absurd none) (λ answer told. untold before now (Digest k) answer told)

-- the movie has the frame that was drawn
pub frame_in : {B : Type 0} (before now : DraftContent) (name : MovieContent) (k : ℕ) (drawn : Result (ShotOf B) ShotError) → name ≡ now.movie → IsDraftPicture before now k drawn → OnOk drawn (k < length name.inputs)
frame_in before now name k (Ok shot) named is = subst (λ (m : MovieContent). k < length m.inputs) (sym (named ∙ ap (λ (d : DraftContent). d.movie) is.3.rest)) (shown_within before.movie k (Ok shot.picture) is.0)
frame_in before now name k (Err error) named is = tt

pub look_answered : {X : Type 0} (before now : DraftContent) (name : MovieContent) (look : Request) (from to : ℕ) (reached : Result Reached StateError) (r : Result X RunFault) (bytes_of : X → List ℕ) → AsksForState look from to
    → IsDraftStateFor before now from to reached → name ≡ now.movie → MatchResult reached (λ found. HasText r bytes_of (look_text (standing_at name found.at) look)) (λ error. HasReport r bytes_of (shot_error error))
    → MatchResult r (λ bytes. IsDraftAnswered before look (bytes_of bytes) now) (HasNoDraftAnswer before now look)
look_answered before now name look from to reached r bytes_of asks is named has =
    state_told (λ (answer : List ℕ). IsDraftAnswered before look answer now) (HasNoDraftAnswer before now look) before.movie name (before.at + before.made) look from to ⊥ (now ≡ before) (IsDraftViewed before now from from) reached r bytes_of asks is
    (movie_in before now name from to reached named is) has (λ answer told. looked_in before now look (from, from) answer asks.places told) (λ none. absurd none) (λ answer told. untold before now look answer told)

-- ---- `movie` and `states`

pub movie_answered : (draft : DraftContent) (at : ℕ) → IsLawful draft.movie draft.states → at ≡ draft.at + draft.made → IsDraftAnswered draft Movie (movie_text at (text2 draft.movie)) draft
movie_answered draft at lawful here =
    (glanced draft draft Movie (movie_text at (text2 draft.movie)) refl (false, ap (λ (n : ℕ). movie_text n (text2 draft.movie)) here, refl, gains_none draft lawful) (λ near. near), refl)

pub lost_movie : (draft : DraftContent) → IsDraftAnswered draft Movie (reply_text OutOfMemory) draft
lost_movie draft = (glanced draft draft Movie (reply_text OutOfMemory) refl (true, refl, refl, inl (rests draft draft refl)) (λ near. near), refl)

inputs_here : (draft : DraftContent) (from to : ℕ) (no_memory : Bool) → GainsUnless no_memory (draft_state draft) (state_with draft draft.states) → IsDraftAnswered draft (Inputs from to) (answer_to_inputs no_memory (draft_standing draft) from to) draft
inputs_here draft from to no_memory leaves = (glanced draft draft (Inputs from to) (answer_to_inputs no_memory (draft_standing draft) from to) refl (no_memory, refl, refl, leaves) (λ near. near), refl)

pub inputs_answered : {X : Type 0} (draft : DraftContent) (at from to : ℕ) (movie : MovieContent) (r : Result X RunFault) (bytes_of : X → List ℕ) → IsLawful draft.movie draft.states → at ≡ draft.at + draft.made → movie ≡ draft.movie
    → MatchResult r (λ bytes. (bytes_of bytes ≡ inputs_found (standing_at movie at) from to) ⊎ (bytes_of bytes ≡ reply_text OutOfMemory)) (λ fault. fault ≡ Memory)
    → MatchResult r (λ bytes. IsDraftAnswered draft (Inputs from to) (bytes_of bytes) draft) (HasNoDraftAnswer draft draft (Inputs from to))
inputs_answered draft at from to movie r bytes_of lawful here is has =
    let name = ap (λ (n : ℕ). inputs_found (standing_at movie n) from to) here ∙ ap (λ (m : MovieContent). inputs_found (standing_at m (draft.at + draft.made)) from to) is in
    let told = inputs_here draft from to false (gains_none draft lawful) in
    let lost = inputs_here draft from to true (inl (rests draft draft refl)) in
    MatchResult-weaker r has (λ bytes e. elim e [
      | inl found ↦ subst (λ (l : List ℕ). IsDraftAnswered draft (Inputs from to) l draft) (sym (found ∙ name)) told
      | inr refused ↦ subst (λ (l : List ℕ). IsDraftAnswered draft (Inputs from to) l draft) (sym refused) lost
    ]) (λ fault e. (e, inr (reply_text OutOfMemory, lost)))

pub states_answered : (draft : DraftContent) (at : ℕ) → IsLawful draft.movie draft.states → at ≡ draft.at + draft.made
    → IsDraftAnswered draft States (states_text at (kept_frames (length draft.movie.inputs) draft.states)) draft
states_answered draft at lawful here =
    let frames = kept_frames (length draft.movie.inputs) draft.states in
    (glanced draft draft States (states_text at (kept_frames (length draft.movie.inputs) draft.states)) refl (false, ap (λ (n : ℕ). states_text n frames) here, refl, gains_none draft lawful) (λ near. near), refl)

pub lost_states : (draft : DraftContent) → IsDraftAnswered draft States (reply_text OutOfMemory) draft
lost_states draft = (glanced draft draft States (reply_text OutOfMemory) refl (true, refl, refl, inl (rests draft draft refl)) (λ near. near), refl)

-- ---- `version`

version_here : (draft : DraftContent) → IsDraftAnswered draft Version (version_text profile) draft
version_here draft = glanced draft draft Version (version_text profile) refl (refl, refl, rests draft draft refl) (λ near. near)

pub version_answered : (draft : DraftContent) (answer : List ℕ) → answer ≡ version_text profile → IsDraftAnswered draft Version answer draft
version_answered draft answer is = subst (λ (l : List ℕ). IsDraftAnswered draft Version l draft) (sym is) (version_here draft)

pub lost_version : (draft : DraftContent) (fault : RunFault) → fault ≡ Memory → HasNoDraftAnswer draft draft Version fault
lost_version draft fault is = (is, inr (version_text profile, version_here draft))

-- ---- of what was computed

shown_there : (movie : MovieContent) (k : ℕ) (halt : Option Halt) (picture : List ℕ) (u : Unit {0}) → k < length movie.inputs → (state_after movie (k + 1)).halt ≡ halt → Ok u ≡ answer_of halt → picture ≡ picture_of movie k
    → answer_shot movie k ≡ Some (Ok picture)
shown_there movie k None picture u within is e drawn = shown_frame movie k within ∙ ap (λ (h : Option Halt). Some (shown_of h (picture_of movie k))) is ∙ ap (λ (p : List ℕ). Some (shown_of None p)) (sym drawn)
shown_there movie k (Some halt) picture u within is e drawn = absurd (cc e)

halted_there : (movie : MovieContent) (k : ℕ) (halt : Option Halt) (error : Halt) → k < length movie.inputs → (state_after movie (k + 1)).halt ≡ halt → Err error ≡ answer_of halt → answer_shot movie k ≡ Some (Err error)
halted_there movie k None error within is e = absurd (cc e)
halted_there movie k (Some halt) error within is e =
    let same : halt ≡ error = cc e in shown_frame movie k within ∙ ap (λ (h : Option Halt). Some (shown_of h (picture_of movie k))) is ∙ ap (λ (h : Halt). Some (shown_of (Some h) (picture_of movie k))) same

-- a drawing of the frame, which the view's movie has
pub draft_drawn : (B : Type 0) (left : ℕ → Type 0) (before now : DraftContent) (movie : MovieContent) (k at ran : ℕ) (picture : List ℕ) (end : Result (Unit {0}) Halt) (r : Result (ShotOf B) ShotError) → movie ≡ before.movie → at ≡ before.at + before.made
    → (k < length movie.inputs) × (end ≡ answer_of (state_after movie (k + 1)).halt) → OnOk end (picture ≡ picture_of movie k) → left ran
    → OnOk end (r ≡ Ok (record { at = at; frame = k; ran = ran; picture = picture })) → IfErr end (λ halt. r ≡ Err (ShotHalted at halt)) → IsDraftDrawn left before now k r
draft_drawn B left before now movie k at ran picture (Ok u) r same here is drawn played ok err =
    subst (IsDraftDrawn left before now k) (sym ok) (
      ap (λ (m : MovieContent). answer_shot m k) (sym same) ∙ shown_there movie k (state_after movie (k + 1)).halt picture u is.0 refl is.1 drawn,
      here,
      refl,
      played,
    )
draft_drawn B left before now movie k at ran picture (Err halt) r same here is drawn played ok err =
    subst (IsDraftDrawn left before now k) (sym err)
    (ap (λ (m : MovieContent). answer_shot m k) (sym same) ∙ halted_there movie k (state_after movie (k + 1)).halt halt is.0 refl is.1, here, (ran, played))

-- what calls of a draft's view leave of the draft
pub view_rest : (at made : ℕ) (base : MovieContent) (old new : ViewContent) → new.movie ≡ old.movie → draft_of at base made new ≡ with_states (draft_of at base made old) new.states new.near
view_rest at made base old new movie = ap (λ (m : MovieContent). draft_of at base made (view_of m new.states new.near)) movie

pub states_rest : (at made : ℕ) (base : MovieContent) (old new : ViewContent) → new.movie ≡ old.movie → new.near ≡ old.near → draft_of at base made new ≡ with_states (draft_of at base made old) new.states old.near
states_rest at made base old new movie near = view_rest at made base old new movie ∙ ap (with_states (draft_of at base made old) new.states) near

pub shot_in : (at made : ℕ) (base : MovieContent) (old new : ViewContent) (k ran : ℕ) → new.movie ≡ old.movie → new.near ≡ old.near → AreOfMovie new → IsShotFrom old.movie old.movie k old.states new.states 0 ran
    → IsDraftPlayed (draft_of at base made old) (draft_of at base made new) k ran
shot_in at made base old new k ran movie near lawful shot = record {
  rest = states_rest at made base old new movie near;
  lawful = subst (λ (m : MovieContent). IsLawful m new.states) movie lawful.states;
  shot = shot;
}

pub viewed_in : (at made : ℕ) (base : MovieContent) (old new : ViewContent) (k end ran : ℕ) → new.movie ≡ old.movie → AreOfMovie new → IsPlayedNear old.movie new.movie k end (both_of old) (both_of new) ran
    → IsDraftViewed (draft_of at base made old) (draft_of at base made new) k end ran
viewed_in at made base old new k end ran movie lawful view = record {
  rest = view_rest at made base old new movie;
  lawful = subst (λ (m : MovieContent). IsLawful m new.states) movie lawful.states;
  view = subst (λ (m : MovieContent). IsPlayedNear old.movie m k end (both_of old) (both_of new) ran) movie view;
}

-- a draft's movie has the frame
pub has_frame : {X E : Type 0} (r : Result X E) (n k : ℕ) → OnErr r (n ≤ k) → k < n → IsOk r
has_frame (Ok x) n k past within = refl
has_frame (Err e) n k past within = absurd (omega (arith, past, within))

pub has_place : {X E : Type 0} (r : Result X E) (n k : ℕ) → OnErr r (n < k) → k ≤ n → IsOk r
has_place (Ok x) n k past within = refl
has_place (Err e) n k past within = absurd (omega (arith, past, within))
