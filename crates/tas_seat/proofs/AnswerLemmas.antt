-- Answers to requests.
use Rattle.std.proofs.Common.{◌≡◌, ℕ, ◌+◌, ◌<◌, ◌≤◌, List, [], length, true, false, Bool, Option, Some, Result, Ok, Err, IfOk, ◌⊎◌, inl, inr, refl, sym, ap, subst, ◌∙◌}
use Rattle.std.specs.Prelude.{MatchOption, MatchResult, OnOk, drop}
use Rattle.std.proofs.lemmas.Result.{IfOk-weaker, MatchResult-weaker}
use Rattle.vcs_machine.specs.Machine.{profile}
use Rattle.vcs_tia.specs.Image.{ppm_bytes}
use Rattle.tas_movie.specs.Content.{MovieContent}
use Rattle.tas_movie.specs.Text.{text2}
use Rattle.tas_green.specs.Run.{state_after}
use Rattle.tas_session.specs.declared.replies.Shot.{Shot as ShotOf}
use Rattle.tas_session.specs.declared.replies.Reached.{Reached}
use Rattle.tas_published.specs.History.{movie_of}
use Rattle.tas_published.specs.Errors.{shot_error}
use Rattle.tas_session.specs.Shots.{IsShotAt}
use Rattle.tas_published.specs.declared.entry.Entry.{Entry}
use Rattle.tas_published.specs.declared.errors.ShotError.{ShotError}
use Rattle.tas_published.specs.declared.errors.ShotError.TheVariants.{NoEntry as NoShotEntry, NoFrame as NoShotFrame, Memory as NoShotMemory, Halted as ShotHalted}
use Rattle.tas_published.specs.declared.errors.StateError.{StateError}
use Rattle.tas_published.specs.declared.errors.StateError.TheVariants.{NoEntry as NoStateEntry, NoFrame as FewFrames, Memory as NoStateMemory}
use Rattle.tas_desk.specs.Parts.{one_part}
use Rattle.tas_desk.specs.Seats.{SeatContent, HasSeen, KeepsZone, IsZoneViewed}
use Rattle.tas_desk.specs.States.{IsStateFor, IsZoneReached}
use Rattle.tas_desk.specs.Zones.{IsShared}
use Rattle.tas_engines.specs.declared.fault.RunFault.{RunFault}
use Rattle.tas_engines.specs.declared.fault.RunFault.TheVariants.{NoEntry, Memory, Foreign, Write, Size, Text, NoFrame as OffMovie, Range as OffRange, Halted as Stopped, HaltedFrame as StoppedFrame, Script, Place, Long, Names as NoNames, NoPlace}
use Rattle.tas_language.specs.declared.command.Command.{Command}
use Rattle.tas_language.specs.declared.retouch.Retouch.{Retouch as RetouchLine}
use Rattle.tas_language.specs.declared.reply.Reply.{Reply}
use Rattle.tas_language.specs.declared.reply.Reply.TheVariants.{OutOfMemory}
use Rattle.tas_language.specs.Replies.{reply_text}
use Rattle.tas_language.specs.declared.request.Request.{Request}
use Rattle.tas_language.specs.declared.request.Request.TheVariants.{Do, Retouch, Picture, Ram, Digest, Lag, Inputs, Movie, States, Share, History, Version}
use Rattle.tas_language.specs.Answers.{picture_text, frame_digest_text, movie_text, states_text, share_text, version_text}
use Rattle.tas_seat.specs.declared.edit_requests.EditRequest.TheVariants.{Retouch as RetouchAsked}
use Rattle.tas_seat.specs.Turns.{standing_at, standing_of}
use Rattle.tas_seat.specs.Requests.{Rests, Plays, Gains, GainsUnless, picture_found, digest_found, look_text, look_places, IsLooked, kept_frames, inputs_found, answer_to_inputs}
use Rattle.tas_seat.specs.HistoryText.{history_reply_text}
use Rattle.tas_seat.specs.Seats.{talk_state_at, KeepsWindow, IsZonePlayed, LookLeavesZone, IsAnswered}
use Rattle.tas_seat.specs.Outcomes.{IsEditAnswered, IsMiscounted, IsUnanswered, HasAnswer, KeepsSeat, HasNoAnswer}
use Rattle.tas_seat.specs.Inside.Looking.{IsShotFound, IsStateFound, AsksForState, HasText, HasReport}
use Rattle.tas_seat.proofs.SeatLemmas.{seen_same, looked_at, rests, green_at, gains_at, answered_here}
use Rattle.tas_seat.proofs.TextLemmas.{text_or_memory, made_or_memory}
use Rattle.tas_seat.proofs.ReachLemmas.{lag_ignored, of_looks, looked_as, state_told, drawn_told, of_ok, shown_within}

-- ---- answers and faults

-- the answer's bytes, or memory was refused for them
pub told_text : {X A : Type 0} (before now : SeatContent A) (request : Request) (text : List ℕ) (r : Result X RunFault) (bytes_of : X → List ℕ) → MatchResult r (λ bytes. bytes_of bytes ≡ text) (λ fault. fault ≡ Memory) → HasAnswer A before now request text
    → MatchResult r (λ bytes. HasAnswer A before now request (bytes_of bytes)) (HasNoAnswer before now request)
told_text {X} {A} before now request text r bytes_of is told = text_or_memory (HasAnswer A before now request) (HasNoAnswer before now request) text r bytes_of is told (λ has. inr (text, has))

-- an answer was made, or memory was refused for it, and then for the line that says so
pub answered_or : {X E A : Type 0} (before now : SeatContent A) (request : Request) (answer : Result X E) (r : Result X RunFault) (bytes_of : X → List ℕ)
    → MatchResult answer (λ bytes. r ≡ Ok bytes) (λ fault. MatchResult r (λ bytes. bytes_of bytes ≡ reply_text OutOfMemory) (λ fault. fault ≡ Memory))
    → IfOk answer (λ bytes. HasAnswer A before now request (bytes_of bytes)) → HasAnswer A before now request (reply_text OutOfMemory)
    → MatchResult r (λ bytes. HasAnswer A before now request (bytes_of bytes)) (HasNoAnswer before now request)
answered_or {X} {E} {A} before now request answer r bytes_of is told lost =
    made_or_memory (HasAnswer A before now request) (HasNoAnswer before now request) answer r bytes_of is told lost (λ has. inr (reply_text OutOfMemory, has))

pub unanswered : {A : Type 0} (before now : SeatContent A) (command : Command) (fault : RunFault) → IsUnanswered before now fault → HasNoAnswer before now (Do command) fault
unanswered before now command NoEntry is = is
unanswered before now command Foreign is = is
unanswered before now command Memory is = absurd is
unanswered before now command (Write written) is = absurd is
unanswered before now command (Size n) is = absurd is
unanswered before now command (Text error) is = absurd is
unanswered before now command (OffMovie frame len) is = absurd is
unanswered before now command (OffRange from to len) is = absurd is
unanswered before now command (NoNames row kind) is = absurd is
unanswered before now command (Stopped at opcode) is = absurd is
unanswered before now command (StoppedFrame frame at opcode) is = absurd is
unanswered before now command (Script line) is = absurd is
unanswered before now command (Place line) is = absurd is
unanswered before now command (Long line) is = absurd is
unanswered before now command NoPlace is = absurd is

pub miscounted_unanswered : {A : Type 0} (before now : SeatContent A) (request : Request) (fault : RunFault) → (fault ≡ Foreign) × IsMiscounted before now → HasNoAnswer before now request fault
miscounted_unanswered before now request fault is = subst (HasNoAnswer before now request) (sym is.0) is.1

-- ---- commands and edits

pub command_answered : (A : Type 0) (before now : SeatContent A) (command : Command) (reply : Reply) → IsAnswered A before now command reply → HasAnswer A before now (Do command) (reply_text reply)
command_answered A before now command reply is = (_, record { at = is.at; answered = (reply, is.turn, refl, is.leaves); made = refl; seat = is.seat; zone = is.zone; counts = (reply, refl, is.counts) })

pub retouch_answered : (A : Type 0) (before now : SeatContent A) (retouch : RetouchLine) (reply : Reply) → IsEditAnswered A before now (RetouchAsked retouch) reply → HasAnswer A before now (Retouch retouch) (reply_text reply)
retouch_answered A before now retouch reply is = (_, record { at = is.at; answered = (reply, is.turn, refl, rests before now is.at now.front is.zone); made = refl; seat = is.seat; zone = is.zone; counts = tt })

-- ---- looks

-- what was found at a seat, by what its desk says of the answer and of the zone
drawn_here : {A B : Type 0} (before now : SeatContent A) (k : ℕ) (drawn : Result (ShotOf B) ShotError) → IsShotAt now.front k drawn → IsZoneViewed before now k drawn
    → IsShotFound (standing_of now.front) (now ≡ before) (now.zone ≡ before.zone) (IsZonePlayed before.zone now.zone now.front k (k + 1)) k drawn
drawn_here before now k (Ok shot) is zone = (is.0, is.1, is.2, record { made = zone.made; played = zone.view })
drawn_here before now k (Err NoShotEntry) is zone = zone
drawn_here before now k (Err (NoShotFrame at len)) is zone = (is.0, is.1, is.2, zone)
drawn_here before now k (Err NoShotMemory) is zone = (is, zone)
drawn_here before now k (Err (ShotHalted at halt)) is zone = (is.0, is.1, (zone.0, record { made = zone.1.made; played = zone.1.view }))

pub reached_here : {A : Type 0} (before now : SeatContent A) (from to : ℕ) (reached : Result Reached StateError) → IsStateFor now.front from to reached → IsZoneReached before now from reached
    → IsStateFound (standing_of now.front) (now ≡ before) (now.zone ≡ before.zone) (IsZonePlayed before.zone now.zone now.front from from) from to reached
reached_here before now from to (Ok found) is zone = (is.0, is.1, is.2, is.3, record { made = zone.made; played = zone.reach })
reached_here before now from to (Err NoStateEntry) is zone = zone
reached_here before now from to (Err (FewFrames at len)) is zone =
    (λ order within. is.2 order (subst (λ (n : ℕ). to ≤ n) (sym is.1) within), is.0, is.1, zone)
reached_here before now from to (Err NoStateMemory) is zone = (is.0, is.1, zone)

-- the zone's movie is the history's then
pub movie_here : {A : Type 0} (before now : SeatContent A) (name : MovieContent) (from : ℕ) (reached : Result Reached StateError) → name ≡ now.zone.movie → IsZoneReached before now from reached → IfOk reached (λ found. name ≡ movie_of now.front)
movie_here before now name from (Ok found) is zone = is ∙ zone.made.movie
movie_here before now name from (Err error) is zone = tt

-- a look is answered at what the seat has seen
looked_here : (A : Type 0) (before now : SeatContent A) (look : Request) (at : ℕ × ℕ) (answer : List ℕ) → look_places look ≡ Some at → HasSeen before now
    → IsLooked (standing_of now.front) (look_text (standing_of now.front) look) (now.zone ≡ before.zone) (IsZonePlayed before.zone now.zone now.front at.0 at.1) answer → HasAnswer A before now look answer
looked_here A before now look at answer is seen told =
    of_looks (λ (l : Request). LookLeavesZone before now l answer → HasAnswer A before now l answer) at look is
    (λ k zone. ([], answered_here A before now (Picture k) answer seen (refl, seen_at (look_text (standing_of now.front) (Picture k)) (k, k + 1) zone) zone tt))
    (λ k zone. ([], answered_here A before now (Ram k) answer seen (refl, seen_at (look_text (standing_of now.front) (Ram k)) (k, k) zone) zone tt))
    (λ k zone. ([], answered_here A before now (Digest k) answer seen (refl, seen_at (look_text (standing_of now.front) (Digest k)) (k, k + 1) zone) zone tt))
    (λ a b zone. ([], answered_here A before now (Lag a b) answer seen ((refl, seen_at (look_text (standing_of now.front) (Lag a b)) (a, a) zone), lag_ignored (movie_of now.front)) zone tt))
    (subst
    (λ (o : Option (ℕ × ℕ)). MatchOption o (KeepsWindow before.zone now.zone) (λ f. IsLooked (standing_of now.front) (look_text (standing_of now.front) look) (now.zone ≡ before.zone) (IsZonePlayed before.zone now.zone now.front f.0 f.1) answer))
    (sym is) told)
  where
    seen_at : (found : Option (List ℕ)) (f : ℕ × ℕ) → IsLooked (standing_of now.front) found (now.zone ≡ before.zone) (IsZonePlayed before.zone now.zone now.front f.0 f.1) answer
        → IsLooked (standing_of now.front) found (Rests (talk_state_at now.front before.zone) (talk_state_at now.front now.zone)) (Plays (talk_state_at now.front before.zone) (talk_state_at now.front now.zone) f.0 f.1) answer
    seen_at found f zone =
        looked_as (standing_of now.front) found answer (now.zone ≡ before.zone) (Rests (talk_state_at now.front before.zone) (talk_state_at now.front now.zone)) (IsZonePlayed before.zone now.zone now.front f.0 f.1)
        (Plays (talk_state_at now.front before.zone) (talk_state_at now.front now.zone) f.0 f.1) zone (rests before now now.front now.front) (λ ran played. (played.played.rose, record { green = green_at now.zone now.front played.made; played = played.played.played }))

-- or not at all
kept_here : {A : Type 0} (before now : SeatContent A) (look : Request) (at : ℕ × ℕ) → look_places look ≡ Some at → now ≡ before → KeepsSeat look before now
kept_here before now look at is same = of_looks (λ (l : Request). KeepsSeat l before now) at look is (λ k. same) (λ k. same) (λ k. same) (λ a b. same)

pub picture_answered : {X A B : Type 0} (before now : SeatContent A) (k : ℕ) (drawn : Result (ShotOf B) ShotError) (r : Result X RunFault) (bytes_of : X → List ℕ) → HasSeen before now → IsShotAt now.front k drawn → IsZoneViewed before now k drawn
    → MatchResult drawn (λ shot. HasText r bytes_of (Some (picture_text shot.at k (ppm_bytes shot.picture)))) (λ error. HasReport r bytes_of error)
    → MatchResult r (λ bytes. HasAnswer A before now (Picture k) (bytes_of bytes)) (HasNoAnswer before now (Picture k))
picture_answered {X} {A} before now k drawn r bytes_of seen is zone has =
    drawn_told (HasAnswer A before now (Picture k)) (HasNoAnswer before now (Picture k)) (movie_of now.front) (length now.front) k (Picture k) (picture_found (standing_of now.front) k) (λ n p. picture_text n k (ppm_bytes p)) (now ≡ before) (now.zone ≡ before.zone)
    (IsZonePlayed before.zone now.zone now.front k (k + 1)) drawn r bytes_of refl (λ halt. refl) (of_ok drawn _ (λ shot. refl)) (drawn_here before now k drawn is zone) has (λ answer told. looked_here A before now (Picture k) (k, k + 1) answer refl seen told)
    (λ same. same) (λ answer told. inr (answer, told))

-- the movie of the view that has drawn it is the history's then
viewed_here : {A B : Type 0} (before now : SeatContent A) (name : MovieContent) (k : ℕ) (drawn : Result (ShotOf B) ShotError) → name ≡ now.zone.movie → IsZoneViewed before now k drawn → IfOk drawn (λ shot. name ≡ movie_of now.front)
viewed_here before now name k (Ok shot) is zone = is ∙ zone.made.movie
viewed_here before now name k (Err error) is zone = tt

pub digest_answered : {X A B : Type 0} (before now : SeatContent A) (name : MovieContent) (k : ℕ) (drawn : Result (ShotOf B) ShotError) (r : Result X RunFault) (bytes_of : X → List ℕ) → HasSeen before now → IsShotAt now.front k drawn
    → IsZoneViewed before now k drawn → name ≡ now.zone.movie
    → MatchResult drawn (λ shot. HasText r bytes_of (Some (frame_digest_text shot.at k (state_after name (k + 1)).riot.ram (ppm_bytes shot.picture)))) (λ error. HasReport r bytes_of error)
    → MatchResult r (λ bytes. HasAnswer A before now (Digest k) (bytes_of bytes)) (HasNoAnswer before now (Digest k))
digest_answered {X} {A} before now name k drawn r bytes_of seen is zone named has =
    drawn_told (HasAnswer A before now (Digest k)) (HasNoAnswer before now (Digest k)) (movie_of now.front) (length now.front) k (Digest k) (digest_found (standing_of now.front) k)
    (λ n p. frame_digest_text n k (state_after name (k + 1)).riot.ram (ppm_bytes p)) (now ≡ before) (now.zone ≡ before.zone) (IsZonePlayed before.zone now.zone now.front k (k + 1)) drawn r bytes_of refl (λ halt. refl)
    (IfOk-weaker drawn _ _ (λ shot e. ap (λ (m : MovieContent). frame_digest_text (length now.front) k (state_after m (k + 1)).riot.ram (ppm_bytes shot.picture)) e) (viewed_here before now name k drawn named zone)) (drawn_here before now k drawn is zone) has
    (λ answer told. looked_here A before now (Digest k) (k, k + 1) answer refl seen told) (λ same. same) (λ answer told. inr (answer, told))

-- the movie has the frame that was drawn
pub frame_here : {A B : Type 0} (before now : SeatContent A) (name : MovieContent) (k : ℕ) (drawn : Result (ShotOf B) ShotError) → IsShotAt now.front k drawn → IsZoneViewed before now k drawn → name ≡ now.zone.movie → OnOk drawn (k < length name.inputs)
frame_here before now name k (Ok shot) is zone named = subst (λ (m : MovieContent). k < length m.inputs) (sym (named ∙ zone.made.movie)) (shown_within (movie_of now.front) k (Ok shot.picture) is.0)
frame_here before now name k (Err error) is zone named = tt

pub look_answered : {X A : Type 0} (before now : SeatContent A) (name : MovieContent) (look : Request) (from to : ℕ) (reached : Result Reached StateError) (r : Result X RunFault) (bytes_of : X → List ℕ) → AsksForState look from to → HasSeen before now
    → IsStateFor now.front from to reached → IsZoneReached before now from reached → name ≡ now.zone.movie
    → MatchResult reached (λ found. HasText r bytes_of (look_text (standing_at name found.at) look)) (λ error. HasReport r bytes_of (shot_error error))
    → MatchResult r (λ bytes. HasAnswer A before now look (bytes_of bytes)) (HasNoAnswer before now look)
look_answered {X} {A} before now name look from to reached r bytes_of asks seen is zone named has =
    state_told (HasAnswer A before now look) (HasNoAnswer before now look) (movie_of now.front) name (length now.front) look from to (now ≡ before) (now.zone ≡ before.zone) (IsZonePlayed before.zone now.zone now.front from from) reached r bytes_of asks
    (reached_here before now from to reached is zone) (movie_here before now name from reached named zone) has (λ answer told. looked_here A before now look (from, from) answer asks.places seen told) (kept_here before now look (from, from) asks.places)
    (λ answer told. inr (answer, told))

-- ---- the desk's states

-- what memory's refusal leaves
pub unshared : {A : Type 0} (before now : SeatContent A) → now.zone ≡ before.zone → GainsUnless true (talk_state_at now.front before.zone) (talk_state_at now.front now.zone)
unshared before now zone = inl (rests before now now.front now.front zone)

pub shared_still : {A : Type 0} (before now : SeatContent A) (gained : ℕ) → IsShared before.zone now.zone now.front gained → GainsUnless true (talk_state_at now.front before.zone) (talk_state_at now.front now.zone)
shared_still before now gained shared = inr (gains_at before now now.front gained shared)

-- a text of how many edits were made and of their movie, by other names of both
text_at : (text : ℕ → MovieContent → List ℕ) (at made : ℕ) (movie same : MovieContent) → at ≡ made → movie ≡ same → text at movie ≡ text made same
text_at text at made movie same here is = ap (λ (n : ℕ). text n movie) here ∙ ap (text made) is

pub movie_answered : (A : Type 0) (before now : SeatContent A) (at gained : ℕ) (movie : MovieContent) → HasSeen before now → at ≡ length now.front → movie ≡ now.zone.movie → IsShared before.zone now.zone now.front gained
    → HasAnswer A before now Movie (movie_text at (text2 movie))
movie_answered A before now at gained movie seen here is shared =
    let told = text_at (λ n m. movie_text n (text2 m)) at (length now.front) movie (movie_of now.front) here (is ∙ shared.made.movie) in
    ([], answered_here A before now Movie (movie_text at (text2 movie)) seen (false, told, refl, gains_at before now now.front gained shared) (inr shared.cut) tt)

lost_movie : (A : Type 0) (before now : SeatContent A) → HasSeen before now → GainsUnless true (talk_state_at now.front before.zone) (talk_state_at now.front now.zone) → KeepsWindow before.zone now.zone
    → HasAnswer A before now Movie (reply_text OutOfMemory)
lost_movie A before now seen leaves window = ([], answered_here A before now Movie (reply_text OutOfMemory) seen (true, refl, refl, leaves) window tt)

-- memory was refused for the states, or for the answer
pub unshared_movie : (A : Type 0) (before now : SeatContent A) → HasSeen before now → now.zone ≡ before.zone → HasAnswer A before now Movie (reply_text OutOfMemory)
unshared_movie A before now seen zone = lost_movie A before now seen (unshared before now zone) (inl zone)

pub unwritten_movie : (A : Type 0) (before now : SeatContent A) (gained : ℕ) → HasSeen before now → IsShared before.zone now.zone now.front gained → HasAnswer A before now Movie (reply_text OutOfMemory)
unwritten_movie A before now gained seen shared = lost_movie A before now seen (shared_still before now gained shared) (inr shared.cut)

-- what `inputs` found, or memory was refused
inputs_here : (A : Type 0) (before now : SeatContent A) (from to : ℕ) (no_memory : Bool) → HasSeen before now → GainsUnless no_memory (talk_state_at now.front before.zone) (talk_state_at now.front now.zone) → KeepsWindow before.zone now.zone
    → HasAnswer A before now (Inputs from to) (answer_to_inputs no_memory (standing_of now.front) from to)
inputs_here A before now from to no_memory seen leaves window = ([], answered_here A before now (Inputs from to) (answer_to_inputs no_memory (standing_of now.front) from to) seen (no_memory, refl, refl, leaves) window tt)

pub unshared_inputs : (A : Type 0) (before now : SeatContent A) (from to : ℕ) → HasSeen before now → now.zone ≡ before.zone → HasAnswer A before now (Inputs from to) (reply_text OutOfMemory)
unshared_inputs A before now from to seen zone = inputs_here A before now from to true seen (unshared before now zone) (inl zone)

pub inputs_answered : {X A : Type 0} (before now : SeatContent A) (at gained from to : ℕ) (movie : MovieContent) (r : Result X RunFault) (bytes_of : X → List ℕ) → HasSeen before now → at ≡ length now.front → movie ≡ now.zone.movie
    → IsShared before.zone now.zone now.front gained → MatchResult r (λ bytes. (bytes_of bytes ≡ inputs_found (standing_at movie at) from to) ⊎ (bytes_of bytes ≡ reply_text OutOfMemory)) (λ fault. fault ≡ Memory)
    → MatchResult r (λ bytes. HasAnswer A before now (Inputs from to) (bytes_of bytes)) (HasNoAnswer before now (Inputs from to))
inputs_answered {X} {A} before now at gained from to movie r bytes_of seen here is shared has =
    let name = text_at (λ n m. inputs_found (standing_at m n) from to) at (length now.front) movie (movie_of now.front) here (is ∙ shared.made.movie) in
    let told = inputs_here A before now from to false seen (gains_at before now now.front gained shared) (inr shared.cut) in
    let lost = inputs_here A before now from to true seen (shared_still before now gained shared) (inr shared.cut) in
    MatchResult-weaker r has (λ bytes e. elim e [
      | inl found ↦ subst (HasAnswer A before now (Inputs from to)) (sym (found ∙ name)) told
      | inr refused ↦ subst (HasAnswer A before now (Inputs from to)) (sym refused) lost
    ]) (λ fault e. subst (HasNoAnswer before now (Inputs from to)) (sym e) (inr (reply_text OutOfMemory, lost)))

pub states_answered : (A : Type 0) (before now : SeatContent A) (at gained : ℕ) → HasSeen before now → at ≡ length now.front → IsShared before.zone now.zone now.front gained
    → HasAnswer A before now States (states_text at (kept_frames (length now.zone.movie.inputs) now.zone.states))
states_answered A before now at gained seen here shared =
    let text : ℕ → MovieContent → List ℕ = λ n m. states_text n (kept_frames (length m.inputs) now.zone.states) in
    let told = text_at text at (length now.front) now.zone.movie (movie_of now.front) here shared.made.movie in
    ([], answered_here A before now States (text at now.zone.movie) seen (false, told, refl, gains_at before now now.front gained shared) (inr shared.cut) tt)

lost_states : (A : Type 0) (before now : SeatContent A) → HasSeen before now → GainsUnless true (talk_state_at now.front before.zone) (talk_state_at now.front now.zone) → KeepsWindow before.zone now.zone
    → HasAnswer A before now States (reply_text OutOfMemory)
lost_states A before now seen leaves window = ([], answered_here A before now States (reply_text OutOfMemory) seen (true, refl, refl, leaves) window tt)

pub unshared_states : (A : Type 0) (before now : SeatContent A) → HasSeen before now → now.zone ≡ before.zone → HasAnswer A before now States (reply_text OutOfMemory)
unshared_states A before now seen zone = lost_states A before now seen (unshared before now zone) (inl zone)

pub unwritten_states : (A : Type 0) (before now : SeatContent A) (gained : ℕ) → HasSeen before now → IsShared before.zone now.zone now.front gained → HasAnswer A before now States (reply_text OutOfMemory)
unwritten_states A before now gained seen shared = lost_states A before now seen (shared_still before now gained shared) (inr shared.cut)

pub share_answered : (A : Type 0) (before now : SeatContent A) (at gained : ℕ) (answer : List ℕ) → HasSeen before now → at ≡ length now.front → IsShared before.zone now.zone now.front gained → answer ≡ share_text at gained
    → HasAnswer A before now Share answer
share_answered A before now at gained answer seen here shared is =
    let gains : Gains (talk_state_at now.front before.zone) (talk_state_at now.front now.zone) =
    record { green = green_at now.zone now.front shared.made; other = shared.other; others = shared.others; gained = gained; gain = shared.gain } in
    ([], answered_here A before now Share answer seen (false, (gains, is ∙ ap (λ (n : ℕ). share_text n gained) here), refl) (inr shared.cut) tt)

-- memory was refused for the answer
pub lost_share : (A : Type 0) (before now : SeatContent A) (at gained : ℕ) (fault : RunFault) → fault ≡ Memory → HasSeen before now → at ≡ length now.front → IsShared before.zone now.zone now.front gained → HasNoAnswer before now Share fault
lost_share A before now at gained fault is seen here shared = subst (HasNoAnswer before now Share) (sym is) (inr (share_text at gained, share_answered A before now at gained (share_text at gained) seen here shared refl))

pub unshared_share : (A : Type 0) (before now : SeatContent A) → HasSeen before now → now.zone ≡ before.zone → HasAnswer A before now Share (reply_text OutOfMemory)
unshared_share A before now seen zone = ([], answered_here A before now Share (reply_text OutOfMemory) seen (true, (refl, rests before now now.front now.front zone), refl) (inl zone) tt)

-- ---- `version`

version_here : (A : Type 0) (seat : SeatContent A) → HasAnswer A seat seat Version (version_text profile)
version_here A seat = ([], answered_here A seat seat Version (version_text profile) (seen_same seat seat refl) (refl, refl, rests seat seat seat.front seat.front refl) (inl refl) tt)

pub version_answered : {A : Type 0} (seat : SeatContent A) (answer : List ℕ) → answer ≡ version_text profile → HasAnswer A seat seat Version answer
version_answered {A} seat answer is = subst (HasAnswer A seat seat Version) (sym is) (version_here A seat)

pub lost_version : {A : Type 0} (seat : SeatContent A) (fault : RunFault) → fault ≡ Memory → HasNoAnswer seat seat Version fault
lost_version seat fault is = subst (HasNoAnswer seat seat Version) (sym is) (inl refl)

-- ---- the history

pub history_answered : (A : Type 0) (before now : SeatContent A) (from at : ℕ) (entries : List (Entry A)) → KeepsZone before now → at ≡ length now.front → entries ≡ one_part (drop from now.front) → HasAnswer A before now (History from) (history_reply_text at from entries)
history_answered A before now from at entries keeps here are = (
  [],
  (
    refl,
    record {
      no_memory = false;
      answer_is = ap (λ (n : ℕ). history_reply_text n from entries) here ∙ ap (history_reply_text (length now.front) from) are;
      zone = keeps.zone;
      seat = looked_at before now keeps.seen;
    },
  ),
)

pub lost_history : (A : Type 0) (before now : SeatContent A) (from : ℕ) → KeepsZone before now → HasAnswer A before now (History from) (reply_text OutOfMemory)
lost_history A before now from keeps = ([], (refl, record { no_memory = true; answer_is = refl; zone = keeps.zone; seat = looked_at before now keeps.seen }))
