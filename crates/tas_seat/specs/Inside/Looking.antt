-- Looks, wherever they are answered: at a seat, or at a draft. Private functions cite this file.
use Rattle.std.specs.Prelude.{◌≡◌, ℕ, ◌<◌, ◌≤◌, List, length, Option, Some, None, Result, Ok, Err, ◌⊎◌, MatchResult}
use Rattle.vcs_machine.specs.declared.state.State.{State}
use Rattle.tas_movie.specs.Content.{MovieContent}
use Rattle.tas_green.specs.Run.{state_after}
use Rattle.tas_session.specs.declared.replies.Shot.{Shot}
use Rattle.tas_session.specs.declared.replies.Reached.{Reached}
use Rattle.tas_session.specs.Answers.{answer_shot}
use Rattle.tas_published.specs.declared.errors.ShotError.{ShotError}
use Rattle.tas_published.specs.declared.errors.ShotError.TheVariants.{NoEntry, NoFrame, Memory as NoShotMemory, Halted}
use Rattle.tas_published.specs.declared.errors.StateError.{StateError}
use Rattle.tas_published.specs.declared.errors.StateError.TheVariants.{NoEntry as NoStateEntry, NoFrame as FewFrames, Memory as NoStateMemory}
use Rattle.tas_engines.specs.declared.fault.RunFault.{RunFault}
use Rattle.tas_engines.specs.declared.fault.RunFault.TheVariants.{Memory}
use Rattle.tas_language.specs.declared.reply.Reply.TheVariants.{OutOfMemory}
use Rattle.tas_language.specs.Replies.{reply_text}
use Rattle.tas_language.specs.declared.request.Request.{Request}
use Rattle.tas_language.specs.declared.request.Request.TheVariants.{Ram, Lag}
use Rattle.tas_seat.specs.Turns.{Standing}
use Rattle.tas_seat.specs.Requests.{look_text, look_places}
use Rattle.tas_seat.specs.Outcomes.{unshown_as}

-- ---- what a look was told

-- frame k was drawn, or why not: `left` says what is left after this many played frames, `same` that all is as it was, `entry` what comes of no entry
abbrev pub IsShotFound : {B : Type 0} → Standing → (entry same : Type 0) → (ℕ → Type 0) → ℕ → Result (Shot B) ShotError → Type 0
IsShotFound stands entry same left k (Ok shot) = (answer_shot stands.movie k ≡ Some (Ok shot.picture)) × (shot.at ≡ stands.made) × (shot.frame ≡ k) × left shot.ran
IsShotFound stands entry same left k (Err NoEntry) = entry
IsShotFound stands entry same left k (Err (NoFrame at len)) = (answer_shot stands.movie k ≡ None) × (at ≡ stands.made) × (len ≡ length stands.movie.inputs) × same
IsShotFound stands entry same left k (Err NoShotMemory) = (k < length stands.movie.inputs) × same
IsShotFound stands entry same left k (Err (Halted at halt)) = (answer_shot stands.movie k ≡ Some (Err halt)) × (at ≡ stands.made) × ((ran : ℕ) × left ran)

-- the same of the state after `from` frames, where the movie has those from there up to the place `to`
abbrev pub IsStateFound : Standing → (entry same : Type 0) → (ℕ → Type 0) → (from to : ℕ) → Result Reached StateError → Type 0
IsStateFound stands entry same left from to (Ok reached) =
    (from ≤ to) × (to ≤ length stands.movie.inputs) × (reached.state ≡ state_after stands.movie from) × (reached.at ≡ stands.made) × left reached.ran
IsStateFound stands entry same left from to (Err NoStateEntry) = entry
IsStateFound stands entry same left from to (Err (FewFrames at len)) =
    (from ≤ to → to ≤ length stands.movie.inputs → ⊥) × (at ≡ stands.made) × (len ≡ length stands.movie.inputs) × same
IsStateFound stands entry same left from to (Err NoStateMemory) = (from ≤ to) × (to ≤ length stands.movie.inputs) × same

-- ---- what it is answered

-- a look can be answered from this state
abbrev pub CanLook : Request → MovieContent → State → Type 0
CanLook (Ram k) movie begin = (k ≤ length movie.inputs) × (begin ≡ state_after movie k)
CanLook (Lag a b) movie begin = (a ≤ b) × (b ≤ length movie.inputs) × (begin ≡ state_after movie a)
CanLook _ movie begin = ⊥

-- a look asks for the state after `from` frames, in a movie that has those from there up to the place `to`: then it can be answered, and else it finds nothing
pub record AsksForState (look : Request) (from to : ℕ) : Type 0 where
  pub places : look_places look ≡ Some (from, from)
  pub can : (movie : MovieContent) → from ≤ to → to ≤ length movie.inputs → CanLook look movie (state_after movie from)
  pub found : (stands : Standing) → from ≤ to → to ≤ length stands.movie.inputs → (text : List ℕ) × (look_text stands look ≡ Some text)
  pub none : (stands : Standing) → (from ≤ to → to ≤ length stands.movie.inputs → ⊥) → look_text stands look ≡ None

-- the looks at a state, of all requests
abbrev pub IsStateLook : Request → Type 0
IsStateLook (Ram k) = Unit {0}
IsStateLook (Lag a b) = Unit {0}
IsStateLook _ = ⊥

-- an answer has the text that was found, or it is `out of memory`; or memory was refused for this line, too
abbrev pub HasText : {X : Type 0} → Result X RunFault → (X → List ℕ) → Option (List ℕ) → Type 0
HasText result bytes_of found = MatchResult result (λ x. (found ≡ Some (bytes_of x)) ⊎ (bytes_of x ≡ reply_text OutOfMemory)) (λ fault. fault ≡ Memory)

-- an answer says what a look without a picture is reported
abbrev pub HasReport : {X : Type 0} → Result X RunFault → (X → List ℕ) → ShotError → Type 0
HasReport result bytes_of error =
    MatchResult (unshown_as error) (λ reply. MatchResult result (λ x. bytes_of x ≡ reply_text reply) (λ fault. fault ≡ Memory)) (λ fault. result ≡ Err fault)
