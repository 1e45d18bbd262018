-- Replies to shots.
use Rattle.std.specs.Prelude.{◌≡◌, ℕ, ◌+◌, ◌<◌, List, length, Some, None, Result, Ok, Err}
use Rattle.tas_green.specs.Zone.{nearest}
use Rattle.tas_session.specs.declared.replies.Shot.{Shot}
use Rattle.tas_published.specs.declared.errors.ShotError.{ShotError}
use Rattle.tas_published.specs.declared.errors.ShotError.TheVariants.{NoEntry, NoFrame, Memory, Halted}
use Rattle.tas_published.specs.declared.errors.StateError.{StateError}
use Rattle.tas_published.specs.declared.errors.StateError.TheVariants.{NoEntry as NoStateEntry, NoFrame as FewFrames, Memory as NoStateMemory}
use Rattle.tas_session.specs.Session.{SessionContent}
use Rattle.tas_published.specs.declared.entry.Entry.{Entry}
use Rattle.tas_published.specs.History.{movie_of}
use Rattle.tas_session.specs.Answers.{answer_shot}

-- a shot shows the frame, and reports how many frames were played for it: those after the nearest kept state
pub record IsShot {A B : Type 0} (session : SessionContent A) (k : ℕ) (shot : Shot B) : Type 0 where
  pub shows : answer_shot session.movie k ≡ Some (Ok shot.picture)
  pub at : shot.at ≡ length session.journal
  pub frame : shot.frame ≡ k
  pub ran : shot.ran + nearest k session.zone ≡ k + 1

-- why a frame isn't shown: there is no such frame, or the machine has halted there, or memory is refused for one that is
-- there; a session needs no entry
abbrev pub IsShotError : {A : Type 0} → SessionContent A → ℕ → ShotError → Type 0
IsShotError session k NoEntry = ⊥
IsShotError session k (NoFrame at len) = (answer_shot session.movie k ≡ None) × (at ≡ length session.journal) × (len ≡ length session.movie.inputs)
IsShotError session k Memory = k < length session.movie.inputs
IsShotError session k (Halted at halt) = (answer_shot session.movie k ≡ Some (Err halt)) × (at ≡ length session.journal)

-- one fact where frames were played, another where none were, since the movie has no such frame or memory is refused
abbrev pub MatchPlayed : {B : Type 0} → Result (Shot B) ShotError → Type 0 → Type 0 → Type 0
MatchPlayed (Ok shot) played unplayed = played
MatchPlayed (Err NoEntry) played unplayed = unplayed
MatchPlayed (Err (NoFrame at len)) played unplayed = unplayed
MatchPlayed (Err Memory) played unplayed = unplayed
MatchPlayed (Err (Halted at halt)) played unplayed = played

-- a shot at a history shows its movie's frame, or reports why there is none; without an entry nothing is said
abbrev pub IsShotAt : {A B : Type 0} → List (Entry A) → ℕ → Result (Shot B) ShotError → Type 0
IsShotAt history k (Ok shot) = (answer_shot (movie_of history) k ≡ Some (Ok shot.picture)) × (shot.at ≡ length history) × (shot.frame ≡ k)
IsShotAt history k (Err NoEntry) = Unit {0}
IsShotAt history k (Err (NoFrame at len)) = (answer_shot (movie_of history) k ≡ None) × (at ≡ length history) × (len ≡ length (movie_of history).inputs)
IsShotAt history k (Err Memory) = k < length (movie_of history).inputs
IsShotAt history k (Err (Halted at halt)) = (answer_shot (movie_of history) k ≡ Some (Err halt)) × (at ≡ length history)
