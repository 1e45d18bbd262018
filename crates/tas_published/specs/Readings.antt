-- What a reader finds in the published movie, and what it has seen then.
use Rattle.std.specs.Prelude.{◌≡◌, ℕ, ◌<◌, ◌≤◌, length, Result, Ok, Err, Option, Some, None}
use Rattle.vcs_inputs.specs.declared.input.Input.{Input}
use Rattle.tas_movie.specs.Content.{most_inputs}
use Rattle.tas_published.specs.declared.reader_view.ReaderView.{ReaderView}
use Rattle.tas_published.specs.declared.movie_copy.MovieCopy.{MovieCopy}
use Rattle.tas_published.specs.declared.errors.NoEntry.{NoEntry as NoReading}
use Rattle.tas_published.specs.declared.errors.InputError.{InputError}
use Rattle.tas_published.specs.declared.errors.InputError.TheVariants.{NoEntry, NoFrame}
use Rattle.tas_published.specs.declared.errors.ShotError.{ShotError}
use Rattle.tas_published.specs.declared.errors.ShotError.TheVariants.{NoEntry as NoShotEntry, NoFrame as NoShotFrame, Memory as NoShotMemory, Halted as ShotHalted}
use Rattle.tas_published.specs.declared.errors.StateError.{StateError}
use Rattle.tas_published.specs.declared.errors.StateError.TheVariants.{NoEntry as NoStateEntry, NoFrame as FewFrames, Memory as NoStateMemory}
use Rattle.tas_published.specs.History.{movie_of}
use Rattle.tas_published.specs.Looks.{answer_input}
use Rattle.tas_published.specs.Version.{VersionContent, version_of}
use Rattle.tas_published.specs.Published.{HasSeenMore}

-- the history of a copy that was taken, or the one that was known where none was
abbrev pub version_after : {A : Type 0} → VersionContent A → Option (MovieCopy A) → VersionContent A
version_after known None = known
version_after known (Some copied) = copied.version

-- what a look at the published movie's length returns for a reader's view
abbrev pub FoundLen : {A : Type 0} → ReaderView A → ReaderView A → Result (ℕ × ℕ) NoReading → Type 0
FoundLen v w (Ok found) = HasSeenMore v w × (found.0 ≡ length w.seen) × (found.1 ≡ length (movie_of w.seen).inputs)
FoundLen v w (Err none) = w ≡ v

-- what a look at an input returns for a reader's view
abbrev pub FoundInput : {A : Type 0} → ReaderView A → ReaderView A → ℕ → Result (ℕ × Input) InputError → Type 0
FoundInput v w k (Ok found) = HasSeenMore v w × (found.0 ≡ length w.seen) × (answer_input (movie_of w.seen) k ≡ Some found.1)
FoundInput v w k (Err (NoFrame at len)) = HasSeenMore v w × (at ≡ length w.seen) × (len ≡ length (movie_of w.seen).inputs) × (len ≤ k)
FoundInput v w k (Err NoEntry) = w ≡ v

-- what a look at a published movie of at least this many frames brings to the one who knows this history: a copy of the movie where another
-- history is published, of the same registry
abbrev pub FoundMovie : {A : Type 0} → ReaderView A → ReaderView A → VersionContent A → ℕ → Result (ℕ × Option (MovieCopy A)) StateError → Type 0
FoundMovie v w known frames (Ok found) = HasSeenMore v w × (found.0 ≡ length w.seen) × (frames ≤ length (movie_of w.seen).inputs) × (version_after known found.1 ≡ version_of known.registry w.seen) × (frames ≤ most_inputs)
FoundMovie v w known frames (Err NoStateEntry) = w ≡ v
FoundMovie v w known frames (Err (FewFrames at len)) = HasSeenMore v w × (at ≡ length w.seen) × (len ≡ length (movie_of w.seen).inputs) × (len < frames)
FoundMovie v w known frames (Err NoStateMemory) = HasSeenMore v w × (frames ≤ length (movie_of w.seen).inputs) × (frames ≤ most_inputs)

-- the same of a movie that has a frame k
abbrev pub FoundCopy : {A : Type 0} → ReaderView A → ReaderView A → VersionContent A → ℕ → Result (ℕ × Option (MovieCopy A)) ShotError → Type 0
FoundCopy v w known k (Ok found) = HasSeenMore v w × (found.0 ≡ length w.seen) × (k < length (movie_of w.seen).inputs) × (version_after known found.1 ≡ version_of known.registry w.seen) × (k < most_inputs)
FoundCopy v w known k (Err NoShotEntry) = w ≡ v
FoundCopy v w known k (Err (NoShotFrame at len)) = HasSeenMore v w × (at ≡ length w.seen) × (len ≡ length (movie_of w.seen).inputs) × (len ≤ k)
FoundCopy v w known k (Err NoShotMemory) = HasSeenMore v w × (k < length (movie_of w.seen).inputs)
FoundCopy v w known k (Err (ShotHalted at halt)) = ⊥
