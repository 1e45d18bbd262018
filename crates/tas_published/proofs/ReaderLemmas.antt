-- What a look brings.
use Rattle.std.proofs.Common.{◌≡◌, ℕ, ◌+◌, Option, Ok, Err, min, subst, sym, arith}
use Rattle.tas_published.specs.declared.movie_copy.MovieCopy.{MovieCopy}
use Rattle.tas_published.specs.declared.reader_view.ReaderView.{ReaderView}
use Rattle.tas_published.specs.declared.errors.ShotError.{ShotError}
use Rattle.tas_published.specs.declared.errors.StateError.{StateError}
use Rattle.tas_published.specs.declared.errors.StateError.TheVariants.{NoEntry, NoFrame, Memory}
use Rattle.tas_published.specs.Readings.{FoundMovie, FoundCopy}
use Rattle.tas_published.specs.Errors.{shot_error}
use Rattle.tas_published.specs.Version.{VersionContent}

-- a movie with this many frames has frame k
pub found_frame : {A : Type 0} (v w : ReaderView A) (known : VersionContent A) (k frames : ℕ) (found : ℕ × Option (MovieCopy A)) → frames ≡ min (k + 1) 18446744073709551615 → FoundMovie v w known frames (Ok found) → FoundCopy v w known k (Ok found)
found_frame v w known k frames found is (more, at, within, version, most) = (more, at, omega arith, version, omega arith)

-- and where it has fewer, it hasn't
pub found_none : {A : Type 0} (v w : ReaderView A) (known : VersionContent A) (k frames : ℕ) (error : StateError) (told : ShotError) → frames ≡ min (k + 1) 18446744073709551615 → told ≡ shot_error error → FoundMovie v w known frames (Err error) → FoundCopy v w known k (Err told)
found_none {A} v w known k frames NoEntry told is tells found = subst (λ (e : ShotError). FoundCopy v w known k (Err e)) (sym tells) found
found_none {A} v w known k frames (NoFrame at len) told is tells (more, here, long, few) = subst (λ (e : ShotError). FoundCopy v w known k (Err e)) (sym tells) (more, here, long, omega arith)
found_none {A} v w known k frames Memory told is tells (more, within, most) = subst (λ (e : ShotError). FoundCopy v w known k (Err e)) (sym tells) (more, omega arith)
