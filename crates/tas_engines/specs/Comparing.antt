-- What `tas compare` answers.
use Rattle.std.specs.Prelude.{◌≡◌, ◌≢◌, ℕ, ◌+◌, ◌<◌, nat_lt, if◌then◌else◌, List, [], length, slice_get, ◌++◌, codes, decimal, Bool, true, false, Option, Some, None, Result, Ok, Err}
use Rattle.vcs_cpu.specs.declared.halt.Halt.{Halt}
use Rattle.vcs_tia.specs.Image.{ppm_bytes}
use Rattle.vcs_inputs.specs.declared.input.Input.{Input}
use Rattle.tas_movie.specs.Content.{MovieContent}
use Rattle.tas_green.specs.Run.{state_after, picture_of}
use Rattle.tas_engines.specs.declared.compare.Differences.{Differences}
use Rattle.tas_engines.specs.declared.compare.Places.{Places}
use Rattle.tas_engines.specs.declared.fault.RunFault.{RunFault}
use Rattle.tas_engines.specs.Movies.{AreMoviesOf, AreMoviesFault}
use Rattle.tas_engines.specs.Ram.{ram_after}

-- what a movie has at frame k: nothing past its end
abbrev pub where_played : {A : Type 0} → MovieContent → ℕ → A → Option A
where_played movie k value = if nat_lt k (length movie.inputs) then Some value else None

-- its input
abbrev pub input_at : MovieContent → ℕ → Option Input
input_at movie k = slice_get movie.inputs k

-- RAM after it
abbrev pub ram_at : MovieContent → ℕ → Option (List ℕ)
ram_at movie k = where_played movie k (ram_after movie (k + 1))

-- a frame that is halted shows nothing
abbrev pub unless_halted : Option Halt → List ℕ → List ℕ
unless_halted None pixmap = pixmap
unless_halted (Some halt) pixmap = []

-- what it shows: its picture as a pixmap, as `tas shot` writes it
abbrev pub pixmap_of : MovieContent → ℕ → List ℕ
pixmap_of movie k = unless_halted (state_after movie (k + 1)).halt (ppm_bytes (picture_of movie k))

abbrev pub picture_at : MovieContent → ℕ → Option (List ℕ)
picture_at movie k = where_played movie k (pixmap_of movie k)

-- the first frame at which two movies have something else, or none where they have the same at every frame. A movie that ends
-- sooner has nothing there, so it differs at its end
abbrev pub IsFirstDifference : {A : Type 0} → (ℕ → A) → (ℕ → A) → Option ℕ → Type 0
IsFirstDifference old new (Some k) = (old k ≢ new k) × ((j : ℕ) → j < k → old j ≡ new j)
IsFirstDifference old new None = (j : ℕ) → old j ≡ new j

-- the same of the first frames, up to number n: private functions cite it
abbrev pub IsFirstUpTo : {A : Type 0} → (ℕ → A) → (ℕ → A) → ℕ → Option ℕ → Type 0
IsFirstUpTo old new n (Some k) = IsFirstDifference old new (Some k)
IsFirstUpTo old new n None = (j : ℕ) → j < n → old j ≡ new j

-- in what two movies differ first: private functions cite it
pub record AreFirstUpTo (old new : MovieContent) (n : ℕ) (found : Places) : Type 0 where
  pub ram : IsFirstUpTo (ram_at old) (ram_at new) n found.ram
  pub picture : IsFirstUpTo (picture_at old) (picture_at new) n found.picture

-- a place that is known, or number k where two movies aren't the same there: private functions cite it
abbrev pub first_of : Option ℕ → Bool → ℕ → Option ℕ
first_of (Some place) is_same k = Some place
first_of None true k = None
first_of None false k = Some k

-- where two movies begin to differ
pub record AreDifferences (old new : MovieContent) (found : Differences) : Type 0 where
  pub input : IsFirstDifference (input_at old) (input_at new) found.input
  pub ram : IsFirstDifference (ram_at old) (ram_at new) found.ram
  pub picture : IsFirstDifference (picture_at old) (picture_at new) found.picture

-- a frame's number, or `none`
abbrev pub place_text : Option ℕ → List ℕ
place_text (Some k) = decimal k
place_text None = codes "none"

-- the three lines
abbrev pub differences_text : Differences → List ℕ
differences_text found =
    codes "input " ++ place_text found.input ++ codes "\nram " ++ place_text found.ram ++ codes "\npicture " ++ place_text found.picture ++ codes "\n"

-- the lines of the two movies, or why there are none
abbrev pub IsCompareAnswer : List ℕ → List ℕ → List ℕ → Result (List ℕ) RunFault → Type 0
IsCompareAnswer image before after (Ok text) =
    (old new : MovieContent) × (found : Differences) × AreMoviesOf image before after old new × AreDifferences old new found × (text ≡ differences_text found)
IsCompareAnswer image before after (Err e) = AreMoviesFault image before after e
