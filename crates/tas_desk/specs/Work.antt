-- Jobs, what they made, and replies to work.
use Rattle.std.specs.Prelude.{◌≡◌, ◌≢◌, ◌↔◌, ℕ, ◌+◌, ◌*◌, ◌/◌, ◌<◌, ◌≤◌, ◌&&◌, Bool, List, [], ◌∷◌, length, take, min, is_none, count_by, Option, Some, None, IfSome, Result, Ok, Err}
use Rattle.std.specs.List.{range_with_len}
use mathlib.Core.List.{IsPrefix}
use Rattle.vcs_machine.specs.Machine.{after}
use Rattle.tas_movie.specs.Content.{MovieContent}
use Rattle.tas_green.specs.declared.savestate.Savestate.{Savestate}
use Rattle.tas_green.specs.Batch.{JobContent, BatchContent}
use Rattle.tas_movie.specs.Front.{IsCommonFront}
use Rattle.tas_green.specs.Green.{IsLawful}
use Rattle.tas_green.specs.Grid.{most_states, stride}
use Rattle.tas_green.specs.Zone.{state_at, nearest, first_of, where_true, is_on_grid, is_passed}
use Rattle.tas_published.specs.declared.entry.Entry.{Entry}
use Rattle.tas_session.specs.declared.replies.Offered.{Offered}
use Rattle.tas_desk.specs.declared.work.Worked.{Worked}
use Rattle.tas_desk.specs.declared.work.WorkError.{WorkError}
use Rattle.tas_desk.specs.declared.work.WorkError.TheVariants.{Memory}
use Rattle.tas_published.specs.History.{most_counted, movie_of}

-- a job for the first `near` frames of a movie: it has the cartridge, these inputs and the movie's stride, and starts from the
-- nearest of these states among them
pub record IsJobFrom (kept : List Savestate) (movie : MovieContent) (near : ℕ) (job : JobContent) : Type 0 where
  pub cart : job.cart ≡ movie.cart
  pub inputs : job.inputs ≡ take (min near (length movie.inputs)) movie.inputs
  pub step : job.stride ≡ stride (length movie.inputs)
  pub start : job.start ≡ nearest (min near (length movie.inputs)) kept

-- the same from the states of a zone that is lawful for the movie
pub record IsJobOf (movie : MovieContent) (near : ℕ) (job : JobContent) : Type 0 where
  pub kept : List Savestate
  pub lawful : IsLawful movie kept
  pub is : IsJobFrom kept movie near job

-- what running a job makes: its cartridge, its inputs, and the machine's states at just the places of its grid after its start
pub record IsRunOf (job : JobContent) (batch : BatchContent) : Type 0 where
  pub cart : batch.cart ≡ job.cart
  pub inputs : batch.inputs ≡ job.inputs
  pub states : (f : ℕ) → state_at f batch.states ≡ where_true (is_passed job.stride job.start (length job.inputs) f) (Some (after job.cart (take f job.inputs)))

-- a batch that a zone takes under a movie: it gains exactly the batch's states on the movie's grid up to the common front, and
-- those that it lacked are counted
pub record Takes (before now : List Savestate) (movie : MovieContent) (batch : BatchContent) (offered : Offered) : Type 0 where
  pub front : IsCommonFront batch.inputs movie.inputs offered.front
  pub states : (f : ℕ) → state_at f now ≡ first_of (state_at f before) (where_true (is_on_grid (stride (length movie.inputs)) offered.front f) (state_at f batch.states))
  pub gained : length now ≡ length before + offered.kept

-- the same of a zone that is lawful for the movie before and afterwards
pub record IsTaken (movie : MovieContent) (batch : BatchContent) (offered : Offered) : Type 0 where
  pub before : List Savestate
  pub lawful : IsLawful movie before
  pub now : List Savestate
  pub lawful_now : IsLawful movie now
  pub takes : Takes before now movie batch offered

-- a place of a movie's grid after `from`, up to `to`, at which a list has no state
abbrev pub is_lacking : MovieContent → (from to : ℕ) → List Savestate → ℕ → Bool
is_lacking movie from to zone f = is_passed (stride (length movie.inputs)) from to f && is_none (state_at f zone)

-- how many such places there are
abbrev pub lacking : MovieContent → (from to : ℕ) → List Savestate → ℕ
lacking movie from to zone = count_by (is_lacking movie from to zone) (range_with_len 1 (length movie.inputs))

-- some zone that is lawful for a movie takes what a job of the movie `was` made, as far as the two movies' inputs agree, and gains `kept` states: at most as many as it lacked at places of
-- the grid after the job's start, up to the job's frames; and where the movie is still `was`, just as many
pub record IsGain (was movie : MovieContent) (job : JobContent) (batch : BatchContent) (kept : ℕ) : Type 0 where
  pub offered : Offered
  pub taken : IsTaken movie batch offered
  pub counted : offered.kept ≡ kept
  pub most : kept ≤ lacking movie job.start (length job.inputs) taken.before
  pub exact : movie ≡ was → kept ≡ lacking movie job.start (length job.inputs) taken.before

-- what was worked, once there was one job more: it gained this many states, which are counted up to what a `usize` holds, or it
-- was stale
abbrev pub with_job : Worked → Option ℕ → Worked
with_job worked (Some gained) = record { jobs = worked.jobs + 1; kept = min (worked.kept + gained) most_counted; stale = worked.stale }
with_job worked None = record { jobs = worked.jobs + 1; kept = worked.kept; stale = worked.stale + 1 }

-- a job for the first `near` frames, by a seat that had seen `before` and has now seen `now`: there are a history between these two, a job that starts there from the nearest state
-- of some zone that is lawful for its movie, and what running that job makes. The job is stale exactly where this history and `now` have different cartridges; else some zone that is
-- lawful at `now` gained these states: at most as many as the grid at `now` has places up to `near`, and where nobody edited between, as many as it lacked from the job's start on
pub record IsJobDone {A : Type 0} (before now : List (Entry A)) (near : ℕ) (gained : Option ℕ) : Type 0 where
  pub at : List (Entry A)
  pub begins : IsPrefix before at
  pub goes_on : IsPrefix at now
  pub job : JobContent
  pub taken_at : IsJobOf (movie_of at) near job
  pub batch : BatchContent
  pub run : IsRunOf job batch
  pub stale : (gained ≡ None) ↔ ((movie_of now).cart ≢ (movie_of at).cart)
  pub taken : IfSome gained (IsGain (movie_of at) (movie_of now) job batch)
  pub most : IfSome gained (λ kept. kept ≤ min near (length (movie_of now).inputs) / stride (length (movie_of now).inputs))

-- before any job
abbrev pub none_worked : Worked
none_worked = record { jobs = 0; kept = 0; stale = 0 }

-- for each target, in order, a job was done, from where the one before it left the seat, and counted; the seat may have seen more since the last one
unfoldable pub AreJobs : {A : Type 0} → (before : List (Entry A)) → (worked : Worked) → (targets : List ℕ) → (last : Worked) → (now : List (Entry A)) → Type 0
AreJobs before worked [] last now = (last ≡ worked) × IsPrefix before now
AreJobs {A} before worked (near ∷ targets) last now =
    (gained : Option ℕ) × (then : List (Entry A)) × IsJobDone before then near gained × AreJobs then (with_job worked gained) targets last now

-- one job was done, for the first `near` frames, and counted; the seat may have seen more since
pub record IsOneJob {A : Type 0} (before now : List (Entry A)) (near : ℕ) (worked : Worked) : Type 0 where
  pub gained : Option ℕ
  pub last : List (Entry A)
  pub job : IsJobDone before last near gained
  pub counted : worked ≡ with_job none_worked gained
  pub goes_on : IsPrefix last now

-- just these jobs were done; or memory was refused, and those of the targets before
abbrev pub HasWorked : {A : Type 0} → List (Entry A) → List ℕ → Result Worked WorkError → List (Entry A) → Type 0
HasWorked before targets (Ok worked) now = AreJobs before none_worked targets worked now
HasWorked before targets (Err (Memory done)) now = AreJobs before none_worked (take done.jobs targets) done now

-- no more jobs are stale than were run, and the others gained together at most as many states as that many zones can have
pub record IsTally (worked : Worked) : Type 0 where
  pub stale : worked.stale ≤ worked.jobs
  pub kept : worked.kept + most_states * worked.stale ≤ most_states * worked.jobs

-- all of this many targets were worked; or memory was refused, and those before are reported
abbrev pub IsWorked : ℕ → Result Worked WorkError → Type 0
IsWorked targets (Ok worked) = (worked.jobs ≡ targets) × IsTally worked
IsWorked targets (Err (Memory done)) = (done.jobs < targets) × IsTally done

-- each history between these two has the first one's cartridge
abbrev pub KeepsCart : {A : Type 0} → List (Entry A) → List (Entry A) → Type 0
KeepsCart {A} before now = (front : List (Entry A)) → IsPrefix before front → IsPrefix front now → (movie_of front).cart ≡ (movie_of before).cart

-- how many stale jobs are reported
abbrev pub stale_in : Result Worked WorkError → ℕ
stale_in (Ok worked) = worked.stale
stale_in (Err (Memory done)) = done.stale
