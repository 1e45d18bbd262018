-- Frames split into runs.
use Rattle.std.specs.Prelude.{◌≡◌, ℕ, ◌+◌, ◌-◌, ◌*◌, ◌/◌, ◌<◌, ◌≤◌, nat_lt, if◌then◌else◌, List, length, map, sum, None}
use Rattle.std.specs.List.{range_with_len, concat}
use Rattle.tas_movie.specs.Content.{MovieContent, most_inputs}
use Rattle.tas_green.specs.declared.savestate.Savestate.{Savestate}
use Rattle.tas_green.specs.Zone.{nearest}
use Rattle.tas_film.specs.declared.runs.Run.{Run}
use Rattle.tas_film.specs.declared.runs.RunEnd.{RunEnd}
use Rattle.tas_film.specs.declared.runs.ExportPlan.{ExportPlan}
use Rattle.tas_film.specs.Frames.{Shows}

-- the first frame of run i: the frames are shared out by division, rounded down
abbrev pub first_of_run : ExportPlan → ℕ → ℕ
first_of_run plan i = plan.from + i * (plan.to - plan.from) / plan.workers

-- the frames that a run plays: from the nearest kept state at its first frame or before it, to its last frame; none for an empty run
abbrev pub cost : List Savestate → ℕ → ℕ → ℕ
cost zone first next = if nat_lt first next then next - nearest first zone else 0

-- the frames that this many runs play, from run i on
abbrev pub costs : List Savestate → ExportPlan → ℕ → ℕ → ℕ
costs zone plan i count = sum (map (λ j. cost zone (first_of_run plan j) (first_of_run plan (j + 1))) (range_with_len i count))

-- how many workers an export has at most
abbrev pub most_workers : ℕ
most_workers = 16

-- there is a worker, there are not too many, and the frames are in the movie
pub record IsPlan (movie : MovieContent) (plan : ExportPlan) : Type 0 where
  pub some : 0 < plan.workers
  pub most : plan.workers ≤ most_workers
  pub order : plan.from ≤ plan.to
  pub within : plan.to ≤ length movie.inputs
  pub few : plan.to ≤ most_inputs

-- how the run of the frames from `first` to the one before `next` ends
pub record IsRunEnd (movie : MovieContent) (zone : List Savestate) (first next : ℕ) (pixmaps : List ℕ) (end : RunEnd) : Type 0 where
  pub shows : Shows movie first next pixmaps end.stop
  pub played : end.stop ≡ None → end.played ≡ cost zone first next
  pub most : end.played ≤ most_inputs

-- the pixmaps of runs, a list for each
abbrev pub pixmaps_in : {A : Type 0} → List (Run A) → List (List ℕ)
pixmaps_in runs = map (λ run. run.pixmaps) runs

-- how the first `count` runs end: their pixmaps, one after the other, show all frames of these runs
pub record AreRunsEnd (movie : MovieContent) (zone : List Savestate) (plan : ExportPlan) (count : ℕ) (all_pixmaps : List (List ℕ)) (end : RunEnd) : Type 0 where
  pub shows : Shows movie plan.from (first_of_run plan count) (concat all_pixmaps) end.stop
  pub played : end.stop ≡ None → end.played ≡ costs zone plan 0 count
  pub most : end.played ≤ count * most_inputs
