use Rattle.std.proofs.Common.{◌≡◌, ◌-◌, ◌++◌}
use Rattle.tas_movie.specs.Runs.{runs_of}
use Rattle.tas_engines.specs.Hunks.{insertions}
use Rattle.tas_engines.proofs.GapSteps.{between}
use Rattle.tas_engines.proofs.comparing.push_insertions.Given as goal

abbrev pub invariant-loop-at : goal.invariant-loop-at
invariant-loop-at g l = l.changes.items ++ insertions l.at (runs_of (between l.new l.at l.to)) ≡ l.fn.changes.items ++ insertions l.from (runs_of (between l.new l.from l.to))

abbrev pub decreases-loop-at : goal.decreases-loop-at
decreases-loop-at g l = l.to - l.at
