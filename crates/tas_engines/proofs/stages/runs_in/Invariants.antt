use Rattle.std.proofs.Common.{◌≡◌, ◌-◌, ◌++◌, length, drop}
use Rattle.tas_movie.specs.Runs.{runs_of}
use Rattle.tas_engines.proofs.stages.runs_in.Given as goal

abbrev pub invariant-loop-at : goal.invariant-loop-at
invariant-loop-at g l = l.runs.items ++ runs_of (drop l.at l.inputs) ≡ runs_of l.inputs

abbrev pub decreases-loop-at : goal.decreases-loop-at
decreases-loop-at g l = length l.inputs - l.at
