use Rattle.std.proofs.Common.{◌≡◌, ◌≤◌, ◌-◌, length, take}
use Rattle.std.specs.Prelude.{replicate}
use Rattle.tas_movie.proofs.run.run_length.Given as goal

abbrev pub invariant-loop-count : goal.invariant-loop-count
invariant-loop-count l = (l.count ≤ length l.inputs) × (take l.count l.inputs ≡ replicate l.count l.input)

abbrev pub decreases-loop-count : goal.decreases-loop-count
decreases-loop-count l = length l.inputs - l.count
