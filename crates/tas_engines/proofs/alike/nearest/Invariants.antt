use Rattle.std.proofs.Common.{ℕ, ◌+◌, ◌-◌, ◌<◌}
use Rattle.tas_engines.specs.Differences.{GoOnAlike}
use Rattle.tas_engines.proofs.alike.nearest.Given as goal

abbrev pub invariant-loop-distance : goal.invariant-loop-distance
invariant-loop-distance l = (i j : ℕ) → i + j < l.distance → GoOnAlike l.old l.new l.lengths.made l.lengths.left i j → ⊥

abbrev pub decreases-loop-distance : goal.decreases-loop-distance
decreases-loop-distance l = 512 - l.distance
