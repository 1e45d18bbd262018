use Rattle.std.proofs.Common.{ℕ, ◌+◌, ◌<◌, ◌≡◌}
use Rattle.tas_engines.specs.Differences.{GoOnAlike}
use Rattle.tas_engines.proofs.alike.alike_at.Given as goal

abbrev pub invariant-loop-i : goal.invariant-loop-i
invariant-loop-i l = (i j : ℕ) → i + j ≡ l.distance → i < l.i → GoOnAlike l.old l.new l.lengths.made l.lengths.left i j → ⊥
