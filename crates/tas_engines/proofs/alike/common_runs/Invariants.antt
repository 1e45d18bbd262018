use Rattle.std.proofs.Common.{◌≡◌, ◌-◌, ◌≤◌, length, take}
use Rattle.tas_engines.proofs.alike.common_runs.Given as goal

abbrev pub invariant-loop-same : goal.invariant-loop-same
invariant-loop-same l = record {
  within_old : l.same ≤ length l.old;
  within_new : l.same ≤ length l.new;
  same : take l.same l.old ≡ take l.same l.new;
}

abbrev pub decreases-loop-same : goal.decreases-loop-same
decreases-loop-same l = length l.old - l.same
