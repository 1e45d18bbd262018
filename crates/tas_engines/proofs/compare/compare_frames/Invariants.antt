use Rattle.std.proofs.Common.{◌≡◌, ◌-◌, ◌≤◌}
use Rattle.tas_green.specs.Run.{state_after}
use Rattle.tas_engines.specs.Comparing.{AreFirstUpTo}
use Rattle.tas_engines.proofs.compare.compare_frames.Given as goal

abbrev pub invariant-loop-k : goal.invariant-loop-k
invariant-loop-k g l = record {
  old : l.old_side.state ≡ state_after l.old l.k;
  new : l.new_side.state ≡ state_after l.new l.k;
  found : AreFirstUpTo l.old l.new l.k l.found;
  within : l.k ≤ l.end;
}

abbrev pub decreases-loop-k : goal.decreases-loop-k
decreases-loop-k g l = l.end - l.k
