use Rattle.std.proofs.Common.{◌≤◌, ◌-◌}
use Rattle.tas_engines.proofs.GapSteps.{Replacing}
use Rattle.tas_engines.proofs.comparing.push_replacements.Given as goal

abbrev pub invariant-loop-done : goal.invariant-loop-done
invariant-loop-done g l = record {
  within : l.done ≤ l.count;
  replacing : Replacing l.old l.new l.gap.old l.gap.new l.gap.new_end l.done l.fn.changes.items l.changes.items;
}

abbrev pub decreases-loop-done : goal.decreases-loop-done
decreases-loop-done g l = l.count - l.done
