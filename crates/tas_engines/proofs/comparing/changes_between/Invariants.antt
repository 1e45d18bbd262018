use Rattle.std.proofs.Common.{◌-◌, length}
use Rattle.tas_engines.proofs.StageLemmas.{Walked}
use Rattle.tas_engines.proofs.comparing.changes_between.Given as goal

abbrev pub invariant-loop-step : goal.invariant-loop-step
invariant-loop-step g l = Walked l.old l.new l.front l.end l.old_runs.items l.new_runs.items l.stage l.changes.items

abbrev pub decreases-loop-step : goal.decreases-loop-step
decreases-loop-step g l = length l.old_runs.items - l.stage.runs.old
