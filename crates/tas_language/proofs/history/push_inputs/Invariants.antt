use Rattle.std.proofs.Common.{◌≡◌, ◌≤◌, ◌+◌, ◌-◌, ◌++◌, length, drop}
use Rattle.tas_movie.specs.Runs.{runs_of}
use Rattle.tas_language.specs.History.{run_lines}
use Rattle.tas_language.proofs.history.push_inputs.Given as goal

abbrev pub invariant-loop-done : goal.invariant-loop-done
invariant-loop-done g l = record {
  told : l.text.items ++ run_lines l.prefix l.word (l.at + l.done) (runs_of (drop l.done l.inputs)) ≡ l.fn.text.items ++ run_lines l.prefix l.word l.at (runs_of l.inputs);
  bound : l.done ≤ length l.inputs;
}

abbrev pub decreases-loop-done : goal.decreases-loop-done
decreases-loop-done g l = length l.inputs - l.done
