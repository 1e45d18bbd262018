use Rattle.std.proofs.Common.{◌≡◌, ◌≤◌, ◌-◌, ◌++◌, length, drop}
use Rattle.std.specs.List.{flat_map}
use Rattle.tas_movie.specs.Runs.{runs_of}
use Rattle.tas_journal.specs.Text.{run_words}
use Rattle.tas_journal.proofs.writing.push_frames.Given as goal

abbrev pub invariant-loop-done : goal.invariant-loop-done
invariant-loop-done g l = record {
  written : l.text.items ++ flat_map run_words (runs_of (drop l.done l.inputs)) ≡ l.fn.text.items ++ flat_map run_words (runs_of l.inputs);
  bound : l.done ≤ length l.inputs;
}

abbrev pub decreases-loop-done : goal.decreases-loop-done
decreases-loop-done g l = length l.inputs - l.done
