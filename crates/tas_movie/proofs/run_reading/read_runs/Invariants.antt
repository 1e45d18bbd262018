use Rattle.std.proofs.Common.{◌≡◌, ◌≤◌, ◌+◌, ◌++◌, [], length, vec_len, vec_capacity}
use Rattle.std.specs.List.{flat_map}
use Rattle.tas_movie.specs.Content.{most_inputs}
use Rattle.tas_movie.specs.Runs.{runs_of}
use Rattle.tas_movie.specs.Text.{run_line}
use Rattle.tas_movie.specs.Fault.{runs_fault, fault_by}
use Rattle.tas_movie.proofs.run_reading.read_runs.Given as goal

abbrev pub invariant-loop-rest : goal.invariant-loop-rest
invariant-loop-rest g l = record {
  runs : l.bytes ≡ flat_map run_line (runs_of l.list.items) ++ l.rest;
  same_fault : fault_by (runs_fault l.number l.list.items) l.rest ≡ fault_by (runs_fault 3 []) l.bytes;
  bound : vec_len l.list ≤ most_inputs;
  capacity : vec_capacity l.fn.list ≤ vec_capacity l.list;
  number : l.number + length l.rest ≤ length l.bytes + 3;
}

abbrev pub decreases-loop-rest : goal.decreases-loop-rest
decreases-loop-rest g l = length l.rest
