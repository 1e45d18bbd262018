use Rattle.std.proofs.Common.{◌≡◌, drop}
use Rattle.tas_tool.specs.NotedDesks.{first_call_fault}
use Rattle.tas_tool.proofs.noted_desk_runs.first_call_fault.Given as goal

abbrev pub invariant-loop-seat : goal.invariant-loop-seat
invariant-loop-seat l = first_call_fault 0 l.ends ≡ first_call_fault l.seat (drop l.seat l.ends)
