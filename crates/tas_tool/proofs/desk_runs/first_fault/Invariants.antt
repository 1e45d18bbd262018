use Rattle.std.proofs.Common.{◌≡◌, drop}
use Rattle.tas_tool.specs.Desks.{first_fault}
use Rattle.tas_tool.proofs.desk_runs.first_fault.Given as goal

abbrev pub invariant-loop-seat : goal.invariant-loop-seat
invariant-loop-seat l = first_fault 0 l.ends ≡ first_fault l.seat (drop l.seat l.ends)
