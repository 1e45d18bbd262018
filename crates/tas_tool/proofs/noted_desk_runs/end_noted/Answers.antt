use Rattle.std.proofs.Common.{Err, inl, inr, ap}
use Rattle.tas_tool.proofs.noted_desk_runs.end_noted.Goals as goal

pub returns-in-Err : goal.returns-in-Err
returns-in-Err g c = inr (c.in-Err.fault, ap Err c.run_fault.ensures, c.in-Err.ensures)

pub returns : goal.returns
returns g c = inl (c.in_default.ensures, c.first_call_fault.ensures)
