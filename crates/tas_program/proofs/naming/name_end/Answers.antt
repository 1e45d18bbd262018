use Rattle.std.proofs.Common.{refl}
use Rattle.tas_program.proofs.naming.name_end.Goals as goal

pub returns-in-Ok : goal.returns-in-Ok
returns-in-Ok g c = rw c.in-Ok.is refl

pub returns-in-Err : goal.returns-in-Err
returns-in-Err g c = rw c.in-Err.is (c.name_fault.result, refl, c.name_fault.ensures)
