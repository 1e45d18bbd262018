use Rattle.std.proofs.Common.{refl}
use Rattle.tas_program.proofs.recovering.line_after.Goals as goal

pub returns-in-Err : goal.returns-in-Err
returns-in-Err c = rw c.in-Err.is refl
