use Rattle.std.proofs.Common.{refl}
use Rattle.tas_program.proofs.ProgramLemmas.{not_begun}
use Rattle.tas_program.proofs.running.run_task.Goals as goal

pub returns-in-Err : goal.returns-in-Err
returns-in-Err g c = not_begun _ _ _ _ _ _ refl c.in-Err.ensures
