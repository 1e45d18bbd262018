use Rattle.std.proofs.Common.{Ok, Err, refl}
use Rattle.tas_program.proofs.SearchLemmas.{recovered_over}
use Rattle.tas_program.proofs.recovering.recover_over.Goals as goal

pub returns-in-Err : goal.returns-in-Err
returns-in-Err g c = recovered_over c.args.until _ _ _ _ _ _ _ (Err c.in-Err.fault) _ c.first_left_out-line.ensures refl c.in-Err.ensures

pub returns-in-Ok : goal.returns-in-Ok
returns-in-Ok g c = recovered_over c.args.until _ _ _ _ _ _ _ (Ok c.in-Ok.found) _ c.first_left_out-line.ensures refl c.in-Ok.ensures
