use Rattle.std.proofs.Common.{refl}
use Rattle.tas_program.proofs.SearchLemmas.{reported_kept}
use Rattle.tas_program.proofs.recovering.report_of.Goals as goal

pub returns-in-Err : goal.returns-in-Err
returns-in-Err g c = rw c.in-Err.is refl

pub returns-in-Ok : goal.returns-in-Ok
returns-in-Ok g c = reported_kept _ _ _ _ _ _ _ c.in-Ok.is c.image.ensures c.keep_image-kept.ensures c.line_after.ensures
