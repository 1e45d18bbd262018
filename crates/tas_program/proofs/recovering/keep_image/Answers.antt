use Rattle.std.proofs.Common.{None}
use Rattle.tas_program.proofs.SearchLemmas.{image_kept}
use Rattle.tas_program.proofs.recovering.keep_image.Goals as goal

pub returns-in-Some : goal.returns-in-Some
returns-in-Some g c = image_kept _ _ _ _ None None _ _ c.in-Some.is c.image_end.ensures c.save.ensures
