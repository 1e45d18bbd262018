use Rattle.std.proofs.Common.{arith}
use Rattle.std.proofs.lemmas.Grind.{common_steps}
use Rattle.tas_engines.proofs.starting.quiet_movie.Goals as goal

pub apply-requires : goal.apply-requires
apply-requires g c = grind (arith, common_steps)
