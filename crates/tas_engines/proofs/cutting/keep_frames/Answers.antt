use Rattle.std.proofs.Common.{arith}
use Rattle.std.proofs.lemmas.Grind.{common_steps}
use Rattle.tas_engines.proofs.cutting.keep_frames.Goals as goal

pub returns-clause-range : goal.returns-clause-range
returns-clause-range g c = grind (arith, common_steps)

pub apply-requires-2 : goal.apply-requires-2
apply-requires-2 g c = grind (arith, common_steps)
