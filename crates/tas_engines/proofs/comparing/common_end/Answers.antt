use Rattle.std.proofs.Common.{arith}
use Rattle.std.proofs.lemmas.Grind.{common_steps}
use Rattle.tas_engines.proofs.comparing.common_end.Goals as goal

pub loop-end-preserved : goal.loop-end-preserved
loop-end-preserved c = record { within_a = omega arith; within_b = omega arith; same = grind (arith, common_steps) }
