use Rattle.std.proofs.Common.{arith}
use Rattle.std.proofs.lemmas.Grind.{common_steps}
use Rattle.tas_engines.proofs.alike.common_runs.Goals as goal

pub loop-same-preserved : goal.loop-same-preserved
loop-same-preserved c = grind (arith, common_steps)

pub returns-else-same_run : goal.returns-else-same_run
returns-else-same_run c = grind (arith, common_steps)
