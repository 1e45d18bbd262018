use Rattle.std.proofs.Common.{arith}
use Rattle.std.proofs.lemmas.Grind.{common_steps}
use Rattle.tas_engines.proofs.scripts.is_clear.Goals as goal

pub returns-in-CopyOther : goal.returns-in-CopyOther
returns-in-CopyOther g c = grind (arith, common_steps)
