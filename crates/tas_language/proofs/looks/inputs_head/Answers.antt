use Rattle.std.proofs.Common.{arith}
use Rattle.std.proofs.lemmas.Grind.{common_steps}
use Rattle.tas_language.proofs.looks.inputs_head.Goals as goal

pub returns : goal.returns
returns g c = grind (arith, common_steps)
