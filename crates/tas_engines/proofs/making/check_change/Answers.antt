use Rattle.std.proofs.Common.{arith}
use Rattle.std.proofs.lemmas.Grind.{common_steps}
use Rattle.tas_engines.proofs.making.check_change.Goals as goal

pub returns-in-Insert : goal.returns-in-Insert
returns-in-Insert g c = grind (arith, common_steps)

pub returns-in-Replace : goal.returns-in-Replace
returns-in-Replace g c = grind (arith, common_steps)
