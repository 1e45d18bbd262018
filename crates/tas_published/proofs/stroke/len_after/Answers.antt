use Rattle.std.proofs.Common.{arith}
use Rattle.std.proofs.lemmas.Grind.{common_steps}
use Rattle.tas_published.proofs.stroke.len_after.Goals as goal

pub returns-in-Load-2 : goal.returns-in-Load-2
returns-in-Load-2 g c = grind (arith, common_steps)

pub returns-in-Insert : goal.returns-in-Insert
returns-in-Insert g c = grind (arith, common_steps)

pub returns-in-Delete : goal.returns-in-Delete
returns-in-Delete g c = grind (arith, common_steps)
