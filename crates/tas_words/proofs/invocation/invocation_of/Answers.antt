use Rattle.std.proofs.Common.{arith}
use Rattle.std.proofs.lemmas.Grind.{common_steps}
use Rattle.tas_words.proofs.invocation.invocation_of.Goals as goal

pub returns-in-Ok-clause-none : goal.returns-in-Ok-clause-none
returns-in-Ok-clause-none g c = grind (arith, common_steps)

pub returns-in-Ok-clause-tip : goal.returns-in-Ok-clause-tip
returns-in-Ok-clause-tip g c = grind (arith, common_steps)
