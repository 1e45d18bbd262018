use Rattle.std.proofs.Common.{arith}
use Rattle.std.proofs.lemmas.Grind.{common_steps}
use Rattle.tas_tool.proofs.opening.open_alone.Goals as goal

pub returns-in-Err-Memory-clause-fault : goal.returns-in-Err-Memory-clause-fault
returns-in-Err-Memory-clause-fault g c = grind (arith, common_steps)

pub returns-in-Err-NoPlace-clause-fault : goal.returns-in-Err-NoPlace-clause-fault
returns-in-Err-NoPlace-clause-fault g c = grind (arith, common_steps)
