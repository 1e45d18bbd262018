use Rattle.std.proofs.Common.{arith}
use Rattle.std.proofs.lemmas.Grind.{common_steps}
use Rattle.tas_search.proofs.goal.read_goal.Goals as goal

pub overflow_sub-result : goal.overflow_sub-result
overflow_sub-result g c = grind (arith, common_steps)

pub returns-in-Err-At-clause-fault : goal.returns-in-Err-At-clause-fault
returns-in-Err-At-clause-fault g c = grind (arith, common_steps)

pub returns-in-Some-new-clause-read : goal.returns-in-Some-new-clause-read
returns-in-Some-new-clause-read g c = grind (arith, common_steps)

pub returns-in_default-clause-fault : goal.returns-in_default-clause-fault
returns-in_default-clause-fault g c = grind (arith, common_steps)
