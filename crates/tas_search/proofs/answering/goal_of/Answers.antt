use Rattle.std.proofs.Common.{arith}
use Rattle.std.proofs.lemmas.Grind.{common_steps}
use Rattle.tas_search.proofs.answering.goal_of.Goals as goal

pub returns-clause-read : goal.returns-clause-read
returns-clause-read g c = grind (arith, common_steps)

pub returns-in-Err-read_goal-clause-fault : goal.returns-in-Err-read_goal-clause-fault
returns-in-Err-read_goal-clause-fault g c = grind (arith, common_steps)
