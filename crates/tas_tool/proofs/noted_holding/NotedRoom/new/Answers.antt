use Rattle.std.proofs.Common.{arith}
use Rattle.std.proofs.lemmas.Grind.{common_steps}
use Rattle.tas_tool.proofs.noted_holding.NotedRoom.new.Goals as goal

pub returns-clause-ends : goal.returns-clause-ends
returns-clause-ends g c = grind (arith, common_steps)

pub returns-clause-callers : goal.returns-clause-callers
returns-clause-callers g c = grind (arith, common_steps)

pub returns-clause-seats : goal.returns-clause-seats
returns-clause-seats g c = grind (arith, common_steps)

pub returns-clause-receipts : goal.returns-clause-receipts
returns-clause-receipts g c = grind (arith, common_steps)

pub returns-clause-doors : goal.returns-clause-doors
returns-clause-doors g c = grind (arith, common_steps)
