use Rattle.std.proofs.Common.{arith}
use Rattle.std.proofs.lemmas.Grind.{common_steps}
use Rattle.tas_tool.proofs.HoldingLemmas.{opened_fresh}
use Rattle.tas_tool.proofs.desk_runs.hold_desk.Goals as goal

pub hold_opened-requires-clause-fresh : goal.hold_opened-requires-clause-fresh
hold_opened-requires-clause-fresh g c κs within = opened_fresh c.args.unopened.seats _ _ c.in-Ok.ensures.seats c.in-Ok.ensures.fresh

pub returns-in-Ok-clause-unopened : goal.returns-in-Ok-clause-unopened
returns-in-Ok-clause-unopened g c = grind (arith, common_steps)

pub returns-clause-fault : goal.returns-clause-fault
returns-clause-fault g c = grind (arith, common_steps)

pub returns-in-Ok-clause-history : goal.returns-in-Ok-clause-history
returns-in-Ok-clause-history g c = grind (arith, common_steps)

pub returns-in-Err-Memory-clause-fault : goal.returns-in-Err-Memory-clause-fault
returns-in-Err-Memory-clause-fault g c = grind (arith, common_steps)
