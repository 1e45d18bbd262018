use Rattle.std.proofs.lemmas.Grind.{common_steps}
use Rattle.std.proofs.Common.{inl, refl, arith}
use Rattle.tas_tool.proofs.HoldingLemmas.{opened_fresh}
use Rattle.tas_tool.proofs.NotedDeskLemmas.{unmade_noted}
use Rattle.tas_tool.proofs.noted_desk_runs.hold_noted_desk.Goals as goal

pub hold_noted_opened-requires-clause-fresh : goal.hold_noted_opened-requires-clause-fresh
hold_noted_opened-requires-clause-fresh g c κs within = opened_fresh c.args.unopened.seats _ _ c.in-Ok.ensures.seats c.in-Ok.ensures.fresh

pub returns-in-Err-Memory-clause-fault : goal.returns-in-Err-Memory-clause-fault
returns-in-Err-Memory-clause-fault g c = unmade_noted c.args.movie (g.J.Write.contents c.args.file) _ _ (inl refl) c.run_fault.ensures

pub returns-clause-fault : goal.returns-clause-fault
returns-clause-fault g c = grind (arith, common_steps)
