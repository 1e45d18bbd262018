use Rattle.std.proofs.Common.{arith}
use Rattle.std.proofs.lemmas.Grind.{common_steps}
use Rattle.tas_desk.proofs.desk.Desk.export.Goals as goal

pub returns-clause-reply : goal.returns-clause-reply
returns-clause-reply g c = grind (arith, common_steps)

pub returns-clause-seat : goal.returns-clause-seat
returns-clause-seat g c = grind (arith, common_steps)

pub export_movie-end-requires-clause-range : goal.export_movie-end-requires-clause-range
export_movie-end-requires-clause-range g c = grind (arith, common_steps)

pub export_movie-end-requires-clause-plan : goal.export_movie-end-requires-clause-plan
export_movie-end-requires-clause-plan g c = grind (arith, common_steps)
