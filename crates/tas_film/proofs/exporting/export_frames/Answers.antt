use Rattle.std.proofs.lemmas.Grind.{common_steps}
use Rattle.std.proofs.Common.{arith}
use Rattle.tas_film.proofs.WriteLemmas.{fault_of_runs}
use Rattle.tas_film.proofs.exporting.export_frames.Goals as goal

pub returns-clause-fault : goal.returns-clause-fault
returns-clause-fault g c = fault_of_runs c.args.movie.now c.args.plan _ _ _ c.export_runs.ensures.fault

pub export_runs-requires-clause-empty : goal.export_runs-requires-clause-empty
export_runs-requires-clause-empty g c = grind (arith, common_steps)
