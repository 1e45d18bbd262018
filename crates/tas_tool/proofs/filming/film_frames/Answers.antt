use Rattle.std.proofs.lemmas.Grind.{common_steps}
use Rattle.std.proofs.Common.{arith}
use Rattle.tas_tool.proofs.FilmLemmas.{stop_ends}
use Rattle.tas_tool.proofs.filming.film_frames.Goals as goal

pub returns-in-Err : goal.returns-in-Err
returns-in-Err g c = stop_ends c.args.movie.now c.args.from c.args.to _ _ c.in-Err.stop c.stop_fault.result c.stop_fault.ensures (record { order = omega arith; within = omega arith }) c.in-Err.ensures

pub returns-in-Ok : goal.returns-in-Ok
returns-in-Ok g c = grind (arith, common_steps)
