use Rattle.std.proofs.Common.{refl}
use Rattle.tas_program.proofs.pipes.PipesDoor.close.Goals as goal

pub returns : goal.returns
returns g c = (c.args.output, refl)
