use Rattle.std.proofs.Common.{rules}
use Rattle.tas_movie.proofs.inputs.Inputs.repeated.Goals as goal

pub returns : goal.returns
returns g c = search rules
