use Rattle.std.proofs.Common.{refl}
use Rattle.tas_movie.proofs.inputs.Inputs.from_vec.Goals as goal

pub returns : goal.returns
returns g c = refl
