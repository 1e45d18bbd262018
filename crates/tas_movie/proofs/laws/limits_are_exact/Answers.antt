use Rattle.std.proofs.Common.{refl}
use Rattle.tas_movie.proofs.laws.limits_are_exact.Goals as goal

pub returns : goal.returns
returns c = record { movie = refl; text = refl }
