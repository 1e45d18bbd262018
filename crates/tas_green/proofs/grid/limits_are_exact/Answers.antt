use Rattle.std.proofs.Common.{refl}
use Rattle.tas_green.proofs.grid.limits_are_exact.Goals as goal

pub returns : goal.returns
returns c = record { states = refl; stride = refl }
