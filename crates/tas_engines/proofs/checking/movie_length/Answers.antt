use Rattle.std.proofs.Common.{arith}
use Rattle.std.proofs.lemmas.Grind.{common_steps}
use Rattle.tas_engines.proofs.checking.movie_length.Goals as goal

pub returns-clause-length : goal.returns-clause-length
returns-clause-length g c = grind (arith, common_steps)
