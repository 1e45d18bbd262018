use Rattle.std.proofs.lemmas.Grind.{common_steps}
use Rattle.std.proofs.Common.{rules, arith}
use Rattle.tas_movie.proofs.movie.Movie.copy.Goals as goal

pub returns : goal.returns
returns g c = search rules

pub invariant_of-result : goal.invariant_of-result
invariant_of-result g c = grind (arith, common_steps)
