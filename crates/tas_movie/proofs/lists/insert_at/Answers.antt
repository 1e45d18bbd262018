use Rattle.std.proofs.Common.{arith}
use Rattle.std.proofs.lemmas.Grind.{common_steps}
use Rattle.tas_movie.proofs.lists.insert_at.Goals as goal

pub returns-clause-items : goal.returns-clause-items
returns-clause-items g c = grind (arith, common_steps)
