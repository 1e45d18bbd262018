use Rattle.std.proofs.Common.{arith}
use Rattle.std.proofs.lemmas.Grind.{common_steps}
use Rattle.tas_language.proofs.parsing.parse_request.Goals as goal

pub returns-clause-some : goal.returns-clause-some
returns-clause-some c = grind (arith, common_steps)

pub returns-clause-none : goal.returns-clause-none
returns-clause-none c = grind (arith, common_steps)
