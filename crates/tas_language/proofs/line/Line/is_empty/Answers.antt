use Rattle.std.proofs.Common.{arith}
use Rattle.std.proofs.lemmas.Grind.{common_steps}
use Rattle.tas_language.proofs.line.Line.is_empty.Goals as goal

pub returns-clause-some : goal.returns-clause-some
returns-clause-some g c = grind (arith, common_steps)

pub returns-then-self-clause-some : goal.returns-then-self-clause-some
returns-then-self-clause-some g c = grind (arith, common_steps)
