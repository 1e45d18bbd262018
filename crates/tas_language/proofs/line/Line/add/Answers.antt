use Rattle.std.proofs.Common.{arith}
use Rattle.std.proofs.lemmas.Grind.{common_steps}
use Rattle.tas_language.proofs.line.Line.add.Goals as goal

pub returns-then-self-clause-added : goal.returns-then-self-clause-added
returns-then-self-clause-added g c = grind (arith, common_steps)

pub returns-then-saturating_add-gt-MAX_LINE-clause-added : goal.returns-then-saturating_add-gt-MAX_LINE-clause-added
returns-then-saturating_add-gt-MAX_LINE-clause-added g c = grind (arith, common_steps)

pub returns-clause-err : goal.returns-clause-err
returns-clause-err g c = grind (arith, common_steps)

pub returns-clause-added : goal.returns-clause-added
returns-clause-added g c = grind (arith, common_steps)
