use Rattle.std.proofs.Common.{arith}
use Rattle.std.proofs.lemmas.Grind.{common_steps}
use Rattle.tas_words.proofs.tips.is_bare.Goals as goal

pub returns-then-not-contains : goal.returns-then-not-contains
returns-then-not-contains c = grind (arith, common_steps)
