use Rattle.std.proofs.Common.{arith}
use Rattle.std.proofs.lemmas.Grind.{common_steps}
use Rattle.vcs_tia.proofs.playfield.Playfield.right_half.Goals as goal

pub returns-then-self-clause-bits : goal.returns-then-self-clause-bits
returns-then-self-clause-bits c = grind (arith, common_steps)

pub returns-clause-bits : goal.returns-clause-bits
returns-clause-bits c = grind (arith, common_steps)
