use Rattle.std.proofs.Common.{arith}
use Rattle.std.proofs.lemmas.Grind.{common_steps}
use Rattle.vcs_tia.proofs.chip.Tia.write_vblank.Goals as goal

pub returns-then-coloured-self : goal.returns-then-coloured-self
returns-then-coloured-self c = grind (arith, common_steps)

pub returns : goal.returns
returns c = grind (arith, common_steps)
