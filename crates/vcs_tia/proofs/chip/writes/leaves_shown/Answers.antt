use Rattle.std.proofs.Common.{arith}
use Rattle.std.proofs.lemmas.Grind.{common_steps}
use Rattle.vcs_tia.proofs.chip.writes.leaves_shown.Goals as goal

pub returns : goal.returns
returns c = grind (arith, common_steps)
