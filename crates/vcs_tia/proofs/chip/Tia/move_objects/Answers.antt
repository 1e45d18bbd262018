use Rattle.std.proofs.Common.{arith}
use Rattle.std.proofs.lemmas.Grind.{common_steps}
use Rattle.vcs_tia.proofs.chip.Tia.move_objects.Goals as goal

pub returns : goal.returns
returns c = grind (arith, common_steps)
