use Rattle.std.proofs.Common.{arith}
use Rattle.std.proofs.lemmas.Grind.{elements}
use Rattle.vcs_tia.proofs.chip.Tia.is_dark.Goals as goal

pub returns : goal.returns
returns c = grind (arith, elements)
