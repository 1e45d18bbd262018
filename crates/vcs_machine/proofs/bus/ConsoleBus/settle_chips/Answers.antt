use Rattle.std.proofs.Common.{arith}
use Rattle.std.proofs.lemmas.Grind.{common_steps}
use Rattle.vcs_machine.proofs.bus.ConsoleBus.settle_chips.Goals as goal

pub returns-clause-low : goal.returns-clause-low
returns-clause-low g c = grind (arith, common_steps)
