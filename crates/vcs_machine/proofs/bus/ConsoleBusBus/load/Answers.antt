use Rattle.std.proofs.Common.{arith}
use Rattle.std.proofs.lemmas.Grind.{common_steps}
use Rattle.vcs_machine.proofs.bus.ConsoleBusBus.load.Goals as goal

pub returns-in-PortsAndTimer-clause-content : goal.returns-in-PortsAndTimer-clause-content
returns-in-PortsAndTimer-clause-content g c = grind (arith, common_steps)

pub returns-in_default-clause-content : goal.returns-in_default-clause-content
returns-in_default-clause-content g c = grind (arith, common_steps)
