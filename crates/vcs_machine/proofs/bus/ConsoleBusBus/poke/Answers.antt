use Rattle.std.proofs.Common.{arith}
use Rattle.std.proofs.lemmas.Grind.{common_steps}
use Rattle.vcs_machine.proofs.bus.ConsoleBusBus.poke.Goals as goal

pub returns-in-Ram-clause-content : goal.returns-in-Ram-clause-content
returns-in-Ram-clause-content g c = grind (arith, common_steps)

pub returns-in-Cartridge-clause-content : goal.returns-in-Cartridge-clause-content
returns-in-Cartridge-clause-content g c = grind (arith, common_steps)

pub returns-in-Tia-clause-content : goal.returns-in-Tia-clause-content
returns-in-Tia-clause-content g c = grind (arith, common_steps)

pub returns-in-PortsAndTimer-clause-content : goal.returns-in-PortsAndTimer-clause-content
returns-in-PortsAndTimer-clause-content g c = grind (arith, common_steps)

pub invariant_of-self : goal.invariant_of-self
invariant_of-self g c = grind (arith, common_steps)
