use Rattle.std.proofs.Common.{arith}
use Rattle.std.proofs.lemmas.Grind.{common_steps}
use Rattle.vcs_cpu.proofs.execute.push_address.Goals as goal

pub returns-clause-bus : goal.returns-clause-bus
returns-clause-bus g c = grind (arith, common_steps)

pub returns-clause-fixed : goal.returns-clause-fixed
returns-clause-fixed g c = grind (arith, common_steps)
