use Rattle.std.proofs.Common.{arith}
use Rattle.std.proofs.lemmas.Grind.{common_steps}
use Rattle.vcs_machine.proofs.tracing.restart.Goals as goal

pub returns-clause-next : goal.returns-clause-next
returns-clause-next c = grind (arith, common_steps)
