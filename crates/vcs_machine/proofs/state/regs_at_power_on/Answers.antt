use Rattle.std.proofs.Common.{rules}
use Rattle.vcs_machine.proofs.state.regs_at_power_on.Goals as goal

pub returns : goal.returns
returns g c = search rules
