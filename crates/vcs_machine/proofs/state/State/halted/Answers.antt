use Rattle.std.proofs.Common.{rules}
use Rattle.vcs_machine.proofs.state.State.halted.Goals as goal

pub returns : goal.returns
returns c = search rules
