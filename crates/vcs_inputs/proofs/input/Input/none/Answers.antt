use Rattle.std.proofs.Common.{rules}
use Rattle.vcs_inputs.proofs.input.Input.none.Goals as goal

pub returns : goal.returns
returns c = search rules
