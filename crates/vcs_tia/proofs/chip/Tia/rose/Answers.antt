use Rattle.std.proofs.Common.{rules}
use Rattle.vcs_tia.proofs.chip.Tia.rose.Goals as goal

pub returns : goal.returns
returns c = search rules
