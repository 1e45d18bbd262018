use Rattle.std.proofs.Common.{rules}
use Rattle.vcs_tia.proofs.chip.Tia.beam.Goals as goal

pub returns-clause-clock : goal.returns-clause-clock
returns-clause-clock c = search rules
