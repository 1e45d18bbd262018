use Rattle.std.proofs.Common.{rules}
use Rattle.vcs_cpu.proofs.timing.crossing_cycles.Goals as goal

pub returns-clause-value : goal.returns-clause-value
returns-clause-value c = search rules
