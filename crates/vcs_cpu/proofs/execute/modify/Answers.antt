use Rattle.std.proofs.Common.{rules}
use Rattle.vcs_cpu.proofs.execute.modify.Goals as goal

pub returns-clause-regs : goal.returns-clause-regs
returns-clause-regs g c = search rules

pub returns-clause-bus : goal.returns-clause-bus
returns-clause-bus g c = search rules

pub returns-clause-fixed : goal.returns-clause-fixed
returns-clause-fixed g c = search rules
