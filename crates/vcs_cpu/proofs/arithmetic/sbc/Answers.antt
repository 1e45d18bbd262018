use Rattle.std.proofs.Common.{rules}
use Rattle.vcs_cpu.proofs.arithmetic.sbc.Goals as goal

pub returns-then-regs : goal.returns-then-regs
returns-then-regs c = search rules

pub returns-else-regs : goal.returns-else-regs
returns-else-regs c = search rules
