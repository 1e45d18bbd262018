use Rattle.vcs_cpu.specs.Inside.Leading.{length_within}
use Rattle.vcs_cpu.proofs.LoopLemmas.{HasCome}
use Rattle.vcs_cpu.proofs.running.run_by_value.Given as goal

-- the run has come here
abbrev pub invariant-loop-regs : goal.invariant-loop-regs
invariant-loop-regs g l = HasCome g.B.Bus.device g.B.Bus.content g.B.Settle.Ready g.B.Bus.fixed g.settling l.most l.fn.first l.fn.bus l.regs l.bus l.halt

abbrev pub decreases-loop-regs : goal.decreases-loop-regs
decreases-loop-regs g l = length_within g.B.Bus.device g.settling l.most l.regs (g.B.Bus.content l.bus)
