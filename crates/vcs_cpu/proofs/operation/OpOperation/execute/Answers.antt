use Rattle.std.proofs.Common.{arith}
use Rattle.std.proofs.lemmas.Grind.{common_steps}
use Rattle.vcs_cpu.proofs.operation.OpOperation.execute.Goals as goal

pub returns-in-Jmp-clause-bus : goal.returns-in-Jmp-clause-bus
returns-in-Jmp-clause-bus g c = grind (arith, common_steps)

pub returns-in-Pla-clause-bus : goal.returns-in-Pla-clause-bus
returns-in-Pla-clause-bus g c = grind (arith, common_steps)

pub returns-in-Rti-clause-bus : goal.returns-in-Rti-clause-bus
returns-in-Rti-clause-bus g c = grind (arith, common_steps)

pub returns-in-Store-clause-bus : goal.returns-in-Store-clause-bus
returns-in-Store-clause-bus g c = grind (arith, common_steps)

pub returns-in-Pha-clause-bus : goal.returns-in-Pha-clause-bus
returns-in-Pha-clause-bus g c = grind (arith, common_steps)

pub returns-in-Modify-clause-bus : goal.returns-in-Modify-clause-bus
returns-in-Modify-clause-bus g c = grind (arith, common_steps)

pub returns-in-Read-clause-bus : goal.returns-in-Read-clause-bus
returns-in-Read-clause-bus g c = grind (arith, common_steps)

pub returns-in-Plp-clause-bus : goal.returns-in-Plp-clause-bus
returns-in-Plp-clause-bus g c = grind (arith, common_steps)

pub returns-in-Implied-clause-bus : goal.returns-in-Implied-clause-bus
returns-in-Implied-clause-bus g c = grind (arith, common_steps)

pub returns-in-Rts-clause-bus : goal.returns-in-Rts-clause-bus
returns-in-Rts-clause-bus g c = grind (arith, common_steps)

pub returns-in-Branch-clause-bus : goal.returns-in-Branch-clause-bus
returns-in-Branch-clause-bus g c = grind (arith, common_steps)

pub returns-in-Brk-clause-bus : goal.returns-in-Brk-clause-bus
returns-in-Brk-clause-bus g c = grind (arith, common_steps)

pub returns-in-Jsr-clause-bus : goal.returns-in-Jsr-clause-bus
returns-in-Jsr-clause-bus g c = grind (arith, common_steps)

pub returns-in-Php-clause-bus : goal.returns-in-Php-clause-bus
returns-in-Php-clause-bus g c = grind (arith, common_steps)
