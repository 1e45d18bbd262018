use Rattle.std.proofs.Common.{arith}
use Rattle.vcs_machine.proofs.bus.ConsoleBus.settle_after_write.Goals as goal

pub returns-then-may_change_sync-clause-kept : goal.returns-then-may_change_sync-clause-kept
returns-then-may_change_sync-clause-kept g c = λ h. absurd (omega (arith, h, c.ask_to_settle.ensures.due))

pub returns-else-may_change_sync-clause-kept : goal.returns-else-may_change_sync-clause-kept
returns-else-may_change_sync-clause-kept g c = λ h. c.may_change_sync.ensures c.if-may_change_sync.false
