use Rattle.std.proofs.Common.{ap, ◌∙◌}
use Rattle.tas_program.specs.Roles.{unread_fault}
use Rattle.tas_program.proofs.naming.read_at.Goals as goal

pub returns-in-Err-clause-fault : goal.returns-in-Err-clause-fault
returns-in-Err-clause-fault g c = (c.in-Err.fault, c.unread_fault.ensures ∙ ap (λ role. unread_fault role c.in-Err.fault) c.role_of-role.ensures, c.in-Err.ensures.fault)
