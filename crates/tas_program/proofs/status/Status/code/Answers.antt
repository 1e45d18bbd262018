use Rattle.tas_program.proofs.status.Status.code.Goals as goal

pub returns-in-Misuse : goal.returns-in-Misuse
returns-in-Misuse c = rw c.in-Misuse.is
