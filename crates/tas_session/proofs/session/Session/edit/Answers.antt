use Rattle.std.proofs.Common.{arith}
use Rattle.std.proofs.lemmas.Grind.{common_steps}
use Rattle.tas_session.proofs.session.Session.edit.Goals as goal

pub returns-clause-receipt : goal.returns-clause-receipt
returns-clause-receipt g c = grind (arith, common_steps)

pub returns-then-is_err-clause-refused : goal.returns-then-is_err-clause-refused
returns-then-is_err-clause-refused g c = grind (arith, common_steps)

pub returns-clause-done : goal.returns-clause-done
returns-clause-done g c = grind (arith, common_steps)
