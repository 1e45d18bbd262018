use Rattle.std.proofs.Common.{arith}
use Rattle.std.proofs.lemmas.Grind.{common_steps}
use Rattle.tas_session.proofs.session.Session.at.Goals as goal

pub returns-clause-most : goal.returns-clause-most
returns-clause-most g c = grind (arith, common_steps)

pub returns-clause-at : goal.returns-clause-at
returns-clause-at g c = grind (arith, common_steps)
