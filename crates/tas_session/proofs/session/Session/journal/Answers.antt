use Rattle.std.proofs.Common.{arith}
use Rattle.std.proofs.lemmas.Grind.{common_steps}
use Rattle.tas_session.proofs.session.Session.journal.Goals as goal

pub returns-clause-legal : goal.returns-clause-legal
returns-clause-legal g c = grind (arith, common_steps)
