use Rattle.std.proofs.Common.{subst}
use Rattle.tas_published.specs.History.{IsLegal}
use Rattle.tas_session.specs.Session.{SessionContent}
use Rattle.tas_session.proofs.session.Session.close.Goals as goal

pub returns-clause-legal : goal.returns-clause-legal
returns-clause-legal g c = subst (λ (s : SessionContent _). IsLegal s.journal) c.self.view_is c.self.invariant.0.legal
