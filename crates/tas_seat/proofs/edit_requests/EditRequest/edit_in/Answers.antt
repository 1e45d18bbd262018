use Rattle.tas_seat.proofs.EditLemmas.{asked_allowed}
use Rattle.tas_seat.proofs.edit_requests.EditRequest.edit_in.Goals as goal

pub returns-in-Retouch-clause-allowed : goal.returns-in-Retouch-clause-allowed
returns-in-Retouch-clause-allowed g c = asked_allowed _ c.args.self.now c.args.movie.now c.requires
