use Rattle.std.proofs.Common.{refl}
use Rattle.tas_session.proofs.replies.shown.Goals as goal

pub returns-in-Err-clause-halted : goal.returns-in-Err-clause-halted
returns-in-Err-clause-halted g c = rw c.in-Err.is refl
