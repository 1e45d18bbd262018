use Rattle.tas_seat.proofs.callers.converse_all.Goals as goal

pub returns : goal.returns
returns g c k d lt = c.for_each_on_threads.ensures k d lt
