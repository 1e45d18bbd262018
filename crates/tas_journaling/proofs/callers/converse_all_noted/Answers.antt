use Rattle.tas_journaling.proofs.callers.converse_all_noted.Goals as goal

pub returns : goal.returns
returns g c k d lt = c.for_each_on_threads.ensures k d lt
