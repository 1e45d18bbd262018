use Rattle.std.proofs.Common.{◌∙◌}
use Rattle.tas_program.proofs.TalkLemmas.{none_touched, saved_as}
use Rattle.tas_program.proofs.saved_talks.save_movie.Goals as goal

pub returns-in-Ok : goal.returns-in-Ok
returns-in-Ok g c = saved_as _ _ _ _ _ _ _ (c.as_slice.ensures.value ∙ c.in-Ok.ensures) c.save.ensures

pub returns-in-Err : goal.returns-in-Err
returns-in-Err g c = none_touched _
