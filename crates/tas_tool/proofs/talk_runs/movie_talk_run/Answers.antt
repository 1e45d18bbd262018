use Rattle.std.proofs.Common.{refl}
use Rattle.tas_tool.specs.Talk.{IsTalkLeaving, IsUnbegun}
use Rattle.tas_tool.proofs.TalkRunLemmas.{over_movie, over_no_movie, untouched}
use Rattle.tas_tool.proofs.talk_runs.movie_talk_run.Goals as goal

pub returns-in-Err : goal.returns-in-Err
returns-in-Err g c = rw (c.unbegun.ensures.movie, c.unbegun.ensures.end) (over_no_movie (λ fault. fault) (IsUnbegun _) (IsTalkLeaving _) _ _ _ _ _ _ _ c.in-Err.ensures (untouched _ _, refl))

pub returns-in-Ok : goal.returns-in-Ok
returns-in-Ok g c = over_movie (λ fault. fault) (IsUnbegun _) (IsTalkLeaving _) _ _ _ _ _ _ _ _ _ _ c.in-Ok.ensures c.talk_from.ensures
