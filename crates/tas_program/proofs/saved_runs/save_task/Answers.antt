use Rattle.std.proofs.Common.{refl, sym}
use Rattle.tas_program.proofs.ProgramLemmas.{not_saved}
use Rattle.tas_program.proofs.TalkLemmas.{saved_talk, saved_text}
use Rattle.tas_program.proofs.saved_runs.save_task.Goals as goal

pub returns-in-Err : goal.returns-in-Err
returns-in-Err g c = not_saved _ _ _ _ _ _ _ refl c.in-Err.ensures

pub returns-in-Some : goal.returns-in-Some
returns-in-Some g c = saved_talk _ _ _ _ _ _ _ _ _ _ _ _ refl c.in-Ok.ensures (sym c.in-Some.ensures) c.save_talk.ensures

pub returns-in-None : goal.returns-in-None
returns-in-None g c = saved_text _ _ _ _ _ _ _ _ _ _ _ refl c.in-Ok.ensures (sym c.in-None.ensures) c.save_run.ensures
