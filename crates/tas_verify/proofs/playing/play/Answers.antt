use Rattle.tas_verify.proofs.RowLemmas.{played_now, played_fault}
use Rattle.tas_verify.proofs.playing.play.Goals as goal

pub returns-in-Ok : goal.returns-in-Ok
returns-in-Ok g c = played_now c.stretch_of-every.result _ c.in-Ok.now.items c.as_slice.result.now c.args.stored.now _ c.stretch_of-every.ensures.has c.stretch_of-every.ensures.some c.in-Ok.ensures.text c.as_slice.ensures.value c.compare.ensures

pub returns-in-Err : goal.returns-in-Err
returns-in-Err g c = played_fault c.stretch_of-every.result _ c.args.stored.now c.in-Err.fault _ c.stretch_of-every.ensures.has c.stretch_of-every.ensures.some c.in-Err.ensures.fault c.outcome_of.ensures
