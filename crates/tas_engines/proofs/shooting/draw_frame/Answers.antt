use Rattle.std.proofs.lemmas.Grind.{common_steps}
use Rattle.std.proofs.Common.{ap, inr, arith}
use Rattle.vcs_tia.specs.Image.{ppm_bytes}
use Rattle.tas_engines.proofs.Shots.{no_halt, the_halt, when_ok, stopped_shot}
use Rattle.tas_engines.proofs.shooting.draw_frame.Goals as goal

pub returns-in-Ok-clause-drawn : goal.returns-in-Ok-clause-drawn
returns-in-Ok-clause-drawn g c = record {
  within = omega arith;
  runs = no_halt _ _ _ c.in_ok-shot.ensures.answer c.in-Ok.is;
  drawn = ap ppm_bytes (when_ok _ _ _ c.in-Ok.is c.in_ok-shot.ensures.picture);
}

pub returns-in-Err-clause-fault : goal.returns-in-Err-clause-fault
returns-in-Err-clause-fault g c = inr (stopped_shot _ _ c.in-Err.halt c.halt_fault.result c.halt_fault.ensures (omega arith) (the_halt _ _ _ c.in_ok-shot.ensures.answer c.in-Err.is))
