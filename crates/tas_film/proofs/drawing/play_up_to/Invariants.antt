use Rattle.std.proofs.Common.{◌≡◌, ◌+◌, ◌-◌}
use Rattle.tas_green.specs.Run.{state_after}
use Rattle.tas_film.proofs.drawing.play_up_to.Given as goal

abbrev pub invariant-loop-frame : goal.invariant-loop-frame
invariant-loop-frame g l = record {
  state : l.state ≡ state_after l.movie l.frame;
  meter : l.meter ≡ l.fn.meter + (l.frame - l.fn.start.frame);
}
