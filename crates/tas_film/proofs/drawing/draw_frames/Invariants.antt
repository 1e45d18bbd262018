use Rattle.std.proofs.Common.{◌≡◌, ◌+◌, ◌-◌}
use Rattle.tas_green.specs.Run.{state_after}
use Rattle.tas_film.specs.Frames.{AllDrawn, pixmaps_of}
use Rattle.tas_film.proofs.drawing.draw_frames.Given as goal

abbrev pub invariant-loop-frame : goal.invariant-loop-frame
invariant-loop-frame g l = record {
  state : l.state ≡ state_after l.movie l.frame;
  all : AllDrawn l.movie l.first l.frame;
  are : l.pixmaps ≡ pixmaps_of l.movie l.first (l.frame - l.first);
  meter : l.meter ≡ l.fn.meter + (l.frame - l.first);
}
