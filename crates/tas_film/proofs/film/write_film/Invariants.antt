use Rattle.std.proofs.Common.{◌≡◌, ◌-◌, ◌*◌}
use Rattle.std.specs.Io.KnownBytes.{Appends}
use Rattle.tas_green.specs.Run.{state_after}
use Rattle.tas_film.specs.Frames.{AllDrawn, pixmaps_of}
use Rattle.tas_film.proofs.film.write_film.Given as goal

abbrev pub invariant-loop-frame : goal.invariant-loop-frame
invariant-loop-frame g l = record {
  state : l.state ≡ state_after l.movie l.frame;
  all : AllDrawn l.movie l.from l.frame;
  size : l.written ≡ (l.frame - l.from) * 100815;
  out : Appends (g.W.Write.contents l.fn.output) (g.W.Write.contents l.output) (pixmaps_of l.movie l.from (l.frame - l.from));
}
