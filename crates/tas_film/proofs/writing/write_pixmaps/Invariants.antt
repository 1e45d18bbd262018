use Rattle.std.proofs.Common.{◌≡◌, take, length}
use Rattle.std.specs.List.{concat}
use Rattle.std.specs.Io.KnownBytes.{Appends}
use Rattle.tas_film.specs.Runs.{pixmaps_in}
use Rattle.tas_film.proofs.writing.write_pixmaps.Given as goal

abbrev pub invariant-loop-run : goal.invariant-loop-run
invariant-loop-run g l = record {
  size : l.written ≡ length (concat (take l.run-index (pixmaps_in l.runs)));
  out : Appends (g.W.Write.contents l.fn.to) (g.W.Write.contents l.to) (concat (take l.run-index (pixmaps_in l.runs)));
}
