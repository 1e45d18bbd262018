use Rattle.std.proofs.Common.{◌-◌, List, length, map}
use Rattle.tas_verify.specs.Manifest.{words_in}
use Rattle.tas_verify.specs.Lines.{RowEnd}
use Rattle.tas_verify.specs.Inside.Running.{SoFar}
use Rattle.tas_verify.proofs.running.run_rows.Given as goal

abbrev pub invariant-loop-at : goal.invariant-loop-at
invariant-loop-at g l = (ends : List RowEnd) × SoFar (g.S.Shelf.facts l.shelf) (map words_in l.rows) l.at (g.W.Write.contents l.fn.output) (g.W.Write.contents l.output) l.written l.same ends

abbrev pub decreases-loop-at : goal.decreases-loop-at
decreases-loop-at g l = length l.rows - l.at
