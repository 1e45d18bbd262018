use Rattle.std.proofs.Common.{◌≡◌, map, take}
use Rattle.tas_verify.specs.Manifest.{words_in}
use Rattle.tas_verify.proofs.WorkerLemmas.{rows_of}
use Rattle.tas_verify.proofs.workers.unplayed.Given as goal

abbrev pub invariant-loop-row : goal.invariant-loop-row
invariant-loop-row g l = rows_of l.verified.items ≡ map words_in (take l.row-index l.rows)
