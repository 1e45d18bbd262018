use Rattle.std.proofs.Common.{take}
use Rattle.tas_film.specs.Runs.{pixmaps_in, AreRunsEnd}
use Rattle.tas_film.proofs.runs.play_runs.Given as goal

abbrev pub invariant-loop-run : goal.invariant-loop-run
invariant-loop-run g l = AreRunsEnd l.movie l.zone l.fn.plan l.run-index (pixmaps_in (take l.run-index l.run-items)) l.end
