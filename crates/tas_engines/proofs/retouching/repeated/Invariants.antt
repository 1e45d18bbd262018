use Rattle.std.proofs.Common.{◌≡◌}
use Rattle.tas_engines.specs.Retouching.{times_over}
use Rattle.tas_engines.proofs.retouching.repeated.Given as goal

abbrev pub invariant-loop-done : goal.invariant-loop-done
invariant-loop-done g l = l.list.items ≡ times_over l._done l.frames
