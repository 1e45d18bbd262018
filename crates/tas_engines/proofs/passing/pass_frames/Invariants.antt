use Rattle.std.proofs.Common.{◌≡◌}
use Rattle.tas_green.specs.Run.{state_after}
use Rattle.tas_engines.proofs.passing.pass_frames.Given as goal

abbrev pub invariant-loop-k : goal.invariant-loop-k
invariant-loop-k g l = l.state ≡ state_after l.movie l.k
