use Rattle.std.proofs.Common.{◌≡◌, take}
use Rattle.tas_engines.specs.Differences.{frames}
use Rattle.tas_engines.proofs.alike.frames_of.Given as goal

abbrev pub invariant-loop-i : goal.invariant-loop-i
invariant-loop-i l = l.count ≡ frames (take l.i l.runs)
