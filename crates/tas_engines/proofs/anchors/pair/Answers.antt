use Rattle.std.proofs.Common.{arith}
use Rattle.std.proofs.lemmas.Grind.{common_steps}
use Rattle.tas_engines.proofs.anchors.pair.Goals as goal

pub bounds-new-i-in-loop-i-3 : goal.bounds-new-i-in-loop-i-3
bounds-new-i-in-loop-i-3 g c = grind (arith, common_steps)
