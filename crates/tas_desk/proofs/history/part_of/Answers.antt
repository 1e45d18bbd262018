use Rattle.std.proofs.Common.{arith}
use Rattle.std.proofs.lemmas.Grind.{common_steps}
use Rattle.tas_desk.proofs.history.part_of.Goals as goal

pub slice_bounds-copies-end : goal.slice_bounds-copies-end
slice_bounds-copies-end g c = grind (arith, common_steps)
