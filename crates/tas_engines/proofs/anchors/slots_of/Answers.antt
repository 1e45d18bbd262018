use Rattle.std.proofs.Common.{arith}
use Rattle.std.proofs.lemmas.Grind.{common_steps}
use Rattle.tas_engines.proofs.anchors.slots_of.Goals as goal

pub slot_place-at-requires : goal.slot_place-at-requires
slot_place-at-requires g c = grind (arith, common_steps)
