use Rattle.std.proofs.Common.{arith}
use Rattle.std.proofs.lemmas.Grind.{common_steps}
use Rattle.std.proofs.lemmas.List.{drop_min}
use Rattle.tas_desk.proofs.parts.part_len_at.Goals as goal

pub returns : goal.returns
returns g c = grind (arith, common_steps, drop_min)
