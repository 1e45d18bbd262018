use Rattle.std.proofs.Common.{◌∷◌, decimal}
use Rattle.tas_program.proofs.saving.part_name.Goals as goal

pub returns : goal.returns
returns g c = (46, 112 ∷ 97 ∷ 114 ∷ 116 ∷ decimal c.args.number, c.in_ok-name.ensures.ok)
