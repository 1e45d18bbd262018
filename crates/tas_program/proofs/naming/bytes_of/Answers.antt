use Rattle.std.proofs.Common.{arith}
use Rattle.std.proofs.lemmas.Grind.{common_steps}
use Rattle.tas_program.proofs.naming.bytes_of.Goals as goal

pub returns-then-place-inputs : goal.returns-then-place-inputs
returns-then-place-inputs g c = grind (arith, common_steps)
