use Rattle.std.proofs.Common.{arith}
use Rattle.std.proofs.lemmas.Grind.{common_steps}
use Rattle.tas_verify.proofs.playing.is_sha256.Goals as goal

pub returns : goal.returns
returns c = grind (arith, common_steps)
