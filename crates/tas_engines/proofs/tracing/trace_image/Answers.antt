use Rattle.std.proofs.Common.{arith}
use Rattle.std.proofs.lemmas.Grind.{common_steps}
use Rattle.tas_engines.proofs.tracing.trace_image.Goals as goal

pub returns-in_err-cart : goal.returns-in_err-cart
returns-in_err-cart g c = grind (arith, common_steps)
