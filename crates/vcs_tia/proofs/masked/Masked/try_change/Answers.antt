use Rattle.std.proofs.Common.{arith}
use Rattle.std.proofs.lemmas.Grind.{common_steps}
use Rattle.vcs_tia.proofs.masked.Masked.try_change.Goals as goal

pub returns : goal.returns
returns g c = grind (arith, common_steps)

pub returns-then-not-looks_like : goal.returns-then-not-looks_like
returns-then-not-looks_like g c = grind (arith, common_steps)
