use Rattle.std.proofs.Common.{arith}
use Rattle.std.proofs.lemmas.Grind.{common_steps}
use Rattle.tas_search.proofs.verdict.stop_line.Goals as goal

pub returns-in_ok-text-in-Reach : goal.returns-in_ok-text-in-Reach
returns-in_ok-text-in-Reach g c = grind (arith, common_steps)
