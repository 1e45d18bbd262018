use Rattle.std.proofs.Common.{arith}
use Rattle.std.proofs.lemmas.Grind.{common_steps}
use Rattle.tas_verify.proofs.lines.push_outcome.Goals as goal

pub returns-in_ok-push_two-in-Unread : goal.returns-in_ok-push_two-in-Unread
returns-in_ok-push_two-in-Unread g c = grind (arith, common_steps)
