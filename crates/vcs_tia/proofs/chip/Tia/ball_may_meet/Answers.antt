use Rattle.std.proofs.Common.{arith}
use Rattle.std.proofs.lemmas.Grind.{common_steps}
use Rattle.vcs_tia.proofs.chip.Tia.ball_may_meet.Goals as goal

pub returns-then-not-may_be_lit : goal.returns-then-not-may_be_lit
returns-then-not-may_be_lit c = grind (arith, common_steps)
