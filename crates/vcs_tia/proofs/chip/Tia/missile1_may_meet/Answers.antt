use Rattle.std.proofs.Common.{arith}
use Rattle.std.proofs.lemmas.Grind.{common_steps}
use Rattle.vcs_tia.proofs.chip.Tia.missile1_may_meet.Goals as goal

pub returns-then-not-may_be_lit-clause-playfield : goal.returns-then-not-may_be_lit-clause-playfield
returns-then-not-may_be_lit-clause-playfield c = grind (arith, common_steps)
