use Rattle.std.proofs.Common.{arith}
use Rattle.std.proofs.lemmas.Grind.{common_steps, elements}
use Rattle.vcs_tia.proofs.chip.Tia.missile0_may_meet.Goals as goal

pub returns-then-not-may_be_lit-clause-playfield : goal.returns-then-not-may_be_lit-clause-playfield
returns-then-not-may_be_lit-clause-playfield c = grind (arith, common_steps)

pub returns-else-may_meet-2-clause-ball : goal.returns-else-may_meet-2-clause-ball
returns-else-may_meet-2-clause-ball c = grind (arith, elements)
