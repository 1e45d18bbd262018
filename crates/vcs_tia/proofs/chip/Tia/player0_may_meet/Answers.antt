use Rattle.std.proofs.Common.{arith}
use Rattle.std.proofs.lemmas.Grind.{common_steps, elements}
use Rattle.vcs_tia.proofs.chip.Tia.player0_may_meet.Goals as goal

pub returns-else-may_meet-4-clause-missile0 : goal.returns-else-may_meet-4-clause-missile0
returns-else-may_meet-4-clause-missile0 c = grind (arith, elements)

pub returns-else-may_meet-4-clause-ball : goal.returns-else-may_meet-4-clause-ball
returns-else-may_meet-4-clause-ball c = grind (arith, elements)

pub returns-else-may_meet-4-clause-missile1 : goal.returns-else-may_meet-4-clause-missile1
returns-else-may_meet-4-clause-missile1 c = grind (arith, elements)

pub returns-then-not-may_be_lit-clause-playfield : goal.returns-then-not-may_be_lit-clause-playfield
returns-then-not-may_be_lit-clause-playfield c = grind (arith, common_steps)
