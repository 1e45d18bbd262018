use Rattle.std.proofs.Common.{arith}
use Rattle.std.proofs.lemmas.Grind.{common_steps}
use Rattle.vcs_tia.proofs.chip.Tia.write_grp1.Goals as goal

pub returns : goal.returns
returns c = grind (arith, common_steps)

pub returns-then-not-is_unseen_grp1 : goal.returns-then-not-is_unseen_grp1
returns-then-not-is_unseen_grp1 c = grind (arith, common_steps)
