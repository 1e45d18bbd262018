use Rattle.std.proofs.lemmas.Grind.{common_steps}
use Rattle.std.proofs.Common.{rules, arith}
use Rattle.vcs_tia.proofs.chip.Tia.write_grp0.Goals as goal

pub returns : goal.returns
returns c = search rules

pub returns-then-not-leaves_shown : goal.returns-then-not-leaves_shown
returns-then-not-leaves_shown c = grind (arith, common_steps)
