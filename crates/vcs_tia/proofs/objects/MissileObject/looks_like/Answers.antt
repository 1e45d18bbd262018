use Rattle.std.proofs.Common.{arith}
use Rattle.std.proofs.lemmas.Grind.{common_steps}
use Rattle.vcs_tia.proofs.objects.MissileObject.looks_like.Goals as goal

pub returns-then-self-other-clause-appearance : goal.returns-then-self-other-clause-appearance
returns-then-self-other-clause-appearance c = grind (arith, common_steps)
