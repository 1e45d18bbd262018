use Rattle.std.proofs.Common.{arith}
use Rattle.std.proofs.lemmas.Grind.{common_steps}
use Rattle.vcs_tia.proofs.objects.PlayerObject.may_be_lit.Goals as goal

pub returns : goal.returns
returns c = grind (arith, common_steps)
