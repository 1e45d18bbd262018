use Rattle.std.proofs.Common.{arith}
use Rattle.std.proofs.lemmas.Grind.{common_steps}
use Rattle.tas_published.proofs.PublishedRule.{looks}
use Rattle.tas_published.proofs.movie_reader.look_copy.Goals as goal

pub enter_as-requires : goal.enter_as-requires
enter_as-requires g c = λ x. looks _ _ x

pub returns-in_default : goal.returns-in_default
returns-in_default g c = grind (arith, common_steps)

pub returns-then-is_same : goal.returns-then-is_same
returns-then-is_same g c = grind (arith, common_steps)
