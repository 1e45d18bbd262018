use Rattle.std.proofs.Common.{arith}
use Rattle.std.proofs.lemmas.Grind.{common_steps}
use Rattle.tas_words.proofs.tips.may_be_number.Goals as goal

pub returns-then-byte-ne43 : goal.returns-then-byte-ne43
returns-then-byte-ne43 c = grind (arith, common_steps)
