use Rattle.std.proofs.Common.{arith}
use Rattle.std.proofs.lemmas.Grind.{common_steps}
use Rattle.tas_words.proofs.tips.push_text.Goals as goal

pub returns-then-not-is_flag : goal.returns-then-not-is_flag
returns-then-not-is_flag g c = grind (arith, common_steps)
