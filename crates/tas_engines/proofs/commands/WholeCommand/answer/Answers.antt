use Rattle.std.proofs.Common.{arith}
use Rattle.std.proofs.lemmas.Grind.{common_steps}
use Rattle.tas_engines.proofs.commands.WholeCommand.answer.Goals as goal

pub returns-in_err-text : goal.returns-in_err-text
returns-in_err-text g c = grind (arith, common_steps)
