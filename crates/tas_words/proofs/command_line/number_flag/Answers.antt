use Rattle.std.proofs.Common.{arith}
use Rattle.std.proofs.lemmas.Grind.{common_steps}
use Rattle.tas_words.proofs.command_line.number_flag.Goals as goal

pub returns-clause-local : goal.returns-clause-local
returns-clause-local c = grind (arith, common_steps)

pub returns-clause-rule : goal.returns-clause-rule
returns-clause-rule c = grind (arith, common_steps)
