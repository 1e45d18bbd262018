use Rattle.tas_language.proofs.OneCommand.{one_command}
use Rattle.tas_language.proofs.laws.one_command_per_line.Goals as goal

pub returns : goal.returns
returns c = one_command
