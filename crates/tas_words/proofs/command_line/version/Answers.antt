use Rattle.std.specs.Fmt.{digits}
use Rattle.std.proofs.Common.{refl}
use Rattle.tas_words.proofs.command_line.version.Goals as goal

pub returns : goal.returns
unfolding digits
returns c = refl
