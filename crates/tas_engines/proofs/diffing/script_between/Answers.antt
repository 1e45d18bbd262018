use Rattle.std.proofs.Common.{rules}
use Rattle.tas_engines.proofs.diffing.script_between.Goals as goal

pub returns : goal.returns
returns g c = search rules
