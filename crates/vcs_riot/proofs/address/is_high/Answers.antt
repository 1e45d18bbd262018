use Rattle.std.proofs.Common.{rules}
use Rattle.vcs_riot.proofs.address.is_high.Goals as goal

pub returns : goal.returns
returns c = search rules
