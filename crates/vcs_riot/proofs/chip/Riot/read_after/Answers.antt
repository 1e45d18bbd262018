use Rattle.std.proofs.Common.{rules}
use Rattle.vcs_riot.proofs.chip.Riot.read_after.Goals as goal

pub returns-then-is_high-2 : goal.returns-then-is_high-2
returns-then-is_high-2 c = search rules
