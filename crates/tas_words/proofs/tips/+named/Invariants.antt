use Rattle.std.proofs.Common.{length}
use Rattle.tas_words.proofs.tips.+named.Given as goal

abbrev pub decreases-named : goal.decreases-named
decreases-named l = length l.commands.now
