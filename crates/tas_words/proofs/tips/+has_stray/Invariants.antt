use Rattle.std.proofs.Common.{length}
use Rattle.tas_words.proofs.tips.+has_stray.Given as goal

abbrev pub decreases-has_stray : goal.decreases-has_stray
decreases-has_stray l = length l.words.now
