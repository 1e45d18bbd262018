use Rattle.std.proofs.Common.{arith}
use Rattle.std.proofs.lemmas.Grind.{common_steps}
use Rattle.tas_published.proofs.PublishedRule.{starts, first_sound}
use Rattle.tas_published.proofs.publisher.new_writer.Goals as goal

pub new-requires-3-clause-rule : goal.new-requires-3-clause-rule
new-requires-3-clause-rule g c = starts c.new.result (first_sound _ _ _ _ c.new.ensures c.in_ok-first.ensures c.copy.ensures c.requires.empty)

pub new-requires-3-clause-alike : goal.new-requires-3-clause-alike
new-requires-3-clause-alike g c = grind (arith, common_steps)
