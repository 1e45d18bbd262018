use Rattle.std.proofs.Common.{rules}
use Rattle.tas_movie.proofs.reading.after_digest.Goals as goal

pub returns-then-ne-clause-fault : goal.returns-then-ne-clause-fault
returns-then-ne-clause-fault g c = search rules

pub returns-clause-whole : goal.returns-clause-whole
returns-clause-whole g c = search rules

pub returns-clause-fault : goal.returns-clause-fault
returns-clause-fault g c = search rules
