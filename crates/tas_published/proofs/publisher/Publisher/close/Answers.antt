use Rattle.std.proofs.Common.{rules}
use Rattle.tas_published.proofs.publisher.Publisher.close.Goals as goal

pub returns-clause-journal : goal.returns-clause-journal
returns-clause-journal g c = search rules
