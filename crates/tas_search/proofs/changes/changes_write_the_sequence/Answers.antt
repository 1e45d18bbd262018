use Rattle.tas_search.proofs.ChangeLemmas.{writes}
use Rattle.tas_search.proofs.changes.changes_write_the_sequence.Goals as goal

pub returns : goal.returns
returns c = writes
