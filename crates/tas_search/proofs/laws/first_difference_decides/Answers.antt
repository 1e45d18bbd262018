use Rattle.tas_search.proofs.OrderLemmas.{difference_decides}
use Rattle.tas_search.proofs.laws.first_difference_decides.Goals as goal

pub returns : goal.returns
returns c = difference_decides
