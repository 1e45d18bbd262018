use Rattle.tas_search.proofs.PartLemmas.{extreme_part}
use Rattle.tas_search.proofs.laws.best_value_of_parts_is_best.Goals as goal

pub returns : goal.returns
returns c = extreme_part
