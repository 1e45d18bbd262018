use Rattle.tas_search.proofs.PartLemmas.{shortest_part}
use Rattle.tas_search.proofs.laws.best_part_is_best.Goals as goal

pub returns : goal.returns
returns c = shortest_part
