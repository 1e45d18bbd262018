use Rattle.tas_search.proofs.PartLemmas.{sequences_counted}
use Rattle.tas_search.proofs.laws.sequences_are_counted.Goals as goal

pub returns : goal.returns
returns c = sequences_counted
