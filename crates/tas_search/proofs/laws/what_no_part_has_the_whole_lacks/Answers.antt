use Rattle.tas_search.proofs.PartLemmas.{whole_needs, whole_reaches}
use Rattle.tas_search.proofs.laws.what_no_part_has_the_whole_lacks.Goals as goal

pub returns : goal.returns
returns c = record { shortest = whole_needs; value = whole_reaches }
