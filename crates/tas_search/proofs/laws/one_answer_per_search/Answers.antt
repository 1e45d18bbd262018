use Rattle.tas_search.proofs.OneAnswer.{one_reach, one_value}
use Rattle.tas_search.proofs.OneSearch.{one_text}
use Rattle.tas_search.proofs.laws.one_answer_per_search.Goals as goal

pub returns : goal.returns
returns c = record { shortest = one_reach; value = one_value; text = one_text }
