use Rattle.tas_search.proofs.SequenceLemmas.{sequences_are_all, sequences_in_order}
use Rattle.tas_search.proofs.laws.sequences_are_listed.Goals as goal

pub returns : goal.returns
returns c = record { all = sequences_are_all; order = sequences_in_order }
