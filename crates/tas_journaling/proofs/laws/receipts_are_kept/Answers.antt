use Rattle.tas_journaling.proofs.SharedLemmas.{kept_receipt}
use Rattle.tas_journaling.proofs.laws.receipts_are_kept.Goals as goal

pub returns : goal.returns
returns g c = λ head first history journal own seen told is settled begins few most. kept_receipt head first history journal own.front seen told is settled.begins begins few most
