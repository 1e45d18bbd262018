use Rattle.tas_language.proofs.OneRequest.{one_request}
use Rattle.tas_language.proofs.laws.one_request_per_line.Goals as goal

pub returns : goal.returns
returns c = one_request
