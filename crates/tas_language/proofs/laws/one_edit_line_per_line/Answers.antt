use Rattle.tas_language.proofs.OneRequest.{one_edit_line}
use Rattle.tas_language.proofs.laws.one_edit_line_per_line.Goals as goal

pub returns : goal.returns
returns c = one_edit_line
