use Rattle.std.proofs.Common.{[], ◌∷◌, rules}
use Rattle.tas_journaling.proofs.ReceiptLemmas.{begins}
use Rattle.tas_journaling.proofs.receipts.Tally.new.Goals as goal

pub ruled-requires : goal.ruled-requires
ruled-requires c = (search rules, (search rules, begins (0 ∷ [])))
